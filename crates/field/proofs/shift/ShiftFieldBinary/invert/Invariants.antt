use Rattle.std.proofs.Common.{◌≡◌, ◌-◌, ◌^◌, ◌<◌}
use Rattle.field.specs.Shift.{raised}
use Rattle.field.proofs.shift.ShiftFieldBinary.invert.Given as goal

abbrev pub invariant-loop : goal.invariant-loop
invariant-loop l = (l.square < 2 ^ l.self.degree) × (l.p < 2 ^ l.self.degree)
    × (l.square ≡ raised l.self.degree l.a (2 ^ (l.counter - 1))) × (l.p ≡ raised l.self.degree l.a (2 ^ l.counter - 2))
