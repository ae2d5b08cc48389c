use Rattle.std.proofs.Common.{◌≡◌, ◌^◌, ◌<◌}
use Rattle.field.specs.Shift.{scaled}
use Rattle.field.proofs.Steps.{multiples}
use Rattle.field.proofs.shift.ShiftFieldBinary.multiply.Given as goal

abbrev pub invariant-loop-i : goal.invariant-loop-i
invariant-loop-i l = (l.multiple < 2 ^ l.self.degree) × (l.multiple ≡ scaled l.self.degree l.i l.b)
    × (l.p ≡ multiples l.self.degree l.i l.b l.a)
