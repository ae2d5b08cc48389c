use Rattle.std.proofs.Common.{◌≡◌, ◌/◌, ◌^◌}
use Rattle.field.specs.Meaning.{power}
use Rattle.blocks.proofs.powers.power_of.Given as goal

abbrev pub invariant-loop-i : goal.invariant-loop-i
invariant-loop-i g l = l.p ≡ power (g.F.Field.meaning l.f) l.a (l.k / 2 ^ l.i)
