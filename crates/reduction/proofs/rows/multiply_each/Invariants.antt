use Rattle.reduction.proofs.Places.{MapTo}
use Rattle.reduction.proofs.rows.multiply_each.Given as goal

abbrev pub invariant-loop-x : goal.invariant-loop-x
invariant-loop-x g l = MapTo ((g.F.Field.meaning l.f).product l.by) l.initial.row l.row l.x-index
