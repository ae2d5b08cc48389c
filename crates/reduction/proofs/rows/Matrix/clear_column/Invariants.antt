use Rattle.reduction.specs.Rows.{entries, IsSameMatrix}
use Rattle.reduction.proofs.Clearings.{ClearTo}
use Rattle.reduction.proofs.rows.Matrix.clear_column.Given as goal

abbrev pub invariant-loop-i : goal.invariant-loop-i
invariant-loop-i g l = record {
  same : IsSameMatrix l.initial.self l.self;
  clear : ClearTo (g.F.Field.meaning l.f) l.initial.self.rows l.initial.self.columns (entries l.initial.self) (entries l.self) l.a l.column l.i;
}
