use Rattle.reduction.specs.Rows.{entries, IsSameMatrix}
use Rattle.reduction.proofs.Columns.{Swept}
use Rattle.reduction.proofs.rows.Matrix.eliminate.Given as goal

abbrev pub invariant-loop-column : goal.invariant-loop-column
invariant-loop-column g l = record {
  same : IsSameMatrix l.initial.self l.self;
  swept : Swept (g.F.Field.meaning l.f) l.initial.self.rows l.initial.self.columns (entries l.initial.self) (entries l.self) l.top l.column;
}
