use Rattle.std.proofs.Common.{rules}
use Rattle.reduction.specs.Rows.{entries}
use Rattle.reduction.proofs.Clearings.{pivot_nulls}
use Rattle.reduction.proofs.rows.Matrix.scale_pivot.Goals as goal

pub returns-clause-nulls : goal.returns-clause-nulls
returns-clause-nulls g c =
    let m = c.args.self.now in
    pivot_nulls (g.F.Field.meaning c.args.f.now) (g.met.F.Field.lawful c.args.f.now) m.rows m.columns (entries m)
    (entries c.scale_row.new.self) c.args.a c.args.column c.requires.row c.requires.nonzero c.requires.symbol (search rules)
