use Rattle.std.proofs.Common.{ℕ, ◌+◌, ◌-◌, ap, ◌∙◌, arith}
use Rattle.reduction.specs.Blocks.{at}
use Rattle.reduction.proofs.Places.{row_part, row_part_long, row_put}
use Rattle.reduction.proofs.rows.Matrix.scale_row.Goals as goal

pub returns-clause-scaled : goal.returns-clause-scaled
returns-clause-scaled g c =
    let f = g.F.Field.meaning c.args.f.now in
    let m = c.args.self.now in
    let xs = m.symbols.now in
    let start = c.place-start.result in
    let n : ℕ = start + m.columns - start in
    let es = c.place-start.ensures.is in
    row_put m.rows m.columns xs c.multiply_row.new.row c.args.a start n m.sized c.requires.row es
    (omega arith) c.multiply_row.auto.row (λ j. f.product c.args.by (at m.columns xs c.args.a j))
    (λ j l. c.multiply_row.ensures j (omega (arith, row_part_long m.rows m.columns xs c.args.a start n m.sized c.requires.row es (omega arith)))
    ∙ ap (f.product c.args.by) (row_part m.columns xs c.args.a start n es (omega arith) j l))
