use Rattle.std.proofs.Common.{ℕ, ◌+◌, ◌-◌, List, get_or, ap, ap₂, ◌∙◌, arith}
use Rattle.reduction.specs.Blocks.{at}
use Rattle.reduction.proofs.Places.{row_part, row_part_long, row_put}
use Rattle.reduction.proofs.rows.Matrix.add_row.Goals as goal

pub returns-clause-added : goal.returns-clause-added
returns-clause-added g c =
    let f = g.F.Field.meaning c.args.f.now in
    let m = c.args.self.now in
    let xs = m.symbols.now in
    let start = c.place-start.result in
    let added = c.place-added.result in
    let n : ℕ = start + m.columns - start in
    let k : ℕ = added + m.columns - added in
    let es = c.place-start.ensures.is in
    let ea = c.place-added.ensures.is in
    row_put m.rows m.columns xs c.copy_from_slice-2.new.self c.args.a start n m.sized c.requires.row es
    (omega arith) c.copy_from_slice-2.auto.self
    (λ j. f.sum (at m.columns xs c.args.a j) (f.product c.args.by (at m.columns xs c.args.h j)))
    (λ j l.
    ap (λ (ys : List ℕ). get_or ys j 0) c.copy_from_slice-2.ensures.after
    ∙ c.add_multiple.ensures j (omega (arith, row_part_long m.rows m.columns xs c.args.h added k m.sized c.requires.added ea (omega arith)))
    ∙ ap₂ f.sum
    (ap (λ (ys : List ℕ). get_or ys j 0) c.copy_from_slice.ensures.after ∙ row_part m.columns xs c.args.a start n es (omega arith) j l)
    (ap (f.product c.args.by) (row_part m.columns xs c.args.h added k ea (omega arith) j l)))
