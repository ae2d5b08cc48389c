use Rattle.std.proofs.Common.{◌≡◌, ℕ, ◌+◌, ◌*◌, ◌<◌, length, get_or, take, sym, refl, ap, ◌∙◌, subst, arith}
use Rattle.array.specs.Cells.{normal, terms_of}
use Rattle.array.specs.Buffers.{blank, cell_at}
use Rattle.array.specs.declared.plain.CellRow.{CellRow}
use Rattle.array.proofs.CellsFacts.{terms_normal}
use Rattle.code.specs.Checks.{cell_sum}
use Rattle.algebra.proofs.Sums.{total_below}
use Rattle.code.proofs.Rotations.{part_at}
use Rattle.code.proofs.Sums.{row_more}
use Rattle.code.proofs.receiver.row_syndromes.Goals as goal

pub add_cell-requires-clause-symbols : goal.add_cell-requires-clause-symbols
add_cell-requires-clause-symbols g c = λ s h.
    let f = g.F.Field.meaning c.args.f.now in
    let total_so_far = c.loop-j.invariant s (omega arith) in
    subst (λ (x : ℕ). x < f.q) (sym total_so_far) (total_below f (g.met.F.Field.lawful c.args.f.now) c.loop-j.j _)

pub loop-j-preserved : goal.loop-j-preserved
loop-j-preserved g c = λ s h.
    let f = g.F.Field.meaning c.args.f.now in
    let e = c.args.shape.now.size in
    let n = c.args.shape.now.columns in
    let row = cell_at n c.args.cells.now c.args.row c.loop-j.j in
    let column = c.part.result.now in
    let len : length column ≡ e = omega arith in
    let here : get_or c.part-row_cells.result.now c.loop-j.j blank ≡ row =
    part_at c.args.cells.now c.columns.result c.args.row c.part-row_cells.result.now blank c.part-row_cells.ensures.is c.loop-j.j (omega arith)
    ∙ ap (λ (k : ℕ). get_or c.args.cells.now (c.args.row * k + c.loop-j.j) blank) c.columns.ensures in
    row_more f (g.met.F.Field.lawful c.args.f.now) e c.loop-j.j
    (λ j. cell_sum f e (terms_of (cell_at n c.args.cells.now c.args.row j)) (λ k. get_or c.args.word.now (j * e + k) 0) s)
    c.terms.result.now (terms_of row) (λ l. get_or column l 0) (λ k. get_or c.args.word.now (c.loop-j.j * e + k) 0)
    s (get_or c.loop-j.sums s 0) (get_or c.add_cell.new.sums s 0) (omega arith)
    (c.loop-j.invariant s h)
    (c.terms.ensures ∙ ap (λ (r : CellRow). take r.count r.terms) (c.from.ensures ∙ ap normal here) ∙ terms_normal row)
    (λ l k. part_at c.args.word.now c.size.result c.loop-j.j column 0 c.part.ensures.is l (omega arith)
    ∙ ap (λ (m : ℕ). get_or c.args.word.now (c.loop-j.j * m + l) 0) c.size.ensures) refl
    (c.add_cell.ensures s (omega arith)
    ∙ ap (λ (n : ℕ). f.sum (get_or c.loop-j.sums s 0) (cell_sum f n c.terms.result.now (λ l. get_or column l 0) s)) len)
