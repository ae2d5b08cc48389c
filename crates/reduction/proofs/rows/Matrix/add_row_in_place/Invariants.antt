use Rattle.std.proofs.Common.{ℕ}
use Rattle.reduction.specs.Blocks.{at}
use Rattle.reduction.proofs.Places.{RowTo}
use Rattle.reduction.proofs.rows.Matrix.add_row_in_place.Given as goal

abbrev pub invariant-loop-j : goal.invariant-loop-j
invariant-loop-j g l =
    let f = g.F.Field.meaning l.f in
    let m : ℕ → ℕ → ℕ = at l.columns l.initial.symbols in
    RowTo l.fn.self.rows l.columns m (at l.columns l.symbols) l.a (λ j. f.sum (m l.a j) (f.product l.by (m l.h j))) l.j
