use Rattle.std.proofs.Common.{◌≡◌, ℕ, ◌+◌, ◌*◌, ◌<◌, get_or}
use Rattle.field.specs.Sums.{total}
use Rattle.array.specs.Cells.{terms_of}
use Rattle.array.specs.Buffers.{cell_at}
use Rattle.code.specs.Checks.{cell_sum}
use Rattle.code.proofs.receiver.row_syndromes.Given as goal

abbrev pub invariant-loop-j : goal.invariant-loop-j
invariant-loop-j g l =
    let e = l.shape.size in
    (s : ℕ) → s < e → get_or l.sums s 0
    ≡ total (g.F.Field.meaning l.f) l.j
    (λ j. cell_sum (g.F.Field.meaning l.f) e (terms_of (cell_at l.shape.columns l.cells l.row j)) (λ k. get_or l.word (j * e + k) 0) s)
