use Rattle.std.proofs.Common.{◌≡◌, ℕ, ◌<◌, ◌≤◌, get_or}
use Rattle.reduction.proofs.rows.add_multiple.Given as goal

abbrev pub invariant-loop-j : goal.invariant-loop-j
invariant-loop-j g l =
    let m = g.F.Field.meaning l.f in
    ((k : ℕ) → k < l.j → get_or l.sums k 0 ≡ m.sum (get_or l.initial.sums k 0) (m.product l.by (get_or l.row k 0)))
    × ((k : ℕ) → l.j ≤ k → get_or l.sums k 0 ≡ get_or l.initial.sums k 0)
