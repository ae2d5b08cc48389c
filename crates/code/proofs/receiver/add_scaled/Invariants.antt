use Rattle.std.proofs.Common.{◌≡◌, ℕ, ◌<◌, ◌≤◌, get_or}
use Rattle.code.proofs.receiver.add_scaled.Given as goal

abbrev pub invariant-loop-s : goal.invariant-loop-s
invariant-loop-s g l =
    let m = g.F.Field.meaning l.f in
    ((k : ℕ) → k < l.s → get_or l.sums k 0 ≡ m.sum (get_or l.initial.sums k 0) (m.product l.by (get_or l.xs k 0)))
    × ((k : ℕ) → l.s ≤ k → get_or l.sums k 0 ≡ get_or l.initial.sums k 0)
