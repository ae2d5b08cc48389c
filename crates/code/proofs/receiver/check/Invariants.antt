use Rattle.std.proofs.Common.{◌≡◌, ℕ, ◌<◌, length}
use Rattle.code.specs.Checks.{syndrome}
use Rattle.code.proofs.receiver.check.Given as goal

abbrev pub invariant-loop-row : goal.invariant-loop-row
invariant-loop-row g l =
    (length l.sums ≡ l.shape.size)
    × ((h k : ℕ) → h < l.row → k < l.shape.size
    → syndrome (g.F.Field.meaning l.f) l.shape.size l.shape.columns l.cells l.word h k ≡ 0)
