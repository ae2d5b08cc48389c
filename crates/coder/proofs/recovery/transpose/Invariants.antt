use Rattle.std.proofs.Common.{◌≡◌, ℕ, ◌+◌, ◌*◌, ◌<◌, get_or}
use Rattle.coder.specs.Columns.{coefficient}
use Rattle.coder.proofs.recovery.transpose.Given as goal

abbrev pub invariant-loop-l : goal.invariant-loop-l
invariant-loop-l l =
    let s = l.shape in
    (k j : ℕ) → k < l.l → j < s.columns → coefficient s.columns l.work j k ≡ get_or l.word (j * s.size + k) 0
