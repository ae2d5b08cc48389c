use Rattle.std.proofs.Common.{◌≡◌, ℕ, ◌+◌, ◌-◌, ◌<◌, get_or}
use Rattle.coder.specs.Columns.{value, coefficient}
use Rattle.coder.proofs.transform.step_rows.Given as goal

abbrev pub invariant-loop-t : goal.invariant-loop-t
invariant-loop-t g l =
    let w = l.work in
    (j : ℕ) → j < w.columns → get_or l.sums j 0
    ≡ value (g.F.Field.meaning l.f) (w.rows - l.t) (λ t. coefficient w.columns w.symbols.now j (l.t + t)) l.x
