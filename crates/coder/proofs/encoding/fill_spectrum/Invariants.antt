use Rattle.std.proofs.Common.{◌≡◌, ℕ, ◌*◌, ◌<◌, ◌≤◌}
use Rattle.algebra.specs.Solutions.{offset}
use Rattle.coder.specs.Columns.{coefficient}
use Rattle.coder.specs.Encoding.{spread}
use Rattle.coder.specs.Forms.{frees}
use Rattle.coder.proofs.encoding.fill_spectrum.Given as goal

abbrev pub invariant-loop-t : goal.invariant-loop-t
invariant-loop-t g l =
    let s = l.forms.shape in
    let blocks = l.forms.symbols.now in
    (l.first ≡ offset s.columns (frees s.rows s.columns blocks) l.t) × (l.first ≤ 64 * l.t)
    × ((t j : ℕ) → t < l.t → j < s.columns
    → coefficient s.columns l.work j t ≡ spread (g.F.Field.meaning l.f) s.rows s.columns blocks l.message t j)
