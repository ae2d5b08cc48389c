use Rattle.std.proofs.Common.{◌≡◌, ℕ, ◌<◌, cond, get_or}
use Rattle.algebra.specs.Matrices.{free}
use Rattle.algebra.specs.Solutions.{solved}
use Rattle.coder.specs.Forms.{row_major}
use Rattle.coder.proofs.matrices.Matrix.solve.Given as goal

abbrev pub invariant-loop-j : goal.invariant-loop-j
invariant-loop-j g l =
    let rows = l.self.rows in
    let n = l.self.columns in
    let b = row_major n l.self.symbols.now in
    (v : ℕ → ℕ) → ((j : ℕ) → j < n → get_or l.values j 0 ≡ cond (free rows b j) (v j) 0)
    → (j : ℕ) → j < l.j → get_or l.row j 0 ≡ solved (g.F.Field.meaning l.f) rows n b v j
