use Rattle.std.proofs.Common.{◌≡◌, ℕ, ◌+◌, ◌<◌, ◌≤◌, cond, get_or}
use Rattle.algebra.specs.Matrices.{free, count}
use Rattle.coder.specs.Forms.{row_major}
use Rattle.coder.proofs.matrices.Matrix.spread_free.Given as goal

abbrev pub invariant-loop-j : goal.invariant-loop-j
invariant-loop-j l =
    let p = free l.self.rows (row_major l.self.columns l.self.symbols.now) in
    (l.k ≡ l.first + count l.j p) × (l.k ≤ 65536 + l.j)
    × ((h : ℕ) → h < l.j → get_or l.values h 0 ≡ cond (p h) (get_or l.message (l.first + count h p) 0) 0)
