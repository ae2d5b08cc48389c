-- The steps of the reduction, as relations between a matrix m and what it becomes, n.
use Rattle.std.specs.Prelude.{◌≡◌, ℕ, ◌+◌, ◌<◌, ◌≤◌, ◌≢◌}
use Rattle.field.specs.Meaning.{Meaning}
use Rattle.algebra.specs.Matrices.{SameNull, Echelon}
use Rattle.reduction.specs.Blocks.{Symbols}

-- row i is the first from `top` on whose entry in column k is not 0
pub record Pivot (rows : ℕ) (m : ℕ → ℕ → ℕ) (top k i : ℕ) : Type 0 where
  pub from : top ≤ i
  pub within : i < rows
  pub nonzero : 0 < m i k
  pub first : (h : ℕ) → top ≤ h → h < i → m h k ≡ 0

-- column k is cleared with row a, which stays: every other row becomes its sum with a multiple of row a
pub record Cleared (f : Meaning) (rows c : ℕ) (m n : ℕ → ℕ → ℕ) (a k : ℕ) : Type 0 where
  pub pivot : (j : ℕ) → j < c → n a j ≡ m a j
  pub others : (i j : ℕ) → i < rows → j < c → (i ≢ a) → n i j ≡ f.sum (m i j) (f.product (m i k) (m a j))
  pub zeros : (i : ℕ) → i < rows → (i ≢ a) → n i k ≡ 0

-- one column's step: with `top` leading entries in the columns before column k, there are `next` in those up to it
pub record Stepped (f : Meaning) (rows c k : ℕ) (m n : ℕ → ℕ → ℕ) (top next : ℕ) : Type 0 where
  pub symbols : Symbols f.q rows c n
  pub nulls : SameNull f rows c m n
  pub within : next ≤ rows
  pub shape : (lead : ℕ → ℕ) → Echelon rows k m top lead → (more : ℕ → ℕ) × Echelon rows (k + 1) n next more
