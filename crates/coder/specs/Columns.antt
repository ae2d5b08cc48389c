-- Polynomials in columns: a buffer holds n rows of `columns` symbols, and column j of it is a polynomial of n coefficients.
use Rattle.std.specs.Prelude.{◌≡◌, ℕ, ◌+◌, ◌*◌, ◌%◌, ◌<◌, ◌≤◌, List, ◌≢◌, slice_index}
use Rattle.field.specs.Meaning.{Meaning, power}
use Rattle.field.specs.Sums.{total}

-- the value at x of the polynomial whose coefficients are y 0, y 1, .., y (n - 1)
abbrev pub value : Meaning → ℕ → (ℕ → ℕ) → ℕ → ℕ
value f n y x = total f n (λ t. f.product (y t) (power f x t))

-- coefficient t of column j
abbrev pub coefficient : ℕ → List ℕ → ℕ → ℕ → ℕ
coefficient columns xs j t = slice_index xs (t * columns + j)

-- After symbol l of each column of a word was written, v j in column j: a column has e symbols, and nothing else was changed.
pub record SymbolWritten (columns e l : ℕ) (v : ℕ → ℕ) (before after : List ℕ) : Type 0 where
  pub here : (j : ℕ) → j < columns → slice_index after (j * e + l) ≡ v j
  pub others : (i : ℕ) → (i % e ≢ l) → slice_index after i ≡ slice_index before i
  pub past : (i : ℕ) → columns * e ≤ i → slice_index after i ≡ slice_index before i
