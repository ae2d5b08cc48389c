-- A block: a matrix of symbols that stands in a list, row by row.
use Rattle.std.specs.Prelude.{◌≡◌, ℕ, ◌+◌, ◌*◌, ◌<◌, List, length, Some, None, Option, slice_index}
use Rattle.field.specs.Meaning.{Meaning}
use Rattle.algebra.specs.Matrices.{Reduced}

-- the matrix of c columns that xs holds row by row: row i begins at place i * c
abbrev pub at : ℕ → List ℕ → ℕ → ℕ → ℕ
at c xs i j = slice_index xs (i * c + j)

-- the entries of a matrix are symbols
abbrev pub Symbols : ℕ → ℕ → ℕ → (ℕ → ℕ → ℕ) → Type 0
Symbols q rows c m = (i j : ℕ) → i < rows → j < c → m i j < q

-- xs is a block of this many rows and columns, of symbols below q
pub record Block (q rows c : ℕ) (xs : List ℕ) : Type 0 where
  pub sized : length xs ≡ rows * c
  pub symbols : (k : ℕ) → k < length xs → slice_index xs k < q

-- What a reduction answers where the list xs becomes ys: the rank, or nothing where xs is no block and stays as it is.
abbrev pub Outcome : Meaning → ℕ → ℕ → List ℕ → List ℕ → Option ℕ → Type 0
Outcome f rows c xs ys (Some rank) = Block f.q rows c xs × Reduced f rows c (at c xs) (at c ys) rank
Outcome f rows c xs ys None = (Block f.q rows c xs → ⊥) × (ys ≡ xs)
