-- The solutions of a linear system, the vectors in the null space of its matrix, by the free columns of the echelon form.
use Rattle.std.specs.Prelude.{◌≡◌, ℕ, zero, suc, ◌+◌, ◌<◌, Bool, cond, List, [], ◌∷◌, ◌++◌, length, slice_index}
use Rattle.field.specs.Meaning.{Meaning, Lawful, CharacteristicTwo}
use Rattle.field.specs.Sums.{total}
use Rattle.algebra.specs.Matrices.{Null, Reduced, lead_row, free, count}

-- the product of row i of m with v, over the free columns alone
unfoldable pub free_part : Meaning → ℕ → ℕ → (ℕ → ℕ → ℕ) → ℕ → (ℕ → ℕ) → ℕ
free_part f rows c m i v = total f c (λ h. cond (free rows m h) (f.product (m i h) (v h)) 0)

-- entry j of the solution that has v's entries in the free columns
unfoldable pub solved : Meaning → ℕ → ℕ → (ℕ → ℕ → ℕ) → (ℕ → ℕ) → ℕ → ℕ
solved f rows c m v j = cond (free rows m j) (v j) (free_part f rows c m (lead_row rows m j) v)

-- entry j of the solution whose k-th free entry is x k
abbrev pub filled : Meaning → ℕ → ℕ → (ℕ → ℕ → ℕ) → (ℕ → ℕ) → ℕ → ℕ
filled f rows c m x = solved f rows c m (λ j. x (count j (free rows m)))

-- the entries of v in the columns with p, from left to right
abbrev pub gathered : ℕ → (ℕ → Bool) → (ℕ → ℕ) → List ℕ
gathered zero p v = []
gathered (suc c) p v = gathered c p v ++ cond (p c) (v c ∷ []) []

-- how many columns with p the blocks before block t have together
abbrev pub offset : ℕ → (ℕ → ℕ → Bool) → ℕ → ℕ
offset c p zero = 0
offset c p (suc t) = offset c p t + count c (p t)

-- the entries so gathered of the first n blocks, one block after the other
abbrev pub collected : ℕ → (ℕ → ℕ → Bool) → (ℕ → ℕ → ℕ) → ℕ → List ℕ
collected c p v zero = []
collected c p v (suc n) = collected c p v n ++ gathered c (p n) (v n)

-- The null space of b by the free columns of r: each choice of symbols for the free entries gives one vector of it.
pub record Solutions (f : Meaning) (rows c : ℕ) (b r : ℕ → ℕ → ℕ) : Type 0 where
  -- a filled vector is a solution
  pub null : (x : ℕ → ℕ) → ((k : ℕ) → x k < f.q) → Null f rows c b (filled f rows c r x)
  -- its free entries are those it was filled from
  pub back : (xs : List ℕ) → length xs ≡ count c (free rows r) →
      gathered c (free rows r) (filled f rows c r (λ k. slice_index xs k)) ≡ xs
  -- every solution is filled from its own free entries
  pub all : (v : ℕ → ℕ) → ((j : ℕ) → v j < f.q) → Null f rows c b v → (j : ℕ) → j < c →
      v j ≡ filled f rows c r (λ k. slice_index (gathered c (free rows r) v) k) j

-- the reduced row echelon form gives the solutions
abbrev pub ReducedFormSolves : Type 0
ReducedFormSolves = (f : Meaning) → Lawful f → CharacteristicTwo f → (rows c rank : ℕ) (b r : ℕ → ℕ → ℕ) →
    Reduced f rows c b r rank → Solutions f rows c b r
