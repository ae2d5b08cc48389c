-- Matrices over a field: null spaces, row operations, the reduced row echelon form, its rank and its free columns.
-- A matrix is a function of the row and the column, and a statement on it speaks of the entries in range only.
use Rattle.std.specs.Prelude.{◌≡◌, ℕ, zero, suc, ◌-◌, ◌<◌, ◌≤◌, Bool, true, cond, not, ◌&&◌, ◌==◌, ◌≢◌, nat_lt}
use Rattle.field.specs.Meaning.{Meaning, Lawful, CharacteristicTwo}
use Rattle.field.specs.Sums.{total}

-- v lies in the null space of m: the product of every row with v is 0
abbrev pub Null : Meaning → ℕ → ℕ → (ℕ → ℕ → ℕ) → (ℕ → ℕ) → Type 0
Null f rows c m v = (i : ℕ) → i < rows → total f c (λ j. f.product (m i j) (v j)) ≡ 0

-- a and b have the same null space, over the vectors of symbols
pub record SameNull (f : Meaning) (rows c : ℕ) (a b : ℕ → ℕ → ℕ) : Type 0 where
  pub there : (v : ℕ → ℕ) → ((j : ℕ) → v j < f.q) → Null f rows c a v → Null f rows c b v
  pub back : (v : ℕ → ℕ) → ((j : ℕ) → v j < f.q) → Null f rows c b v → Null f rows c a v

-- m is in reduced row echelon form: row i below the rank has its leading entry in column `lead i`
pub record Echelon (rows c : ℕ) (m : ℕ → ℕ → ℕ) (rank : ℕ) (lead : ℕ → ℕ) : Type 0 where
  -- the rank is at most the number of rows
  pub within : rank ≤ rows
  -- each leading entry stands in one of the columns
  pub column : (i : ℕ) → i < rank → lead i < c
  -- and further to the right than those of the rows above
  pub rising : (h i : ℕ) → h < i → i < rank → lead h < lead i
  -- it is 1
  pub one : (i : ℕ) → i < rank → m i (lead i) ≡ 1
  -- left of it the row is 0
  pub before : (i j : ℕ) → i < rank → j < lead i → m i j ≡ 0
  -- its column is 0 in every other row
  pub alone : (h i : ℕ) → h < rows → i < rank → (h ≢ i) → m h (lead i) ≡ 0
  -- the rows from the rank on are 0
  pub zeros : (i j : ℕ) → rank ≤ i → i < rows → j < c → m i j ≡ 0

-- r is the reduced row echelon form of b, of this rank
pub record Reduced (f : Meaning) (rows c : ℕ) (b r : ℕ → ℕ → ℕ) (rank : ℕ) : Type 0 where
  pub symbols : (i j : ℕ) → i < rows → j < c → r i j < f.q
  pub shape : (lead : ℕ → ℕ) × Echelon rows c r rank lead
  pub nulls : SameNull f rows c b r

-- The row operations, as relations between a matrix m and what it becomes, n.

-- rows a and h are exchanged
pub record Swapped (rows c : ℕ) (m n : ℕ → ℕ → ℕ) (a h : ℕ) : Type 0 where
  pub first : (j : ℕ) → j < c → n a j ≡ m h j
  pub second : (j : ℕ) → j < c → n h j ≡ m a j
  pub others : (i j : ℕ) → i < rows → j < c → (i ≢ a) → (i ≢ h) → n i j ≡ m i j

-- row a becomes t, and the other rows stay
pub record RowIs (rows c : ℕ) (m n : ℕ → ℕ → ℕ) (a : ℕ) (t : ℕ → ℕ) : Type 0 where
  pub here : (j : ℕ) → j < c → n a j ≡ t j
  pub others : (i j : ℕ) → i < rows → j < c → (i ≢ a) → n i j ≡ m i j

-- Leading entries and free columns of any matrix, by index.

-- the first j entries of the row are 0
abbrev pub zero_before : (ℕ → ℕ) → ℕ → Bool
zero_before row zero = true
zero_before row (suc j) = row j == 0 && zero_before row j

-- the row's leading entry, its first that is not 0, stands in column j
abbrev pub starts : (ℕ → ℕ) → ℕ → Bool
starts row j = nat_lt 0 (row j) && zero_before row j

-- the first of the rows whose leading entry stands in column j, or the number of rows where there is none
abbrev pub lead_row : ℕ → (ℕ → ℕ → ℕ) → ℕ → ℕ
lead_row zero m j = 0
lead_row (suc n) m j = cond (nat_lt (lead_row n m j) n) (lead_row n m j) (cond (starts (m n) j) n (suc n))

-- column j is free: it holds the leading entry of no row
abbrev pub free : ℕ → (ℕ → ℕ → ℕ) → ℕ → Bool
free rows m j = lead_row rows m j == rows

-- row i is not zero
abbrev pub nonzero : ℕ → (ℕ → ℕ → ℕ) → ℕ → Bool
nonzero c m i = not (zero_before (m i) c)

-- how many of the numbers below n have p
abbrev pub count : ℕ → (ℕ → Bool) → ℕ
count zero p = 0
count (suc n) p = cond (p n) (suc (count n p)) (count n p)

-- The theorems.

-- a matrix has one reduced row echelon form
abbrev pub ReducedFormIsUnique : Type 0
ReducedFormIsUnique = (f : Meaning) → Lawful f → CharacteristicTwo f →
    (rows c : ℕ) (b r s : ℕ → ℕ → ℕ) (rank rank' : ℕ) → Reduced f rows c b r rank → Reduced f rows c b s rank' →
    (rank ≡ rank') × ((i j : ℕ) → i < rows → j < c → r i j ≡ s i j)

-- the exchange of two rows keeps the null space
abbrev pub SwapKeepsNull : Type 0
SwapKeepsNull = (f : Meaning) → Lawful f → (rows c a h : ℕ) (m n : ℕ → ℕ → ℕ) → a < rows → h < rows →
    Swapped rows c m n a h → SameNull f rows c m n

-- the product of a row with a nonzero symbol keeps the null space
abbrev pub ScalingKeepsNull : Type 0
ScalingKeepsNull = (f : Meaning) → Lawful f → (rows c a by : ℕ) (m n : ℕ → ℕ → ℕ) → a < rows → 0 < by → by < f.q →
    RowIs rows c m n a (λ j. f.product by (m a j)) → SameNull f rows c m n

-- the sum of a row and a multiple of another keeps the null space
abbrev pub AddingKeepsNull : Type 0
AddingKeepsNull = (f : Meaning) → Lawful f → (rows c a h by : ℕ) (m n : ℕ → ℕ → ℕ) → a < rows → h < rows → (h ≢ a) →
    RowIs rows c m n a (λ j. f.sum (m a j) (f.product by (m h j))) → SameNull f rows c m n

-- the rank is the number of nonzero rows, and the number of columns less the rank is the number of free columns
abbrev pub RankCounts : Type 0
RankCounts = (f : Meaning) (rows c rank : ℕ) (b r : ℕ → ℕ → ℕ) → Reduced f rows c b r rank →
    (count rows (nonzero c r) ≡ rank) × (rank ≤ c) × (count c (free rows r) ≡ c - rank)
