-- The transform of length e over a finite field, words whose parity checks are circulants of size e, and what holds of them.
-- A theorem asks for a + a = 0 only where it needs it.
use Rattle.std.specs.Prelude.{◌≡◌, ℕ, ◌+◌, ◌-◌, ◌*◌, ◌/◌, ◌%◌, ◌<◌, cond, ◌↔◌, ◌==◌, ◌≢◌}
use Rattle.field.specs.Meaning.{Meaning, power, Lawful, CharacteristicTwo}
use Rattle.field.specs.Sums.{total}

-- a is a primitive e-th root of unity
pub record PrimitiveRoot (f : Meaning) (e a : ℕ) : Type 0 where
  pub below : a < f.q
  pub turn : power f a e ≡ 1
  pub first : (k : ℕ) → 0 < k → k < e → power f a k ≢ 1

-- the e-th root of unity that the transform of length e takes, primitive where e divides q - 1
abbrev pub root : Meaning → ℕ → ℕ
root f e = power f f.g ((f.q - 1) / e)

-- the spectrum of x at frequency t: the finite field Fourier transform of length e
abbrev pub spectrum : Meaning → ℕ → (ℕ → ℕ) → ℕ → ℕ
spectrum f e x t = total f e (λ l. f.product (x l) (power f (f.inverse (root f e)) (l * t)))

-- symbol l of the vector whose spectrum is y: the inverse transform
abbrev pub synthesis : Meaning → ℕ → (ℕ → ℕ) → ℕ → ℕ
synthesis f e y l = total f e (λ t. f.product (y t) (power f (root f e) (l * t)))

-- Row i of the parity-check matrix is a row of circulants of size e; b i j l is symbol l of the generator of the one in column j.
-- A word x has e symbols in each column; x j l is symbol l of column j.

-- symbol s of the syndrome of a word at row i of circulants
abbrev pub syndrome : Meaning → ℕ → ℕ → (ℕ → ℕ → ℕ → ℕ) → (ℕ → ℕ → ℕ) → ℕ → ℕ → ℕ
syndrome f e columns b x i s = total f columns (λ j. total f e (λ l. f.product (b i j l) (x j ((l + s) % e))))

-- a word of the code: every syndrome symbol is 0
abbrev pub Passes : Meaning → ℕ → ℕ → ℕ → (ℕ → ℕ → ℕ → ℕ) → (ℕ → ℕ → ℕ) → Type 0
Passes f e rows columns b x = (i s : ℕ) → i < rows → s < e → syndrome f e columns b x i s ≡ 0

-- entry (i, j) of the check block at frequency t: the generator polynomial of circulant (i, j) at the t-th power of the root
abbrev pub check_block : Meaning → ℕ → (ℕ → ℕ → ℕ → ℕ) → ℕ → ℕ → ℕ → ℕ
check_block f e b t i j = total f e (λ l. f.product (b i j l) (power f (root f e) (l * t)))

-- symbol l of the generator of a circulant that is given by n terms: the sum of the coefficients of the terms with shift l modulo e
abbrev pub generator : Meaning → ℕ → ℕ → (ℕ → ℕ) → (ℕ → ℕ) → ℕ → ℕ
generator f e n shift coefficient l = total f n (λ k. cond (shift k % e == l) (coefficient k) 0)

-- The theorems.

-- where e divides q - 1, the root is a primitive e-th root of unity
abbrev pub RootHasOrder : Type 0
RootHasOrder = (f : Meaning) → Lawful f → (e : ℕ) → 0 < e → (f.q - 1) % e ≡ 0 → PrimitiveRoot f e (root f e)

-- transform and inverse transform undo each other on vectors of e symbols
abbrev pub TransformPair : Type 0
TransformPair = (f : Meaning) → Lawful f → CharacteristicTwo f → (e : ℕ) → 0 < e → (f.q - 1) % e ≡ 0 →
    ((x : ℕ → ℕ) → ((l : ℕ) → l < e → x l < f.q) → (l : ℕ) → l < e → synthesis f e (spectrum f e x) l ≡ x l)
    × ((y : ℕ → ℕ) → ((t : ℕ) → t < e → y t < f.q) → (t : ℕ) → t < e → spectrum f e (synthesis f e y) t ≡ y t)

-- the spectrum of the syndrome is the check block times the spectra of the columns
abbrev pub Convolution : Type 0
Convolution = (f : Meaning) → Lawful f → (e : ℕ) → 0 < e → (f.q - 1) % e ≡ 0 →
    (columns : ℕ) (b : ℕ → ℕ → ℕ → ℕ) (x : ℕ → ℕ → ℕ) (i t : ℕ) →
    spectrum f e (syndrome f e columns b x i) t
    ≡ total f columns (λ j. f.product (check_block f e b t i j) (spectrum f e (x j) t))

-- a word passes exactly if at each frequency its spectrum is in the null space of the check block
abbrev pub PassingIsNull : Type 0
PassingIsNull = (f : Meaning) → Lawful f → CharacteristicTwo f → (e : ℕ) → 0 < e → (f.q - 1) % e ≡ 0 →
    (rows columns : ℕ) (b : ℕ → ℕ → ℕ → ℕ) (x : ℕ → ℕ → ℕ) →
    Passes f e rows columns b x
    ↔ ((t : ℕ) → t < e → (i : ℕ) → i < rows →
    total f columns (λ j. f.product (check_block f e b t i j) (spectrum f e (x j) t)) ≡ 0)

-- a sum over the symbols of a generator is a sum over its terms
abbrev pub GeneratorByTerms : Type 0
GeneratorByTerms = (f : Meaning) → Lawful f → (e : ℕ) → 0 < e → (n : ℕ) (shift coefficient u : ℕ → ℕ) →
    total f e (λ l. f.product (generator f e n shift coefficient l) (u l))
    ≡ total f n (λ k. f.product (coefficient k) (u (shift k % e)))
