-- Horner's rule, from the highest coefficient down.
use Rattle.std.proofs.Common.{◌≡◌, ℕ, suc, ◌+◌, ◌-◌, ◌*◌, ◌<◌, ◌≤◌, List, sym, ap, ◌∙◌, ap₂, add-zero, suc-mul, mul_comm, arith}
use Rattle.std.proofs.lemmas.Nat.{mul-le}
use Rattle.field.specs.Meaning.{Meaning, Lawful, power}
use Rattle.field.specs.Sums.{total}
use Rattle.algebra.specs.Transforms.{root, spectrum}
use Rattle.algebra.proofs.Powers.{power_mul}
use Rattle.algebra.proofs.Sums.{sum_symbol, total_same, total_first, total_product}
use Rattle.coder.specs.Columns.{value, coefficient}

pub row_fits : (rows columns t : ℕ) → t < rows → t * columns + columns ≤ rows * columns
row_fits rows columns t h = omega (arith, suc-mul t columns, mul-le (suc t) columns rows columns h (omega arith))

module _ (f : Meaning) (w : Lawful f) (x : ℕ) where
  -- the lowest coefficient apart
  value_first : (n : ℕ) (y : ℕ → ℕ) → value f (suc n) y x ≡ f.sum (y 0) (f.product x (value f n (λ t. y (suc t)) x))
  value_first n y =
      total_first f w n (λ t. f.product (y t) (power f x t))
      ∙ ap (f.sum (f.product (y 0) 1))
      (total_same f w n (λ t. f.product (y (suc t)) (power f x (suc t))) (λ t. f.product x (f.product (y (suc t)) (power f x t)))
      (λ t l. sym (w.product_assoc (y (suc t)) x (power f x t)) ∙ ap (λ (z : ℕ). f.product z (power f x t)) (w.product_comm (y (suc t)) x)
      ∙ w.product_assoc x (y (suc t)) (power f x t))
      ∙ total_product f w n x (λ t. f.product (y (suc t)) (power f x t)))
      ∙ sum_symbol f w (y 0) (f.product x (value f n (λ t. y (suc t)) x))

  -- with coefficients i and above done, coefficient i - 1 is next
  pub horner_more : (n i : ℕ) (y : ℕ → ℕ) (was now : ℕ) → 0 < i → i ≤ n → was ≡ value f (n - i) (λ t. y (i + t)) x
      → now ≡ f.sum (y (i - 1)) (f.product x was) → now ≡ value f (n - (i - 1)) (λ t. y (i - 1 + t)) x
  horner_more n i y was now l h ew en =
      let k : n - (i - 1) ≡ suc (n - i) = omega arith in
      en
      ∙ ap₂ (λ a b. f.sum a (f.product x b)) (ap y (sym (add-zero (i - 1))))
      (ew ∙ total_same f w (n - i) (λ t. f.product (y (i + t)) (power f x t)) (λ t. f.product (y (i - 1 + suc t)) (power f x t))
      (λ t g. ap (λ (m : ℕ). f.product (y m) (power f x t)) (omega arith)))
      ∙ sym (value_first (n - i) (λ t. y (i - 1 + t)))
      ∙ ap (λ (m : ℕ). value f m (λ t. y (i - 1 + t)) x) (sym k)

-- the values at the powers of the root are the inverse transform, and at the powers of its inverse the spectrum
pub value_power : (f : Meaning) → Lawful f → (n a l : ℕ) (y : ℕ → ℕ) → value f n y (power f a l) ≡ total f n (λ t. f.product (y t) (power f a (l * t)))
value_power f w n a l y =
    total_same f w n (λ t. f.product (y t) (power f (power f a l) t)) (λ t. f.product (y t) (power f a (l * t)))
    (λ t h. ap (f.product (y t)) (power_mul f w a l t))

pub value_at : (f : Meaning) → Lawful f → (e n a x l : ℕ) (xs : List ℕ) (columns c' j : ℕ) → n ≡ e → columns ≡ c' → x ≡ power f a l
    → value f n (coefficient columns xs j) x ≡ total f e (λ t. f.product (coefficient c' xs j t) (power f a (l * t)))
value_at f w e n a x l xs columns c' j en ec ex =
    ap (λ (k : ℕ). value f k (coefficient columns xs j) x) en ∙ ap (λ (k : ℕ). value f e (coefficient k xs j) x) ec
    ∙ ap (value f e (coefficient c' xs j)) ex ∙ value_power f w e a l (coefficient c' xs j)

pub value_spectrum : (f : Meaning) → Lawful f → (e n x t : ℕ) (xs : List ℕ) (columns c' j : ℕ) → n ≡ e → columns ≡ c'
    → x ≡ power f (f.inverse (root f e)) t → value f n (coefficient columns xs j) x ≡ spectrum f e (coefficient c' xs j) t
value_spectrum f w e n x t xs columns c' j en ec ex =
    let b : ℕ = f.inverse (root f e) in
    value_at f w e n b x t xs columns c' j en ec ex
    ∙ total_same f w e (λ l. f.product (coefficient c' xs j l) (power f b (t * l))) (λ l. f.product (coefficient c' xs j l) (power f b (l * t)))
    (λ l h. ap (λ (k : ℕ). f.product (coefficient c' xs j l) (power f b k)) (mul_comm t l))
