-- What a finite field means, and the laws that every implementation of the interface owes.
use Rattle.std.specs.Prelude.{◌≡◌, ℕ, zero, suc, ◌-◌, ◌^◌, ◌<◌, ◌≤◌}

-- A field as one value. Its symbols are the numbers 0 to q - 1; g is its generator.
pub record Meaning : Type 0 where
  pub q : ℕ
  pub g : ℕ
  pub sum : ℕ → ℕ → ℕ
  pub product : ℕ → ℕ → ℕ
  pub inverse : ℕ → ℕ

-- the k-th power of a
abbrev pub power : Meaning → ℕ → ℕ → ℕ
power f a zero = 1
power f a (suc k) = f.product a (power f a k)

-- The laws of a finite field with a generator. They hold of all numbers, since an operand of q or more is taken as 0.
pub record Lawful (f : Meaning) : Type 0 where
  -- how many symbols there are
  pub order_low : 4 ≤ f.q
  pub order_high : f.q ≤ 512
  -- every answer is a symbol
  pub generator_below : f.g < f.q
  pub sum_below : (a b : ℕ) → f.sum a b < f.q
  pub product_below : (a b : ℕ) → f.product a b < f.q
  pub inverse_below : (a : ℕ) → f.inverse a < f.q
  -- an operand of q or more is taken as 0, and the inverse of 0 is 0
  pub sum_outside : (a b : ℕ) → f.q ≤ a → f.sum a b ≡ f.sum 0 b
  pub product_outside : (a b : ℕ) → f.q ≤ a → f.product a b ≡ f.product 0 b
  pub inverse_outside : (a : ℕ) → f.q ≤ a → f.inverse a ≡ 0
  pub inverse_zero : f.inverse 0 ≡ 0
  -- sum and product
  pub sum_comm : (a b : ℕ) → f.sum a b ≡ f.sum b a
  pub sum_assoc : (a b c : ℕ) → f.sum (f.sum a b) c ≡ f.sum a (f.sum b c)
  pub sum_zero : (a : ℕ) → a < f.q → f.sum 0 a ≡ a
  pub product_comm : (a b : ℕ) → f.product a b ≡ f.product b a
  pub product_assoc : (a b c : ℕ) → f.product (f.product a b) c ≡ f.product a (f.product b c)
  pub product_one : (a : ℕ) → a < f.q → f.product 1 a ≡ a
  pub product_sum : (a b c : ℕ) → f.product a (f.sum b c) ≡ f.sum (f.product a b) (f.product a c)
  pub product_inverse : (a : ℕ) → 0 < a → a < f.q → f.product a (f.inverse a) ≡ 1
  -- g^0 to g^(q - 2) are all the nonzero symbols, each once
  pub powers_nonzero : (k : ℕ) → 0 < power f f.g k
  pub powers_all : (a : ℕ) → 0 < a → a < f.q → (k : ℕ) × (k < f.q - 1) × (power f f.g k ≡ a)
  pub powers_once : (i j : ℕ) → i < f.q - 1 → j < f.q - 1 → power f f.g i ≡ power f f.g j → i ≡ j

-- The law that sets the fields of 2^r symbols apart, beside the laws of a field.
pub record CharacteristicTwo (f : Meaning) : Type 0 where
  pub order_power : (r : ℕ) × (f.q ≡ 2 ^ r)
  pub sum_self : (a : ℕ) → f.sum a a ≡ 0

-- Two fields are alike: the same symbols, generator, sums and products.
pub record Alike (f h : Meaning) : Type 0 where
  pub order : f.q ≡ h.q
  pub generator : f.g ≡ h.g
  pub sums : (a b : ℕ) → f.sum a b ≡ h.sum a b
  pub products : (a b : ℕ) → f.product a b ≡ h.product a b
