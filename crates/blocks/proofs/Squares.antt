-- A power by squares, bit by bit of the exponent.
use Rattle.std.proofs.Common.{◌≡◌, ℕ, suc, ◌+◌, ◌-◌, ◌/◌, ◌%◌, ◌^◌, ◌<◌, sym, ap, ◌∙◌, ap₂, arith, shr-shr}
use lib.Bits.{bit_and, and_mask}
use Rattle.field.specs.Meaning.{Meaning, Lawful, power}
use Rattle.algebra.proofs.Powers.{power_add}

-- one bit more of k
bit_more : (k i : ℕ) → 0 < i → k / 2 ^ (i - 1) / 2 ≡ k / 2 ^ i
bit_more k i h =
    let e : k / 2 ^ (i - 1) / 2 ^ 1 ≡ k / 2 ^ (i - 1 + 1) = shr-shr k (i - 1) 1 in
    let o : i - 1 + 1 ≡ i = omega arith in
    e ∙ ap (λ (n : ℕ). k / 2 ^ n) o

module _ (f : Meaning) (w : Lawful f) (a k i p r : ℕ) (h : 0 < i) (ep : p ≡ power f a (k / 2 ^ i)) (er : r ≡ f.product p p) where
  squared : r ≡ power f a (k / 2 ^ i + k / 2 ^ i)
  squared = er ∙ ap₂ f.product ep ep ∙ sym (power_add f w a (k / 2 ^ i) (k / 2 ^ i))

  pub bit_off : (bit_and (k / 2 ^ (i - 1)) 1 ≡ 1 → ⊥) → r ≡ power f a (k / 2 ^ (i - 1))
  bit_off b =
      let d : bit_and (k / 2 ^ (i - 1)) 1 ≡ k / 2 ^ (i - 1) % 2 = and_mask (k / 2 ^ (i - 1)) 1 in
      let e : k / 2 ^ i + k / 2 ^ i ≡ k / 2 ^ (i - 1) = odd_or_even (k / 2 ^ (i - 1)) (k / 2 ^ i) (bit_more k i h) (λ o. b (d ∙ o)) in
      squared ∙ ap (power f a) e
    where
      odd_or_even : (n m : ℕ) → n / 2 ≡ m → (n % 2 ≡ 1 → ⊥) → m + m ≡ n
      odd_or_even n m e o = omega arith

  pub bit_on : (s : ℕ) → bit_and (k / 2 ^ (i - 1)) 1 ≡ 1 → s ≡ f.product a r → s ≡ power f a (k / 2 ^ (i - 1))
  bit_on s b es =
      let d : bit_and (k / 2 ^ (i - 1)) 1 ≡ k / 2 ^ (i - 1) % 2 = and_mask (k / 2 ^ (i - 1)) 1 in
      let e : suc (k / 2 ^ i + k / 2 ^ i) ≡ k / 2 ^ (i - 1) = odd (k / 2 ^ (i - 1)) (k / 2 ^ i) (bit_more k i h) (sym d ∙ b) in
      es ∙ ap (f.product a) squared ∙ ap (power f a) e
    where
      odd : (n m : ℕ) → n / 2 ≡ m → n % 2 ≡ 1 → suc (m + m) ≡ n
      odd n m e o = omega arith

-- before the first bit of k that is 1
pub no_bits : (f : Meaning) (a k i p : ℕ) → 0 < i → p ≡ power f a (k / 2 ^ i) → k / 2 ^ (i - 1) ≡ 0 → p ≡ power f a (k / 2 ^ (i - 1))
no_bits f a k i p h ep z =
    let e : k / 2 ^ i ≡ k / 2 ^ (i - 1) = none (k / 2 ^ (i - 1)) (k / 2 ^ i) (bit_more k i h) z in
    ep ∙ ap (power f a) e
  where
    none : (n m : ℕ) → n / 2 ≡ m → n ≡ 0 → m ≡ n
    none n m e z = omega arith
