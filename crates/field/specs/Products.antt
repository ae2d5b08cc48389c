-- The product of the shift field: additive, zero, one, and times x.
use Rattle.std.specs.Prelude.{◌≡◌, ℕ, zero, suc, ◌/◌, ◌%◌, ◌^◌, ◌<◌, ◌≤◌, bit_xor}
use Rattle.std.proofs.Math.Path.{refl, sym, ap}
use Rattle.std.proofs.Common.{◌∙◌, mod-eq_of_lt}
use Rattle.std.proofs.Math.Nat.{zero-div}
use Rattle.field.specs.Shift.{pick, double, scaled, multiplied}
use Rattle.field.specs.Xors.{pick_xor, pick_lt, pick_zero, digit_lt, digit_xor, xors_same, xors_lt, xors_xor, xors_zero, xors_bits}
use Rattle.field.specs.Doubles.{double_pick, scaled_lt, double_xors, scaled_zero, scaled_double, scaled_one}

pub product_xor : (r a b c : ℕ) → multiplied r a (bit_xor b c) ≡ bit_xor (multiplied r a b) (multiplied r a c)
unfolding multiplied
product_xor r a b c =
    xors_same r (λ i. pick (bit_xor b c / 2 ^ i % 2) (scaled r i a))
    (λ i. bit_xor (pick (b / 2 ^ i % 2) (scaled r i a)) (pick (c / 2 ^ i % 2) (scaled r i a)))
    (λ i l. ap (λ (x : ℕ). pick x (scaled r i a)) (digit_xor b c i)
    ∙ pick_xor (b / 2 ^ i % 2) (c / 2 ^ i % 2) (scaled r i a) (digit_lt (b / 2 ^ i)) (digit_lt (c / 2 ^ i)))
    ∙ xors_xor r (λ i. pick (b / 2 ^ i % 2) (scaled r i a)) (λ i. pick (c / 2 ^ i % 2) (scaled r i a))

pub product_zero_left : (r b : ℕ) → multiplied r 0 b ≡ 0
unfolding multiplied
product_zero_left r b =
    xors_same r (λ i. pick (b / 2 ^ i % 2) (scaled r i 0)) (λ i. 0)
    (λ i l. ap (pick (b / 2 ^ i % 2)) (scaled_zero r i) ∙ pick_zero (b / 2 ^ i % 2))
    ∙ xors_zero r

pub product_zero_right : (r a : ℕ) → multiplied r a 0 ≡ 0
unfolding multiplied
product_zero_right r a =
    xors_same r (λ i. pick (0 / 2 ^ i % 2) (scaled r i a)) (λ i. 0)
    (λ i l. ap (λ (x : ℕ). pick (x % 2) (scaled r i a)) (zero-div (2 ^ i)))
    ∙ xors_zero r

pub product_one_left : (r b : ℕ) → b < 2 ^ r → multiplied r 1 b ≡ b
unfolding multiplied
product_one_left r b h =
    xors_same r (λ i. pick (b / 2 ^ i % 2) (scaled r i 1)) (λ i. pick (b / 2 ^ i % 2) (2 ^ i))
    (λ i l. ap (pick (b / 2 ^ i % 2)) (scaled_one r i l))
    ∙ xors_bits r b ∙ mod-eq_of_lt h

module _ (r : ℕ) (lo : 2 ≤ r) (hi : r ≤ 9) where
  pub product_lt : (a b : ℕ) → a < 2 ^ r → multiplied r a b < 2 ^ r
  unfolding multiplied
  product_lt a b h =
      xors_lt r r (λ i. pick (b / 2 ^ i % 2) (scaled r i a)) (λ i l. pick_lt (b / 2 ^ i % 2) (scaled r i a) (2 ^ r) (scaled_lt r lo hi i a h))

  pub product_double : (a b : ℕ) → a < 2 ^ r → multiplied r (double r a) b ≡ double r (multiplied r a b)
  unfolding multiplied
  product_double a b h =
      xors_same r (λ i. pick (b / 2 ^ i % 2) (scaled r i (double r a))) (λ i. double r (pick (b / 2 ^ i % 2) (scaled r i a)))
      (λ i l. ap (pick (b / 2 ^ i % 2)) (scaled_double r i a) ∙ sym (double_pick r (b / 2 ^ i % 2) (scaled r i a)))
      ∙ sym (double_xors r lo hi r (λ i. pick (b / 2 ^ i % 2) (scaled r i a))
      (λ i l. pick_lt (b / 2 ^ i % 2) (scaled r i a) (2 ^ r) (scaled_lt r lo hi i a h)))

  pub product_scaled : (i a b : ℕ) → a < 2 ^ r → multiplied r (scaled r i a) b ≡ scaled r i (multiplied r a b)
  unfolding scaled
  product_scaled zero a b h = refl
  product_scaled (suc i) a b h =
      product_double (scaled r i a) b (scaled_lt r lo hi i a h) ∙ ap (double r) (product_scaled i a b h)
