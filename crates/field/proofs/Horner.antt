-- The product by Horner's rule: over the bits of one factor from the highest down, doubling as it goes. It is the same product.
use Rattle.std.proofs.Common.{◌≡◌, ℕ, zero, suc, ◌+◌, ◌-◌, ◌/◌, ◌%◌, ◌^◌, ◌<◌, ◌≤◌, sym, refl, ap, ◌∙◌, arith, one-add, shr-shr}
use lib.Bits.{bit_xor, xor_lt}
use Rattle.std.specs.Int.Bits.{xor_assoc}
use Rattle.std.proofs.lemmas.Nat.{xor_comm}
use Rattle.field.specs.Shift.{pick, xors, double, scaled, multiplied}
use Rattle.field.specs.Xors.{pick_lt, xors_same}
use Rattle.field.specs.Doubles.{double_pick, double_lt, scaled_lt, double_xors}

-- the first term apart
pub xors_first : (n : ℕ) (t : ℕ → ℕ) → xors (suc n) t ≡ bit_xor (xors n (λ i. t (suc i))) (t 0)
unfolding xors
xors_first zero t = refl
xors_first (suc n) t =
    let s : ℕ = xors n (λ i. t (suc i)) in
    ap (λ (x : ℕ). bit_xor x (t (suc n))) (xors_first n t)
    ∙ cc (xor_assoc s (t 0) (t (suc n)), xor_comm (t 0) (t (suc n)), xor_assoc s (t (suc n)) (t 0))

-- the product by Horner's rule, over the lowest n bits of b
unfoldable pub horner : ℕ → ℕ → ℕ → ℕ → ℕ
horner r zero a b = 0
horner r (suc n) a b = bit_xor (double r (horner r n a (b / 2))) (pick (b % 2) a)

xors_none : (t : ℕ → ℕ) → xors 0 t ≡ 0
unfolding xors
xors_none t = refl

shifted_bit : (r i a b : ℕ) → double r (pick (b / 2 / 2 ^ i % 2) (scaled r i a)) ≡ pick (b / 2 ^ suc i % 2) (scaled r (suc i) a)
unfolding scaled
shifted_bit r i a b =
    let e : b / 2 ^ 1 / 2 ^ i ≡ b / 2 ^ (1 + i) = shr-shr b 1 i in
    let o : 1 + i ≡ suc i = one-add i in
    double_pick r (b / 2 / 2 ^ i % 2) (scaled r i a)
    ∙ ap (λ (x : ℕ). pick (x % 2) (double r (scaled r i a))) (e ∙ ap (λ (n : ℕ). b / 2 ^ n) o)

first_bit : (r a b : ℕ) → pick (b % 2) a ≡ pick (b / 2 ^ 0 % 2) (scaled r 0 a)
unfolding scaled
first_bit r a b = ap (λ (x : ℕ). pick (x % 2) a) (omega arith)

-- one more bit of b, from the highest down: with bits i and above done, bit i - 1 is next
pub horner_next : (r i a b p : ℕ) → 0 < i → i ≤ r → p ≡ horner r (r - i) a (b / 2 ^ i)
    → bit_xor (double r p) (pick (b / 2 ^ (i - 1) % 2) a) ≡ horner r (r - (i - 1)) a (b / 2 ^ (i - 1))
unfolding horner
horner_next r i a b p l h e =
    let k : r - (i - 1) ≡ suc (r - i) = omega arith in
    let o : i - 1 + 1 ≡ i = omega arith in
    let q : b / 2 ^ (i - 1) / 2 ^ 1 ≡ b / 2 ^ (i - 1 + 1) = shr-shr b (i - 1) 1 in
    ap (λ (x : ℕ). bit_xor (double r x) (pick (b / 2 ^ (i - 1) % 2) a))
    (e ∙ ap (λ (x : ℕ). horner r (r - i) a (b / 2 ^ x)) (sym o) ∙ ap (horner r (r - i) a) (sym q))
    ∙ ap (λ (x : ℕ). horner r x a (b / 2 ^ (i - 1))) (sym k)

module _ (r : ℕ) (lo : 2 ≤ r) (hi : r ≤ 9) where
  pub horner_is : (n a b : ℕ) → a < 2 ^ r → horner r n a b ≡ xors n (λ i. pick (b / 2 ^ i % 2) (scaled r i a))
  unfolding horner
  horner_is zero a b h = sym (xors_none (λ i. pick (b / 2 ^ i % 2) (scaled r i a)))
  horner_is (suc n) a b h =
      let s : ℕ → ℕ = λ i. pick (b / 2 / 2 ^ i % 2) (scaled r i a) in
      ap (λ (x : ℕ). bit_xor (double r x) (pick (b % 2) a)) (horner_is n a (b / 2) h)
      ∙ ap (λ (x : ℕ). bit_xor x (pick (b % 2) a))
      (double_xors r lo hi n s (λ i l. pick_lt (b / 2 / 2 ^ i % 2) (scaled r i a) (2 ^ r) (scaled_lt r lo hi i a h))
      ∙ xors_same n (λ i. double r (s i)) (λ i. pick (b / 2 ^ suc i % 2) (scaled r (suc i) a)) (λ i l. shifted_bit r i a b))
      ∙ ap (λ (x : ℕ). bit_xor (xors n (λ i. pick (b / 2 ^ suc i % 2) (scaled r (suc i) a))) x) (first_bit r a b)
      ∙ sym (xors_first n (λ i. pick (b / 2 ^ i % 2) (scaled r i a)))

  pub next_lt : (p m a : ℕ) → p < 2 ^ r → a < 2 ^ r → bit_xor (double r p) (pick m a) < 2 ^ r
  next_lt p m a hp ha = xor_lt r (double r p) (pick m a) (double_lt r lo hi p hp) (pick_lt m a (2 ^ r) ha)

  pub horner_last : (i a b p : ℕ) → a < 2 ^ r → i ≤ 0 → p ≡ horner r (r - i) a (b / 2 ^ i) → p ≡ multiplied r a b
  unfolding multiplied
  horner_last i a b p h l e =
      let z : i ≡ 0 = omega arith in
      let n : r - i ≡ r = omega arith in
      let d : b / 2 ^ 0 ≡ b = omega arith in
      e ∙ ap (λ (m : ℕ). horner r m a (b / 2 ^ i)) n ∙ ap (λ (m : ℕ). horner r r a (b / 2 ^ m)) z ∙ ap (horner r r a) d
      ∙ horner_is r a b h

pub horner_none : (r a b : ℕ) → 0 ≡ horner r (r - r) a (b / 2 ^ r)
unfolding horner
horner_none r a b = let e : r - r ≡ 0 = omega arith in ap (λ (n : ℕ). horner r n a (b / 2 ^ r)) (sym e)
