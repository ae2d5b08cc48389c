-- What the shift field's functions compute, as facts on numbers.
use Rattle.std.proofs.Common.{◌≡◌, ℕ, zero, suc, ◌+◌, ◌-◌, ◌*◌, ◌/◌, ◌%◌, ◌^◌, ◌<◌, ◌≤◌, sym, refl, ap, ◌∙◌, mod-eq_of_lt, add-zero, add-suc, pow_mono, pow-suc, add-one, arith, pow_pos}
use lib.Bits.{bit_and, bit_xor, and_comm, and_mask}
use Rattle.std.proofs.Math.Nat.{div-eq_of_lt}
use Rattle.std.specs.Int.Bits.{xor_zero_r}
use Rattle.field.specs.Shift.{polynomial, pick, xors, double, scaled, multiplied, raised}
use Rattle.field.specs.Products.{product_one_left}
use Rattle.field.specs.Powers.{order_low, product_comm, raised_add}

two_le : (k : ℕ) → 1 ≤ k → 2 ≤ 2 ^ k
two_le zero l = absurd (omega arith)
two_le (suc k) l = omega (arith, pow-suc 2 k, pow_pos k)

pub masked : (bit a : ℕ) → bit < 2 → a < 65536 → bit_and ((0 + (65536 - bit)) % 65536) a ≡ pick bit a
masked zero a h l = refl
masked (suc zero) a h l = and_comm 65535 a ∙ and_mask a 16 ∙ mod-eq_of_lt l
masked (suc (suc n)) a h l = absurd (omega arith)

pub double_by_shift : (r a d s : ℕ) → d ≡ 2 * a → s ≡ pick (d / 2 ^ r) (polynomial r) → bit_xor d s ≡ double r a
unfolding double
double_by_shift r a d s e h = cc

-- the sum of the multiples of a at the lowest n bits of b
abbrev pub multiples : ℕ → ℕ → ℕ → ℕ → ℕ
multiples r n a b = xors n (λ i. pick (b / 2 ^ i % 2) (scaled r i a))

pub multiples_none : (r a b : ℕ) → 0 ≡ multiples r 0 a b
unfolding xors
multiples_none r a b = refl

pub multiples_next : (r n a b : ℕ) → multiples r (suc n) a b ≡ bit_xor (multiples r n a b) (pick (b / 2 ^ n % 2) (scaled r n a))
unfolding xors
multiples_next r n a b = refl

-- past its highest bit, b adds nothing
pub multiples_all : (r k a b : ℕ) → b < 2 ^ r → multiples r (r + k) a b ≡ multiplied r a b
unfolding multiplied
multiples_all r zero a b h = ap (λ (n : ℕ). multiples r n a b) (add-zero r)
multiples_all r (suc k) a b h =
    let m : 2 ^ r ≤ 2 ^ (r + k) = pow_mono (omega arith) in
    let z : b / 2 ^ (r + k) ≡ 0 = div-eq_of_lt (omega arith) in
    ap (λ (n : ℕ). multiples r n a b) (add-suc r k) ∙ multiples_next r (r + k) a b
    ∙ ap (λ (x : ℕ). bit_xor (multiples r (r + k) a b) (pick (x % 2) (scaled r (r + k) a))) z
    ∙ xor_zero_r (multiples r (r + k) a b) ∙ multiples_all r k a b h

module _ (r : ℕ) (lo : 2 ≤ r) (hi : r ≤ 9) where
  -- after nine bits the sum is the product, with its factors exchanged
  pub nine_bits : (i a b p : ℕ) → a < 2 ^ r → b < 2 ^ r → i ≡ 9 → p ≡ multiples r i b a → p ≡ multiplied r a b
  nine_bits i a b p ha hb n e =
      let o : i ≡ r + (9 - r) = omega arith in
      e ∙ ap (λ (k : ℕ). multiples r k b a) o ∙ multiples_all r (9 - r) b a ha ∙ product_comm r lo hi b a hb ha

module _ (r : ℕ) (lo : 2 ≤ r) (hi : r ≤ 9) (a : ℕ) (h : a < 2 ^ r) where
  pub square_first : a ≡ raised r a (2 ^ (1 - 1))
  unfolding raised
  square_first =
      sym (product_comm r lo hi a 1 h (omega (arith, order_low r lo hi)) ∙ product_one_left r a h)

  -- with s = a^(2^(k-1)) squared
  pub square_next : (k s : ℕ) → 1 ≤ k → s ≡ raised r a (2 ^ (k - 1)) → multiplied r s s ≡ raised r a (2 ^ (k + 1 - 1))
  square_next k s l e =
      let o : k + 1 - 1 ≡ suc (k - 1) = omega arith in
      let w : 2 ^ suc (k - 1) ≡ 2 ^ (k - 1) * 2 = pow-suc 2 (k - 1) in
      let m : 2 ^ (k - 1) + 2 ^ (k - 1) ≡ 2 ^ (k + 1 - 1) = omega (arith, ap (λ (n : ℕ). 2 ^ n) o) in
      ap (λ (x : ℕ). multiplied r x x) e ∙ sym (raised_add r lo hi a (2 ^ (k - 1)) (2 ^ (k - 1)) h) ∙ ap (raised r a) m

  pub inverse_next : (k s p : ℕ) → 1 ≤ k → s ≡ raised r a (2 ^ (k + 1 - 1)) → p ≡ raised r a (2 ^ k - 2)
      → multiplied r p s ≡ raised r a (2 ^ (k + 1) - 2)
  inverse_next k s p l e d =
      let o : k + 1 ≡ suc k = add-one k in
      let o' : k + 1 - 1 ≡ k = omega arith in
      let w : 2 ^ suc k ≡ 2 ^ k * 2 = pow-suc 2 k in
      let big : 2 ≤ 2 ^ k = two_le k l in
      let m : 2 ^ k - 2 + 2 ^ (k + 1 - 1) ≡ 2 ^ (k + 1) - 2 = omega (arith, ap (λ (n : ℕ). 2 ^ n) o, ap (λ (n : ℕ). 2 ^ n) o') in
      ap (λ (x : ℕ). multiplied r x s) d ∙ ap (multiplied r (raised r a (2 ^ k - 2))) e
      ∙ sym (raised_add r lo hi a (2 ^ k - 2) (2 ^ (k + 1 - 1)) h) ∙ ap (raised r a) m
