-- Geometric sums over the powers of a root of unity.
use Rattle.std.proofs.Common.{◌≡◌, ℕ, zero, suc, ◌+◌, ◌-◌, ◌*◌, ◌/◌, ◌%◌, ◌^◌, ◌<◌, ◌≤◌, sym, refl, ap, ◌∙◌, ap₂, ⊎_elim, mul_assoc, pow-suc, arith}
use Rattle.std.proofs.lemmas.Bool.{cases_lt, cases_order}
use Rattle.field.specs.Meaning.{Meaning, power, Lawful, CharacteristicTwo}
use Rattle.field.specs.Sums.{total}
use Rattle.algebra.specs.Transforms.{PrimitiveRoot}
use Rattle.algebra.proofs.Powers.{one_below, product_one_right, product_cancel, power_below, power_add, power_mul, power_product}
use Rattle.algebra.proofs.Sums.{sum_zero_right, total_below, total_same, total_product, total_turn}
use Rattle.algebra.proofs.Roots.{power_turn, power_undone, whole_quotient}

module _ (f : Meaning) (w : Lawful f) where
  -- c times the sum is the sum again, its terms moved by one place
  geometric : (e c : ℕ) → c < f.q → power f c e ≡ 1 → (c ≡ 1 → ⊥) → total f e (λ t. power f c t) ≡ 0
  geometric e c h turn other =
      let s : ℕ = total f e (λ t. power f c t) in
      let below : s < f.q = total_below f w e (λ t. power f c t) in
      let again : f.product c s ≡ s =
      sym (total_product f w e c (λ t. power f c t)) ∙ total_turn f w e (λ t. power f c t) turn in
      ⊎_elim (λ (l : 0 < s).
      absurd (other (product_cancel f w s c 1 l below h (one_below f w)
      (w.product_comm s c ∙ again ∙ sym (product_one_right f w s below)))))
      (λ (l : s ≤ 0). omega arith) (cases_lt 0 s)

  -- b^k a^n = a^(n - k) where b is the inverse of a
  quotient : (a b k n : ℕ) → f.product a b ≡ 1 → k ≤ n → f.product (power f b k) (power f a n) ≡ power f a (n - k)
  quotient a b k n o l =
      let s : n ≡ k + (n - k) = omega arith in
      let r : ℕ = power f a (n - k) in
      ap (λ (m : ℕ). f.product (power f b k) (power f a m)) s
      ∙ cc (
        power_add f w a k (n - k),
        w.product_assoc (power f b k) (power f a k) r,
        w.product_comm (power f b k) (power f a k),
        power_undone f w a b k o,
        w.product_one r (power_below f w a (n - k)),
      )

  -- The kernel of the transform, for a primitive root a and its inverse b.
  module _ (e a b : ℕ) (o : f.product a b ≡ 1) (za : PrimitiveRoot f e a) (zb : PrimitiveRoot f e b) where
    ratio_not_one : (l m : ℕ) → l < e → m < e → (l ≡ m → ⊥) → f.product (power f b l) (power f a m) ≡ 1 → ⊥
    ratio_not_one l m hl hm d one =
        ⊎_elim (λ (s : l ≡ m). d s)
        (λ c. ⊎_elim
        (λ (s : l < m). za.first (m - l) (omega arith) (omega arith) (sym (quotient a b l m o (omega arith)) ∙ one))
        (λ (s : m < l). zb.first (l - m) (omega arith) (omega arith)
        (sym (quotient b a m l (w.product_comm b a ∙ o) (omega arith))
        ∙ w.product_comm (power f a m) (power f b l) ∙ one)) c)
        (cases_order l m)

    pub kernel_zero : (l m : ℕ) → l < e → m < e → (l ≡ m → ⊥)
        → total f e (λ t. f.product (power f b (l * t)) (power f a (m * t))) ≡ 0
    kernel_zero l m hl hm d =
        let c : ℕ = f.product (power f b l) (power f a m) in
        let turn : power f c e ≡ 1 =
        power_product f w (power f b l) (power f a m) e
        ∙ ap₂ f.product (power_turn f w e b l zb.turn) (power_turn f w e a m za.turn) ∙ w.product_one 1 (one_below f w) in
        total_same f w e (λ t. f.product (power f b (l * t)) (power f a (m * t))) (λ t. power f c t)
        (λ t h. sym (power_product f w (power f b l) (power f a m) t ∙ ap₂ f.product (power_mul f w b l t) (power_mul f w a m t)))
        ∙ geometric e c (w.product_below (power f b l) (power f a m)) turn (ratio_not_one l m hl hm d)

    pub kernel_one : (m : ℕ) → total f e (λ t. f.product (power f b (m * t)) (power f a (m * t))) ≡ total f e (λ t. 1)
    kernel_one m =
        total_same f w e (λ t. f.product (power f b (m * t)) (power f a (m * t))) (λ t. 1)
        (λ t h. w.product_comm (power f b (m * t)) (power f a (m * t)) ∙ power_undone f w a b (m * t) o)

-- What needs that a + a = 0: the sum of e ones is 1, since e is odd.

odd_factor : (d e : ℕ) → d * e % 2 ≡ 1 → e % 2 ≡ 1
odd_factor d e h =
    ⊎_elim (λ (l : e % 2 < 1).
    let s : e ≡ e / 2 * 2 = omega arith in
    let m : d * e ≡ d * (e / 2) * 2 = ap (λ (x : ℕ). d * x) s ∙ sym (mul_assoc d (e / 2) 2) in
    absurd (omega arith))
    (λ (l : 1 ≤ e % 2). omega arith) (cases_lt (e % 2) 1)

power_of_two_less_one : (n r : ℕ) → 4 ≤ n → n ≡ 2 ^ r → (n - 1) % 2 ≡ 1
power_of_two_less_one n zero h e = absurd (omega arith)
power_of_two_less_one n (suc r) h e = omega (arith, pow-suc 2 r)

module _ (f : Meaning) (w : Lawful f) (two : CharacteristicTwo f) where
  ones_even : (n : ℕ) → total f (n + n) (λ t. 1) ≡ 0
  ones_even zero = refl
  ones_even (suc n) =
      let s : suc n + suc n ≡ suc (suc (n + n)) = omega arith in
      let u : ℕ = total f (n + n) (λ t. 1) in
      ap (λ (m : ℕ). total f m (λ t. 1)) s ∙ w.sum_assoc u 1 1 ∙ ap (f.sum u) (two.sum_self 1)
      ∙ sum_zero_right f w u (total_below f w (n + n) (λ t. 1)) ∙ ones_even n

  pub ones : (e : ℕ) → (f.q - 1) % e ≡ 0 → total f e (λ t. 1) ≡ 1
  ones e h =
      let odd : e % 2 ≡ 1 =
      odd_factor ((f.q - 1) / e) e
      (ap (λ (n : ℕ). n % 2) (whole_quotient (f.q - 1) e h)
      ∙ power_of_two_less_one f.q two.order_power.0 w.order_low two.order_power.1) in
      let s : e ≡ suc (e / 2 + e / 2) = omega arith in
      ap (λ (m : ℕ). total f m (λ t. 1)) s ∙ ap (λ (x : ℕ). f.sum x 1) (ones_even (e / 2)) ∙ w.sum_zero 1 (one_below f w)
