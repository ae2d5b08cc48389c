-- What follows from the laws on products: cancellation, powers, the order of the generator, products with 0.
use Rattle.std.proofs.Common.{◌≡◌, ℕ, zero, suc, ◌+◌, ◌-◌, ◌*◌, ◌<◌, ◌≤◌, sym, refl, ap, ◌∙◌, ⊎_elim, add_comm, suc-add, mul-zero, zero-add, mul-suc, arith}
use Rattle.std.proofs.lemmas.Bool.{cases_lt}
use Rattle.field.specs.Meaning.{Meaning, power, Lawful}

module _ (f : Meaning) (w : Lawful f) where
  pub zero_below : 0 < f.q
  zero_below = omega (arith, w.order_low)

  pub one_below : 1 < f.q
  one_below = omega (arith, w.order_low)

  pub product_one_right : (a : ℕ) → a < f.q → f.product a 1 ≡ a
  product_one_right a h = w.product_comm a 1 ∙ w.product_one a h

  pub product_cancel : (a b c : ℕ) → 0 < a → a < f.q → b < f.q → c < f.q → f.product a b ≡ f.product a c → b ≡ c
  product_cancel a b c l ha hb hc e =
      let i : ℕ = f.inverse a in
      cc (
        w.product_inverse a l ha,
        w.product_comm a i,
        w.product_assoc i a b,
        w.product_assoc i a c,
        w.product_one b hb,
        w.product_one c hc,
      )

  pub product_middle : (a b c d : ℕ)
      → f.product (f.product a b) (f.product c d) ≡ f.product (f.product a c) (f.product b d)
  product_middle a b c d =
      cc (
        w.product_assoc a b (f.product c d),
        w.product_assoc b c d,
        w.product_comm b c,
        w.product_assoc c b d,
        w.product_assoc a c (f.product b d),
      )

  -- powers

  pub power_below : (a k : ℕ) → power f a k < f.q
  power_below a zero = one_below
  power_below a (suc k) = w.product_below a (power f a k)

  pub power_one : (k : ℕ) → power f 1 k ≡ 1
  power_one zero = refl
  power_one (suc k) = ap (f.product 1) (power_one k) ∙ w.product_one 1 one_below

  pub power_add : (a m n : ℕ) → power f a (m + n) ≡ f.product (power f a m) (power f a n)
  power_add a zero n = ap (power f a) (zero-add n) ∙ sym (w.product_one (power f a n) (power_below a n))
  power_add a (suc m) n =
      ap (power f a) (suc-add m n) ∙ ap (f.product a) (power_add a m n)
      ∙ sym (w.product_assoc a (power f a m) (power f a n))

  pub power_mul : (a m n : ℕ) → power f (power f a m) n ≡ power f a (m * n)
  power_mul a m zero = ap (power f a) (sym (mul-zero m))
  power_mul a m (suc n) =
      ap (f.product (power f a m)) (power_mul a m n) ∙ sym (power_add a m (m * n))
      ∙ ap (power f a) (add_comm m (m * n) ∙ sym (mul-suc m n))

  pub power_product : (a b k : ℕ) → power f (f.product a b) k ≡ f.product (power f a k) (power f b k)
  power_product a b zero = sym (w.product_one 1 one_below)
  power_product a b (suc k) =
      ap (f.product (f.product a b)) (power_product a b k) ∙ product_middle a b (power f a k) (power f b k)

  -- the generator

  -- the (q - 1)-th power of the generator is 1: it is a lower power, and only the 0-th fits
  pub generator_turn : power f f.g (f.q - 1) ≡ 1
  generator_turn =
      let z : ℕ = power f f.g (f.q - 1) in
      let m : (k : ℕ) × (k < f.q - 1) × (power f f.g k ≡ z) =
      w.powers_all z (w.powers_nonzero (f.q - 1)) (power_below f.g (f.q - 1)) in
      let k : ℕ = m.0 in
      let n : ℕ = f.q - 1 - k in
      let s : k + n ≡ f.q - 1 = omega (arith, m.1) in
      let a : ℕ = power f f.g k in
      let b : ℕ = power f f.g n in
      let e : f.product a b ≡ f.product a 1 =
      sym (power_add f.g k n) ∙ ap (power f f.g) s ∙ sym m.2 ∙ sym (product_one_right a (power_below f.g k)) in
      let o : b ≡ 1 = product_cancel a b 1 (w.powers_nonzero k) (power_below f.g k) (power_below f.g n) one_below e in
      ⊎_elim (λ (p : 0 < k).
      let none : n ≡ 0 = w.powers_once n 0 (omega (arith, m.1)) (omega (arith, w.order_low)) o in
      absurd (omega (arith, m.1)))
      (λ (p : k ≤ 0). let i : k ≡ 0 = omega arith in sym m.2 ∙ ap (power f f.g) i) (cases_lt 0 k)

  generator_zero : f.product f.g 0 ≡ 0
  generator_zero =
      let y : ℕ = f.product f.g 0 in
      ⊎_elim (λ (p : 0 < y).
      let m : (k : ℕ) × (k < f.q - 1) × (power f f.g k ≡ y) = w.powers_all y p (w.product_below f.g 0) in
      let n : ℕ = f.q - 2 in
      let s : f.q - 1 ≡ suc n = omega (arith, w.order_low) in
      let b : ℕ = power f f.g n in
      let turn : f.product f.g b ≡ 1 = ap (power f f.g) (sym s) ∙ generator_turn in
      let e : power f f.g (n + m.0) ≡ 0 =
      power_add f.g n m.0 ∙ ap (f.product b) m.2 ∙ sym (w.product_assoc b f.g 0)
      ∙ ap (λ (x : ℕ). f.product x 0) (w.product_comm b f.g ∙ turn) ∙ w.product_one 0 zero_below in
      absurd (omega (arith, w.powers_nonzero (n + m.0))))
      (λ (p : y ≤ 0). omega arith) (cases_lt 0 y)

  -- were a times 0 some other symbol p, then p times g would be p, and g would be 1
  pub product_zero : (a : ℕ) → f.product a 0 ≡ 0
  product_zero a =
      let p : ℕ = f.product a 0 in
      let below : p < f.q = w.product_below a 0 in
      ⊎_elim (λ (l : 0 < p).
      let e : f.product p f.g ≡ f.product p 1 =
      w.product_assoc a 0 f.g ∙ ap (f.product a) (w.product_comm 0 f.g ∙ generator_zero)
      ∙ sym (product_one_right p below) in
      let one : f.g ≡ 1 = product_cancel p f.g 1 l below w.generator_below one_below e in
      let same : ◌≡◌ {A = ℕ} 1 0 =
      w.powers_once 1 0 (omega (arith, w.order_low)) (omega (arith, w.order_low))
      (product_one_right f.g w.generator_below ∙ one) in
      absurd (omega arith))
      (λ (l : p ≤ 0). omega arith) (cases_lt 0 p)

  pub product_zero_left : (a : ℕ) → f.product 0 a ≡ 0
  product_zero_left a = w.product_comm 0 a ∙ product_zero a

  pub zero_from_product : (a b : ℕ) → 0 < a → a < f.q → b < f.q → f.product a b ≡ 0 → b ≡ 0
  zero_from_product a b l ha hb e = product_cancel a b 0 l ha hb zero_below (e ∙ sym (product_zero a))
