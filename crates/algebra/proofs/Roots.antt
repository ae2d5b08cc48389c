-- Roots of unity.
use Rattle.std.proofs.Common.{◌≡◌, ℕ, ◌-◌, ◌*◌, ◌/◌, ◌%◌, ◌<◌, ◌≤◌, sym, ap, ◌∙◌, ⊎_elim, mul_comm, mul-zero, div-add-mod', zero-mul, arith}
use native.Mathlib.Nat.{mod-add-div', mul-lt-mul_of_pos_left}
use Rattle.std.proofs.lemmas.Bool.{cases_lt}
use Rattle.field.specs.Meaning.{Meaning, power, Lawful}
use Rattle.algebra.specs.Transforms.{PrimitiveRoot, root, RootHasOrder}
use Rattle.algebra.proofs.Powers.{power_below, power_one, power_add, power_mul, power_product, product_one_right, generator_turn}

-- the quotient by a divisor
pub whole_quotient : (n e : ℕ) → n % e ≡ 0 → n / e * e ≡ n
whole_quotient n e h = omega (arith, div-add-mod' n e)

positive_quotient : (n e : ℕ) → 0 < n → n % e ≡ 0 → 0 < n / e
positive_quotient n e l h =
    ⊎_elim (λ (p : 0 < n / e). p)
    (λ (p : n / e ≤ 0).
    let z : n / e ≡ 0 = omega arith in
    let s : n ≡ 0 = sym (whole_quotient n e h) ∙ ap (λ (d : ℕ). d * e) z ∙ zero-mul e in
    absurd (omega arith))
    (cases_lt 0 (n / e))

module _ (f : Meaning) (w : Lawful f) where
  -- every power of an e-th root of unity is one
  pub power_turn : (e a k : ℕ) → power f a e ≡ 1 → power f (power f a k) e ≡ 1
  power_turn e a k turn =
      power_mul f w a k e ∙ ap (power f a) (mul_comm k e) ∙ sym (power_mul f w a e k)
      ∙ ap (λ (x : ℕ). power f x k) turn ∙ power_one f w k

  -- exponents of an e-th root of unity count modulo e
  pub power_mod : (e a n : ℕ) → power f a e ≡ 1 → power f a (n % e) ≡ power f a n
  power_mod e a n turn =
      let d : ℕ = n / e * e in
      let one : power f a d ≡ 1 = sym (power_mul f w a (n / e) e) ∙ power_turn e a (n / e) turn in
      sym (product_one_right f w (power f a (n % e)) (power_below f w a (n % e)))
      ∙ ap (f.product (power f a (n % e))) (sym one)
      ∙ sym (power_add f w a (n % e) d) ∙ ap (power f a) (mod-add-div' n e)

  pub root_positive : (e : ℕ) → 0 < root f e
  root_positive e = w.powers_nonzero ((f.q - 1) / e)

  pub root_below : (e : ℕ) → root f e < f.q
  root_below e = power_below f w f.g ((f.q - 1) / e)

  pub root_inverse : (e : ℕ) → f.product (root f e) (f.inverse (root f e)) ≡ 1
  root_inverse e = w.product_inverse (root f e) (root_positive e) (root_below e)

  -- powers of two symbols whose product is 1
  pub power_undone : (a b k : ℕ) → f.product a b ≡ 1 → f.product (power f a k) (power f b k) ≡ 1
  power_undone a b k e = sym (power_product f w a b k) ∙ ap (λ (x : ℕ). power f x k) e ∙ power_one f w k

  inverse_primitive : (e a b : ℕ) → f.product a b ≡ 1 → b < f.q → PrimitiveRoot f e a → PrimitiveRoot f e b
  inverse_primitive e a b o h z = record {
    below = h;
    turn = cc (power_undone a b e o, z.turn, w.product_one (power f b e) (power_below f w b e));
    first = λ k l s t. z.first k l s
        (cc (power_undone a b k o, t, product_one_right f w (power f a k) (power_below f w a k)));
  }

pub root_has_order_lem : RootHasOrder
root_has_order_lem f w e pos h =
    let n : ℕ = f.q - 1 in
    let d : ℕ = n / e in
    let whole : d * e ≡ n = whole_quotient n e h in
    let p : 0 < d = positive_quotient n e (omega (arith, w.order_low)) h in
    record {
      below = root_below f w e;
      turn = power_mul f w f.g d e ∙ ap (power f f.g) whole ∙ generator_turn f w;
      first = λ k l s t.
          let low : d * 0 < d * k = mul-lt-mul_of_pos_left l p in
          let high : d * k < d * e = mul-lt-mul_of_pos_left s p in
          let z : d * k ≡ 0 =
          w.powers_once (d * k) 0 (omega arith) (omega (arith, w.order_low)) (sym (power_mul f w f.g d k) ∙ t) in
          omega (arith, mul-zero d);
    }

-- the inverse of the root is primitive as well
pub inverse_has_order : (f : Meaning) → Lawful f → (e : ℕ) → 0 < e → (f.q - 1) % e ≡ 0 → PrimitiveRoot f e (f.inverse (root f e))
inverse_has_order f w e pos h =
    inverse_primitive f w e (root f e) (f.inverse (root f e)) (root_inverse f w e) (w.inverse_below (root f e))
    (root_has_order_lem f w e pos h)
