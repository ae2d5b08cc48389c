-- Every nonzero symbol is a power of x, and a product of powers adds their exponents: so the product commutes, associates and has inverses.
use Rattle.std.specs.Prelude.{◌≡◌, ℕ, zero, suc, ◌+◌, ◌-◌, ◌*◌, ◌^◌, ◌<◌, ◌≤◌, ◌≢◌, refl}
use Rattle.std.proofs.Math.Path.{sym, ap}
use Rattle.std.proofs.Common.{subst, ◌∙◌, ⊎_elim, arith, add_comm, zero-add, suc-add, zero-mul, suc-mul, mul_comm, mul-suc}
use Rattle.std.proofs.Math.Pow.{pow-lt}
use Rattle.std.proofs.lemmas.Bool.{cases_order}
use Rattle.field.specs.Shift.{double, scaled, multiplied, raised}
use Rattle.field.specs.Doubles.{double_small, scaled_lt, scaled_add, scaled_zero, scaled_double}
use Rattle.field.specs.Products.{product_zero_left, product_zero_right, product_one_left, product_lt, product_scaled}
use Rattle.field.specs.Walks.{turn, no_earlier_turn, reached}

scaled_suc : (r k a : ℕ) → scaled r (suc k) a ≡ double r (scaled r k a)
unfolding scaled
scaled_suc r k a = refl

module _ (r : ℕ) (lo : 2 ≤ r) (hi : r ≤ 9) where
  pub order_low : 4 ≤ 2 ^ r
  order_low = ⊎_elim (λ (e : 2 ≡ r). subst (λ (n : ℕ). 4 ≤ 2 ^ n) e (omega arith))
      (λ o. ⊎_elim (λ (l : 2 < r). let h : 2 ^ 2 < 2 ^ r = pow-lt l in omega arith) (λ (l : r < 2). absurd (omega arith)) o)
      (cases_order 2 r)

  pub order_high : 2 ^ r ≤ 512
  order_high = ⊎_elim (λ (e : r ≡ 9). subst (λ (n : ℕ). 2 ^ n ≤ 512) (sym e) (omega arith))
      (λ o. ⊎_elim (λ (l : r < 9). let h : 2 ^ r < 2 ^ 9 = pow-lt l in omega arith) (λ (l : 9 < r). absurd (omega arith)) o)
      (cases_order r 9)

  one_lt : 1 < 2 ^ r
  one_lt = omega (arith, order_low)

  pub power_lt : (k : ℕ) → scaled r k 1 < 2 ^ r
  power_lt k = scaled_lt r lo hi k 1 one_lt

  pub two_is : double r 1 ≡ 2
  two_is = double_small r 1 (omega (arith, order_low))

  pub product_powers : (i j : ℕ) → multiplied r (scaled r i 1) (scaled r j 1) ≡ scaled r (i + j) 1
  product_powers i j =
      product_scaled r lo hi i 1 (scaled r j 1) one_lt
      ∙ ap (scaled r i) (product_one_left r (scaled r j 1) (power_lt j)) ∙ sym (scaled_add r i j 1)

  pub turns : (n : ℕ) → scaled r (n * (2 ^ r - 1)) 1 ≡ 1
  unfolding scaled
  turns zero = ap (λ (k : ℕ). scaled r k 1) (zero-mul (2 ^ r - 1))
  turns (suc n) =
      ap (λ (k : ℕ). scaled r k 1) (suc-mul n (2 ^ r - 1))
      ∙ scaled_add r (n * (2 ^ r - 1)) (2 ^ r - 1) 1 ∙ ap (scaled r (n * (2 ^ r - 1))) (turn r lo hi) ∙ turns n

  -- x^k times another power is 1
  pub power_undone : (k : ℕ) → scaled r (k * (2 ^ r - 2) + k) 1 ≡ 1
  power_undone k =
      let e : 2 ^ r - 1 ≡ suc (2 ^ r - 2) = omega (arith, order_low) in
      ap (λ (n : ℕ). scaled r n 1) (sym (mul-suc k (2 ^ r - 2)) ∙ ap (λ (n : ℕ). k * n) (sym e)) ∙ turns k

  pub power_nonzero : (k : ℕ) → 0 < scaled r k 1
  power_nonzero k = positive (scaled r k 1) (λ e.
      let z : scaled r (k * (2 ^ r - 2) + k) 1 ≡ 0 =
      scaled_add r (k * (2 ^ r - 2)) k 1 ∙ ap (scaled r (k * (2 ^ r - 2))) e ∙ scaled_zero r (k * (2 ^ r - 2)) in
      omega (arith, power_undone k))
    where
      positive : (n : ℕ) → (n ≢ 0) → 0 < n
      positive zero h = absurd (h refl)
      positive (suc n) h = omega arith

  -- no power between 0 and q - 1 is 1
  first_turn : (k : ℕ) → 0 < k → k < 2 ^ r - 1 → scaled r k 1 ≢ 1
  first_turn zero l h e = omega arith
  first_turn (suc k) l h e =
      no_earlier_turn r lo hi k (omega arith) (ap (scaled r k) (sym two_is) ∙ scaled_double r k 1 ∙ sym (scaled_suc r k 1) ∙ e)

  apart : (i j : ℕ) → i < j → j < 2 ^ r - 1 → scaled r i 1 ≢ scaled r j 1
  apart i j l h e =
      let m : ℕ = 2 ^ r - 1 - i in
      let a : m + i ≡ 2 ^ r - 1 = omega arith in
      let b : m + j ≡ (j - i) + (2 ^ r - 1) = omega arith in
      first_turn (j - i) (omega arith) (omega arith)
      (ap (scaled r (j - i)) (sym (turn r lo hi)) ∙ sym (scaled_add r (j - i) (2 ^ r - 1) 1)
      ∙ ap (λ (n : ℕ). scaled r n 1) (sym b) ∙ scaled_add r m j 1 ∙ ap (scaled r m) (sym e)
      ∙ sym (scaled_add r m i 1) ∙ ap (λ (n : ℕ). scaled r n 1) a ∙ turn r lo hi)

  pub powers_once : (i j : ℕ) → i < 2 ^ r - 1 → j < 2 ^ r - 1 → scaled r i 1 ≡ scaled r j 1 → i ≡ j
  powers_once i j hi' hj e =
      ⊎_elim (λ (s : i ≡ j). s)
      (λ o. ⊎_elim (λ (l : i < j). absurd (apart i j l hj e)) (λ (l : j < i). absurd (apart j i l hi' (sym e))) o)
      (cases_order i j)

  pub product_comm : (a b : ℕ) → a < 2 ^ r → b < 2 ^ r → multiplied r a b ≡ multiplied r b a
  product_comm zero b ha hb = product_zero_left r b ∙ sym (product_zero_right r b)
  product_comm (suc a) zero ha hb = product_zero_right r (suc a) ∙ sym (product_zero_left r (suc a))
  product_comm (suc a) (suc b) ha hb =
      let i : (k : ℕ) × (k < 2 ^ r - 1) × (scaled r k 1 ≡ suc a) = reached r lo hi (suc a) (omega arith) ha in
      let j : (k : ℕ) × (k < 2 ^ r - 1) × (scaled r k 1 ≡ suc b) = reached r lo hi (suc b) (omega arith) hb in
      let ea : scaled r i.0 1 ≡ suc a = i.2 in
      let eb : scaled r j.0 1 ≡ suc b = j.2 in
      cc (product_powers i.0 j.0, product_powers j.0 i.0, add_comm i.0 j.0)

  pub product_assoc : (a b c : ℕ) → a < 2 ^ r → b < 2 ^ r → c < 2 ^ r
      → multiplied r (multiplied r a b) c ≡ multiplied r a (multiplied r b c)
  product_assoc zero b c ha hb hc =
      ap (λ (x : ℕ). multiplied r x c) (product_zero_left r b) ∙ product_zero_left r c ∙ sym (product_zero_left r (multiplied r b c))
  product_assoc (suc a) b c ha hb hc =
      let i : (k : ℕ) × (k < 2 ^ r - 1) × (scaled r k 1 ≡ suc a) = reached r lo hi (suc a) (omega arith) ha in
      let ea : scaled r i.0 1 ≡ suc a = i.2 in
      let left : (x : ℕ) → x < 2 ^ r → multiplied r (suc a) x ≡ scaled r i.0 x =
      λ x h. ap (λ (y : ℕ). multiplied r y x) (sym ea) ∙ product_scaled r lo hi i.0 1 x one_lt ∙ ap (scaled r i.0) (product_one_left r x h) in
      ap (λ (y : ℕ). multiplied r y c) (left b hb) ∙ product_scaled r lo hi i.0 b c hb
      ∙ sym (left (multiplied r b c) (product_lt r lo hi b c hb))

  pub raised_lt : (a n : ℕ) → a < 2 ^ r → raised r a n < 2 ^ r
  unfolding raised
  raised_lt a zero h = one_lt
  raised_lt a (suc n) h = product_lt r lo hi a (raised r a n) h

  pub raised_add : (a m n : ℕ) → a < 2 ^ r → raised r a (m + n) ≡ multiplied r (raised r a m) (raised r a n)
  unfolding raised
  raised_add a zero n h = ap (raised r a) (zero-add n) ∙ sym (product_one_left r (raised r a n) (raised_lt a n h))
  raised_add a (suc m) n h =
      ap (raised r a) (suc-add m n) ∙ ap (multiplied r a) (raised_add a m n h)
      ∙ sym (product_assoc a (raised r a m) (raised r a n) h (raised_lt a m h) (raised_lt a n h))

  pub raised_power : (k n : ℕ) → raised r (scaled r k 1) n ≡ scaled r (n * k) 1
  unfolding raised scaled
  raised_power k zero = ap (λ (m : ℕ). scaled r m 1) (sym (zero-mul k))
  raised_power k (suc n) =
      ap (multiplied r (scaled r k 1)) (raised_power k n) ∙ product_powers k (n * k)
      ∙ ap (λ (m : ℕ). scaled r m 1) (add_comm k (n * k) ∙ sym (suc-mul n k))

  pub product_inverse : (a : ℕ) → 0 < a → a < 2 ^ r → multiplied r a (raised r a (2 ^ r - 2)) ≡ 1
  unfolding raised
  product_inverse a l h =
      let i : (k : ℕ) × (k < 2 ^ r - 1) × (scaled r k 1 ≡ a) = reached r lo hi a l h in
      let e : suc (2 ^ r - 2) ≡ 2 ^ r - 1 = omega (arith, order_low) in
      ap (raised r a) e ∙ ap (λ (x : ℕ). raised r x (2 ^ r - 1)) (sym i.2) ∙ raised_power i.0 (2 ^ r - 1)
      ∙ ap (λ (n : ℕ). scaled r n 1) (mul_comm (2 ^ r - 1) i.0) ∙ turns i.0

  pub raised_zero : raised r 0 (2 ^ r - 2) ≡ 0
  unfolding raised
  raised_zero =
      let e : 2 ^ r - 2 ≡ suc (2 ^ r - 3) = omega (arith, order_low) in
      ap (raised r 0) e ∙ product_zero_left r (raised r 0 (2 ^ r - 3))
