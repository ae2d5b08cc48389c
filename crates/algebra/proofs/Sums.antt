-- Finite sums over a field.
use Rattle.std.proofs.Common.{◌≡◌, ℕ, zero, suc, ◌+◌, ◌%◌, ◌<◌, ◌≤◌, sym, refl, ap, ◌∙◌, ap₂, ⊎_elim, add-zero, add-suc, mod-eq_of_lt, suc-add, zero-add, arith}
use native.Mathlib.Nat.{add-mod_right}
use Rattle.std.proofs.lemmas.Bool.{cases_lt}
use Rattle.field.specs.Meaning.{Meaning, Lawful, CharacteristicTwo}
use Rattle.field.specs.Sums.{total}
use Rattle.algebra.proofs.Powers.{zero_below, product_one_right, product_zero}

module _ (f : Meaning) (w : Lawful f) where
  pub sum_zero_right : (a : ℕ) → a < f.q → f.sum a 0 ≡ a
  sum_zero_right a h = w.sum_comm a 0 ∙ w.sum_zero a h

  -- an operand of q or more counts as 0 in a sum, as it does in a product
  pub sum_symbol : (a b : ℕ) → f.sum (f.product a 1) b ≡ f.sum a b
  sum_symbol a b =
      ⊎_elim (λ (h : a < f.q). ap (λ (x : ℕ). f.sum x b) (product_one_right f w a h))
      (λ (h : f.q ≤ a).
      ap (λ (x : ℕ). f.sum x b) (w.product_outside a 1 h ∙ product_one_right f w 0 (zero_below f w)) ∙ sym (w.sum_outside a b h))
      (cases_lt a f.q)

  pub sum_middle : (a b c d : ℕ) → f.sum (f.sum a b) (f.sum c d) ≡ f.sum (f.sum a c) (f.sum b d)
  sum_middle a b c d =
      cc (w.sum_assoc a b (f.sum c d), w.sum_assoc b c d, w.sum_comm b c, w.sum_assoc c b d, w.sum_assoc a c (f.sum b d))

  pub total_below : (n : ℕ) (t : ℕ → ℕ) → total f n t < f.q
  total_below zero t = zero_below f w
  total_below (suc n) t = w.sum_below (total f n t) (t n)

  pub total_same : (n : ℕ) (s t : ℕ → ℕ) → ((i : ℕ) → i < n → s i ≡ t i) → total f n s ≡ total f n t
  total_same zero s t h = refl
  total_same (suc n) s t h = ap₂ f.sum (total_same n s t (λ i l. h i (omega arith))) (h n (omega arith))

  -- terms that are 0 from k on do not count
  pub total_cut : (n k : ℕ) (t : ℕ → ℕ) → k ≤ n → ((i : ℕ) → k ≤ i → i < n → t i ≡ 0) → total f n t ≡ total f k t
  total_cut zero k t l h = let e : 0 ≡ k = omega arith in ap (λ (m : ℕ). total f m t) e
  total_cut (suc n) k t l h =
      ⊎_elim (λ (s : k < suc n).
      ap₂ f.sum (total_cut n k t (omega arith) (λ i a b. h i a (omega arith))) (h n (omega arith) (omega arith))
      ∙ sum_zero_right (total f k t) (total_below k t))
      (λ (s : suc n ≤ k). let e : suc n ≡ k = omega arith in ap (λ (m : ℕ). total f m t) e) (cases_lt k (suc n))

  pub total_zero : (n : ℕ) (t : ℕ → ℕ) → ((i : ℕ) → i < n → t i ≡ 0) → total f n t ≡ 0
  total_zero n t h = total_cut n 0 t (omega arith) (λ i a l. h i l)

  -- the sum of terms of which all but term k are 0
  pub total_one : (n k : ℕ) (t : ℕ → ℕ) → k < n → t k < f.q → ((i : ℕ) → i < n → (i ≡ k → ⊥) → t i ≡ 0) → total f n t ≡ t k
  total_one n k t l below h =
      total_cut n (suc k) t (omega arith) (λ i a b. h i b (λ e. omega arith))
      ∙ ap (λ (x : ℕ). f.sum x (t k)) (total_zero k t (λ i a. h i (omega arith) (λ e. omega arith))) ∙ w.sum_zero (t k) below

  -- the sum of terms of which all but terms i and j are 0
  pub total_two : (n i j : ℕ) (t : ℕ → ℕ) → i < j → j < n
      → ((k : ℕ) → k < n → (k ≡ i → ⊥) → (k ≡ j → ⊥) → t k ≡ 0) → total f n t ≡ f.sum (t i) (t j)
  total_two n i j t l h z =
      total_cut n (suc j) t (omega arith) (λ k a b. z k b (λ p. omega arith) (λ p. omega arith))
      ∙ ap (λ (x : ℕ). f.sum x (t j))
      (total_cut j (suc i) t (omega arith) (λ k a b. z k (omega arith) (λ p. omega arith) (λ p. omega arith))
      ∙ ap (λ (x : ℕ). f.sum x (t i)) (total_zero i t (λ k a. z k (omega arith) (λ p. omega arith) (λ p. omega arith))))
      ∙ w.sum_assoc 0 (t i) (t j) ∙ w.sum_zero (f.sum (t i) (t j)) (w.sum_below (t i) (t j))

  pub total_sum : (n : ℕ) (s t : ℕ → ℕ) → total f n (λ i. f.sum (s i) (t i)) ≡ f.sum (total f n s) (total f n t)
  total_sum zero s t = sym (w.sum_zero 0 (zero_below f w))
  total_sum (suc n) s t =
      ap (λ (x : ℕ). f.sum x (f.sum (s n) (t n))) (total_sum n s t) ∙ sum_middle (total f n s) (total f n t) (s n) (t n)

  pub total_product : (n a : ℕ) (t : ℕ → ℕ) → total f n (λ i. f.product a (t i)) ≡ f.product a (total f n t)
  total_product zero a t = sym (product_zero f w a)
  total_product (suc n) a t =
      ap (λ (x : ℕ). f.sum x (f.product a (t n))) (total_product n a t) ∙ sym (w.product_sum a (total f n t) (t n))

  pub total_product_right : (n a : ℕ) (t : ℕ → ℕ) → total f n (λ i. f.product (t i) a) ≡ f.product (total f n t) a
  total_product_right n a t =
      total_same n (λ i. f.product (t i) a) (λ i. f.product a (t i)) (λ i l. w.product_comm (t i) a)
      ∙ total_product n a t ∙ w.product_comm a (total f n t)

  pub total_exchange : (m n : ℕ) (u : ℕ → ℕ → ℕ)
      → total f m (λ i. total f n (λ j. u i j)) ≡ total f n (λ j. total f m (λ i. u i j))
  total_exchange zero n u = sym (total_zero n (λ j. 0) (λ j l. refl))
  total_exchange (suc m) n u =
      ap (λ (x : ℕ). f.sum x (total f n (λ j. u m j))) (total_exchange m n u)
      ∙ sym (total_sum n (λ j. total f m (λ i. u i j)) (λ j. u m j))

  -- sums of products, the factor a sum itself
  pub total_factor : (m n : ℕ) (u : ℕ → ℕ → ℕ) (v : ℕ → ℕ)
      → total f n (λ j. f.product (total f m (λ i. u i j)) (v j)) ≡ total f m (λ i. total f n (λ j. f.product (u i j) (v j)))
  total_factor m n u v =
      total_same n (λ j. f.product (total f m (λ i. u i j)) (v j)) (λ j. total f m (λ i. f.product (u i j) (v j)))
      (λ j l. sym (total_product_right m (v j) (λ i. u i j)))
      ∙ total_exchange n m (λ j i. f.product (u i j) (v j))

  -- a row x times a matrix u times a column v: either product may be first
  pub total_between : (m n : ℕ) (x v : ℕ → ℕ) (u : ℕ → ℕ → ℕ)
      → total f n (λ j. f.product (total f m (λ i. f.product (x i) (u i j))) (v j))
      ≡ total f m (λ i. f.product (x i) (total f n (λ j. f.product (u i j) (v j))))
  total_between m n x v u =
      total_factor m n (λ i j. f.product (x i) (u i j)) v
      ∙ total_same m (λ i. total f n (λ j. f.product (f.product (x i) (u i j)) (v j)))
      (λ i. f.product (x i) (total f n (λ j. f.product (u i j) (v j))))
      (λ i l. total_same n (λ j. f.product (f.product (x i) (u i j)) (v j)) (λ j. f.product (x i) (f.product (u i j) (v j)))
      (λ j h. w.product_assoc (x i) (u i j) (v j))
      ∙ total_product n (x i) (λ j. f.product (u i j) (v j)))

  -- the first term apart
  pub total_first : (n : ℕ) (t : ℕ → ℕ) → total f (suc n) t ≡ f.sum (t 0) (total f n (λ i. t (suc i)))
  total_first zero t = w.sum_comm 0 (t 0)
  total_first (suc n) t =
      ap (λ (x : ℕ). f.sum x (t (suc n))) (total_first n t) ∙ w.sum_assoc (t 0) (total f n (λ i. t (suc i))) (t (suc n))

  -- the terms moved by one place, where the last of them is the first again
  pub total_turn : (n : ℕ) (t : ℕ → ℕ) → t n ≡ t 0 → total f n (λ i. t (suc i)) ≡ total f n t
  total_turn zero t e = refl
  total_turn (suc n) t e =
      ap (f.sum (total f n (λ i. t (suc i)))) e ∙ w.sum_comm (total f n (λ i. t (suc i))) (t 0) ∙ sym (total_first n t)

  -- the terms in cyclic order, from place k on
  pub total_cyclic : (n k : ℕ) (t : ℕ → ℕ) → total f n (λ i. t ((k + i) % n)) ≡ total f n t
  total_cyclic n zero t =
      total_same n (λ i. t ((0 + i) % n)) t (λ i l. ap t (ap (λ (m : ℕ). m % n) (zero-add i) ∙ mod-eq_of_lt l))
  total_cyclic n (suc k) t =
      total_same n (λ i. t ((suc k + i) % n)) (λ i. t ((k + suc i) % n))
      (λ i l. ap (λ (m : ℕ). t (m % n)) (suc-add k i ∙ sym (add-suc k i)))
      ∙ total_turn n (λ i. t ((k + i) % n)) (ap t (add-mod_right k n ∙ ap (λ (m : ℕ). m % n) (sym (add-zero k))))
      ∙ total_cyclic n k t

-- What needs that a + a = 0.
module _ (f : Meaning) (w : Lawful f) (two : CharacteristicTwo f) where
  pub same_from_sum : (a b : ℕ) → a < f.q → b < f.q → f.sum a b ≡ 0 → a ≡ b
  same_from_sum a b ha hb e =
      cc (w.sum_assoc a b b, two.sum_self b, sum_zero_right f w a ha, w.sum_zero b hb)
