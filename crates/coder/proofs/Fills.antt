-- A block's spectrum, filled column by column.
use Rattle.std.proofs.Common.{◌≡◌, ℕ, zero, suc, ◌+◌, ◌<◌, ◌≤◌, Bool, true, false, cond, List, [], ◌∷◌, length, get_or, set, take, fold, zip, sym, refl, ap, ap₂, ◌∙◌, ⊎_elim, add-one, arith, below_more}
use Rattle.std.proofs.lemmas.List.{get_or-set_same, get_or-set_other, take_all}
use Rattle.std.proofs.lemmas.List.Sums.{fold_more}
use Rattle.std.proofs.lemmas.Bool.{cases_Bool, cond-true, cond-false}
use Rattle.field.specs.Meaning.{Meaning, Lawful}
use Rattle.field.specs.Sums.{total}
use Rattle.algebra.specs.Matrices.{lead_row, free, count}
use Rattle.algebra.specs.Solutions.{free_part, solved}
use Rattle.algebra.proofs.Counts.{count_true}
use Rattle.algebra.proofs.Powers.{product_zero}
use Rattle.algebra.proofs.Sums.{total_same}

-- one place more of a list that a loop fills
pub stored : (u : ℕ → ℕ) (xs : List ℕ) (i x : ℕ) → i < length xs → ((h : ℕ) → h < i → get_or xs h 0 ≡ u h) → x ≡ u i
    → (h : ℕ) → h < i + 1 → get_or (set xs i x) h 0 ≡ u h
stored u xs i x l a e =
    below_more (λ (h : ℕ). get_or (set xs i x) h 0 ≡ u h) i
    (λ h g. get_or-set_other xs i h x 0 (λ s. omega arith) ∙ a h g) (get_or-set_same xs i x 0 l ∙ e)

-- one message symbol more where the column is free
pub spread_free_lem : (p : ℕ → Bool) (first j k k' : ℕ) → p j ≡ true → k ≡ first + count j p → k' ≡ k + 1 → k' ≡ first + count (j + 1) p
spread_free_lem p first j k k' t e e' =
    let c : count (suc j) p ≡ suc (count j p) = count_true p j t in
    e' ∙ ap (λ (n : ℕ). n + 1) e ∙ omega arith ∙ ap (λ (n : ℕ). first + count n p) (sym (add-one j))

-- a vector that is 0 in the leading columns, times a row, is the row's part over the free columns
module _ (f : Meaning) (w : Lawful f) (rows c : ℕ) (m : ℕ → ℕ → ℕ) (v u : ℕ → ℕ) (eu : (j : ℕ) → j < c → u j ≡ cond (free rows m j) (v j) 0) where
  part : (i h : ℕ) → h < c → f.product (m i h) (u h) ≡ cond (free rows m h) (f.product (m i h) (v h)) 0
  part i h l =
      ⊎_elim
      (λ (t : free rows m h ≡ true).
      ap (f.product (m i h)) (eu h l ∙ cond-true (free rows m h) (v h) 0 t) ∙ sym (cond-true (free rows m h) (f.product (m i h) (v h)) 0 t))
      (λ (t : free rows m h ≡ false).
      ap (f.product (m i h)) (eu h l ∙ cond-false (free rows m h) (v h) 0 t) ∙ product_zero f w (m i h)
      ∙ sym (cond-false (free rows m h) (f.product (m i h) (v h)) 0 t)) (cases_Bool (free rows m h))

  pub solved_at_free : (j x : ℕ) → j < c → free rows m j ≡ true → x ≡ u j → x ≡ solved f rows c m v j
  unfolding solved
  solved_at_free j x l t e =
      e ∙ eu j l ∙ cond-true (free rows m j) (v j) 0 t ∙ sym (cond-true (free rows m j) (v j) (free_part f rows c m (lead_row rows m j) v) t)

  pub solved_at_lead : (j i x : ℕ) → i ≡ lead_row rows m j → free rows m j ≡ false → x ≡ total f c (λ h. f.product (m i h) (u h)) → x ≡ solved f rows c m v j
  unfolding solved free_part
  solved_at_lead j i x ei t e =
      e ∙ ap (λ (i : ℕ). total f c (λ h. f.product (m i h) (u h))) ei
      ∙ total_same f w c (λ h. f.product (m (lead_row rows m j) h) (u h))
      (λ h. cond (free rows m h) (f.product (m (lead_row rows m j) h) (v h)) 0) (λ h l. part (lead_row rows m j) h l)
      ∙ sym (cond-false (free rows m j) (v j) (free_part f rows c m (lead_row rows m j) v) t)

zip_long : (xs ys : List ℕ) → length xs ≡ length ys → length (zip xs ys) ≡ length xs
zip_long [] ys e = refl
zip_long (x ∷ xs) [] e = absurd (omega (arith, e))
zip_long (x ∷ xs) (y ∷ ys) e = ap suc (zip_long xs ys (omega (arith, e)))

zip_at : (xs ys : List ℕ) (h : ℕ) → length xs ≡ length ys → h < length xs → get_or (zip xs ys) h (0, 0) ≡ (get_or xs h 0, get_or ys h 0)
zip_at [] ys h e l = absurd (omega (arith, l))
zip_at (x ∷ xs) [] h e l = absurd (omega (arith, e))
zip_at (x ∷ xs) (y ∷ ys) zero e l = refl
zip_at (x ∷ xs) (y ∷ ys) (suc h) e l = zip_at xs ys h (omega (arith, e)) (omega (arith, l))

-- a fold over two lists side by side is a sum of products
module _ (f : Meaning) (xs ys : List ℕ) (long : length xs ≡ length ys) where
  abbrev pub term : ℕ → ℕ
  term h = f.product (get_or xs h 0) (get_or ys h 0)

  abbrev pub step : ℕ → ℕ × ℕ → ℕ
  step a p = f.sum a (f.product p.0 p.1)

  fold_to : (n : ℕ) → n ≤ length xs → fold step 0 (take n (zip xs ys)) ≡ total f n term
  fold_to zero h = refl
  fold_to (suc n) h =
      ap (λ (k : ℕ). fold step 0 (take k (zip xs ys))) (sym (add-one n))
      ∙ fold_more step 0 (zip xs ys) n (0, 0) (omega (arith, zip_long xs ys long))
      ∙ ap₂ step (fold_to n (omega arith)) (zip_at xs ys n long (omega arith))

  pub fold_total : fold step 0 (zip xs ys) ≡ total f (length xs) term
  fold_total =
      ap (fold step 0) (sym (take_all (length xs) (zip xs ys) (omega (arith, zip_long xs ys long)))) ∙ fold_to (length xs) (omega arith)
