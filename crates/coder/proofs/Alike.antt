-- Matrices with the same entries have the same free columns and the same solutions.
use Rattle.std.proofs.Common.{◌≡◌, ℕ, zero, suc, ◌<◌, ◌≤◌, Bool, true, false, cond, ◌&&◌, eqb, ltb, List, [], ◌∷◌, ◌++◌, sym, refl, ap, ◌∙◌, ap₂, ⊎_elim, arith}
use Rattle.std.proofs.lemmas.Bool.{cases_Bool, eqb-false, cond-true, cond-false}
use Rattle.field.specs.Meaning.{Meaning, Lawful}
use Rattle.algebra.specs.Matrices.{zero_before, lead_row, free, count}
use Rattle.algebra.specs.Solutions.{free_part, filled, solved, gathered}
use Rattle.algebra.proofs.Leads.{lead_row_cases}
use Rattle.algebra.proofs.Sums.{total_same}
use Rattle.coder.specs.Forms.{row_major}

module _ (rows c : ℕ) (m n : ℕ → ℕ → ℕ) (same : (i j : ℕ) → i < rows → j < c → m i j ≡ n i j) where
  zero_before_same : (i : ℕ) → i < rows → (j : ℕ) → j ≤ c → zero_before (m i) j ≡ zero_before (n i) j
  zero_before_same i l zero h = refl
  zero_before_same i l (suc j) h =
      ap₂ (λ x y. x && y) (ap (λ (x : ℕ). eqb x 0) (same i j l (omega arith))) (zero_before_same i l j (omega arith))

  lead_row_same : (k : ℕ) → k ≤ rows → (j : ℕ) → j < c → lead_row k m j ≡ lead_row k n j
  lead_row_same zero h j l = refl
  lead_row_same (suc k) h j l =
      ap₂ (λ (x : ℕ) (b : Bool). cond (ltb x k) x (cond b k (suc k))) (lead_row_same k (omega arith) j l)
      (ap₂ (λ x y. x && y) (ap (ltb 0) (same k j (omega arith) l)) (zero_before_same k (omega arith) j (omega arith)))

  free_same : (j : ℕ) → j < c → free rows m j ≡ free rows n j
  free_same j l = ap (λ (x : ℕ). eqb x rows) (lead_row_same rows (omega arith) j l)

  count_same : (k : ℕ) → k ≤ c → count k (free rows m) ≡ count k (free rows n)
  count_same zero h = refl
  count_same (suc k) h =
      ap₂ (λ (b : Bool) (x : ℕ). cond b (suc x) x) (free_same k (omega arith)) (count_same k (omega arith))

  module _ (f : Meaning) (w : Lawful f) (x : ℕ → ℕ) where
    part_same : (j h : ℕ) → j < c → free rows m j ≡ false → h < c
        → cond (free rows m h) (f.product (m (lead_row rows m j) h) (x (count h (free rows m)))) 0
        ≡ cond (free rows n h) (f.product (n (lead_row rows n j) h) (x (count h (free rows n)))) 0
    part_same j h l taken g =
        let below : lead_row rows m j < rows =
        ⊎_elim (λ s. s.0) (λ (s : lead_row rows m j ≡ rows). absurd (eqb-false (lead_row rows m j) rows taken s)) (lead_row_cases m j rows) in
        ap₂ (λ (b : Bool) (y : ℕ). cond b y 0) (free_same h g)
        (ap₂ f.product (same (lead_row rows m j) h below g ∙ ap (λ (i : ℕ). n i h) (lead_row_same rows (omega arith) j l))
        (ap x (count_same h (omega arith))))

    filled_same : (j : ℕ) → j < c → filled f rows c m x j ≡ filled f rows c n x j
    unfolding solved free_part
    filled_same j l =
        let v : ℕ → ℕ = λ h. x (count h (free rows m)) in
        let u : ℕ → ℕ = λ h. x (count h (free rows n)) in
        ⊎_elim
        (λ (t : free rows m j ≡ true).
        cond-true (free rows m j) (v j) (free_part f rows c m (lead_row rows m j) v) t ∙ ap x (count_same j (omega arith))
        ∙ sym (cond-true (free rows n j) (u j) (free_part f rows c n (lead_row rows n j) u) (sym (free_same j l) ∙ t)))
        (λ (t : free rows m j ≡ false).
        cond-false (free rows m j) (v j) (free_part f rows c m (lead_row rows m j) v) t
        ∙ total_same f w c (λ h. cond (free rows m h) (f.product (m (lead_row rows m j) h) (v h)) 0)
        (λ h. cond (free rows n h) (f.product (n (lead_row rows n j) h) (u h)) 0) (λ h g. part_same j h l t g)
        ∙ sym (cond-false (free rows n j) (u j) (free_part f rows c n (lead_row rows n j) u) (sym (free_same j l) ∙ t)))
        (cases_Bool (free rows m j))

-- a form beside the block that it is read from
module _ (rows c r n : ℕ) (xs : List ℕ) (b : ℕ → ℕ → ℕ) (er : r ≡ rows) (en : n ≡ c)
    (same : (i j : ℕ) → i < rows → j < c → row_major c xs i j ≡ b i j) where
  pub form_count : count n (free r (row_major n xs)) ≡ count c (free rows b)
  form_count =
      ap₂ (λ (r n : ℕ). count n (free r (row_major n xs))) er en ∙ count_same rows c (row_major c xs) b same c (omega arith)

  gathered_alike : (v : ℕ → ℕ) (k : ℕ) → k ≤ c → gathered k (free rows (row_major c xs)) v ≡ gathered k (free rows b) v
  gathered_alike v zero h = refl
  gathered_alike v (suc k) h =
      ap₂ (λ (ys : List ℕ) (p : Bool). ys ++ cond p (v k ∷ []) []) (gathered_alike v k (omega arith))
      (free_same rows c (row_major c xs) b same k (omega arith))

  pub form_gathered : (v : ℕ → ℕ) → gathered n (free r (row_major n xs)) v ≡ gathered c (free rows b) v
  form_gathered v = ap₂ (λ (r n : ℕ). gathered n (free r (row_major n xs)) v) er en ∙ gathered_alike v c (omega arith)

  pub form_filled : (f : Meaning) → Lawful f → (x y : ℕ → ℕ) → ((j : ℕ) → j < n → y j ≡ filled f r n (row_major n xs) x j)
      → (j : ℕ) → j < c → y j ≡ filled f rows c b x j
  form_filled f w x y h j l =
      h j (omega arith) ∙ ap₂ (λ (r n : ℕ). filled f r n (row_major n xs) x j) er en ∙ filled_same rows c (row_major c xs) b same f w x j l
