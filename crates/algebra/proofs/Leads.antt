-- Leading entries and free columns: of any matrix, and of a matrix in reduced row echelon form.
use Rattle.std.proofs.Common.{◌≡◌, ℕ, zero, suc, ◌<◌, ◌≤◌, true, false, cond, eqb, ltb, ◌⊎◌, sym, refl, ap, ◌∙◌, inl, inr, ⊎_elim, arith}
use Rattle.std.proofs.lemmas.Bool.{eqb-true, eqb-false, ltb-true, eq-eqb, ne_eqb, lt-ltb, le-ltb, and_parts, and_from, and_left, cond-true, cond-false, cases_lt, cases_order, cases_Bool}
use Rattle.algebra.specs.Matrices.{Echelon, zero_before, starts, lead_row, free}

pub zero_before_true : (row : ℕ → ℕ) (j : ℕ) → zero_before row j ≡ true → (k : ℕ) → k < j → row k ≡ 0
zero_before_true row zero e k l = absurd (omega arith)
zero_before_true row (suc j) e k l =
    let both : (eqb (row j) 0 ≡ true) × (zero_before row j ≡ true) = and_parts (eqb (row j) 0) (zero_before row j) e in
    ⊎_elim (λ (s : k < j). zero_before_true row j both.1 k s)
    (λ (s : j ≤ k). let same : k ≡ j = omega arith in ap row same ∙ eqb-true (row j) 0 both.0) (cases_lt k j)

pub zero_before_from : (row : ℕ → ℕ) (j : ℕ) → ((k : ℕ) → k < j → row k ≡ 0) → zero_before row j ≡ true
zero_before_from row zero h = refl
zero_before_from row (suc j) h =
    and_from (eqb (row j) 0) (zero_before row j) (eq-eqb (row j) 0 (h j (omega arith)))
    (zero_before_from row j (λ k l. h k (omega arith)))

pub starts_true : (row : ℕ → ℕ) (j : ℕ) → starts row j ≡ true → (0 < row j) × ((k : ℕ) → k < j → row k ≡ 0)
starts_true row j e =
    let both : (ltb 0 (row j) ≡ true) × (zero_before row j ≡ true) = and_parts (ltb 0 (row j)) (zero_before row j) e in
    (ltb-true 0 (row j) both.0, zero_before_true row j both.1)

pub starts_from : (row : ℕ → ℕ) (j : ℕ) → 0 < row j → ((k : ℕ) → k < j → row k ≡ 0) → starts row j ≡ true
starts_from row j l h = and_from (ltb 0 (row j)) (zero_before row j) (lt-ltb 0 (row j) l) (zero_before_from row j h)

pub starts_not : (row : ℕ → ℕ) (j : ℕ) → row j ≡ 0 → starts row j ≡ false
starts_not row j z = and_left (ltb 0 (row j)) (zero_before row j) (le-ltb 0 (row j) (omega arith))

-- The first row that starts in column j.
module _ (m : ℕ → ℕ → ℕ) (j : ℕ) where
  row_kept : (n : ℕ) → lead_row n m j < n → lead_row (suc n) m j ≡ lead_row n m j
  row_kept n l =
      cond-true (ltb (lead_row n m j) n) (lead_row n m j) (cond (starts (m n) j) n (suc n)) (lt-ltb (lead_row n m j) n l)

  row_next : (n : ℕ) → lead_row n m j ≡ n → lead_row (suc n) m j ≡ cond (starts (m n) j) n (suc n)
  row_next n e =
      cond-false (ltb (lead_row n m j) n) (lead_row n m j) (cond (starts (m n) j) n (suc n)) (le-ltb (lead_row n m j) n (omega arith))

  pub lead_row_none : (n : ℕ) → ((i : ℕ) → i < n → starts (m i) j ≡ false) → lead_row n m j ≡ n
  lead_row_none zero h = refl
  lead_row_none (suc n) h =
      row_next n (lead_row_none n (λ i l. h i (omega arith))) ∙ cond-false (starts (m n) j) n (suc n) (h n (omega arith))

  pub lead_row_is : (n i : ℕ) → i < n → starts (m i) j ≡ true → ((h : ℕ) → h < i → starts (m h) j ≡ false) → lead_row n m j ≡ i
  lead_row_is zero i l s h = absurd (omega arith)
  lead_row_is (suc n) i l s h =
      ⊎_elim (λ (k : i < n).
      let e : lead_row n m j ≡ i = lead_row_is n i k s h in
      row_kept n (omega arith) ∙ e)
      (λ (k : n ≤ i).
      let e : i ≡ n = omega arith in
      row_next n (lead_row_none n (λ x y. h x (omega arith)))
      ∙ cond-true (starts (m n) j) n (suc n) (ap (λ (x : ℕ). starts (m x) j) (sym e) ∙ s) ∙ sym e) (cases_lt i n)

  pub lead_row_cases : (n : ℕ) → ((lead_row n m j < n) × (starts (m (lead_row n m j)) j ≡ true)) ⊎ (lead_row n m j ≡ n)
  lead_row_cases zero = inr refl
  lead_row_cases (suc n) =
      ⊎_elim (λ (s : (lead_row n m j < n) × (starts (m (lead_row n m j)) j ≡ true)).
      let e : lead_row (suc n) m j ≡ lead_row n m j = row_kept n s.0 in
      inl (omega (arith, s.0), ap (λ (x : ℕ). starts (m x) j) e ∙ s.1))
      (λ (s : lead_row n m j ≡ n).
      ⊎_elim (λ (t : starts (m n) j ≡ true).
      let e : lead_row (suc n) m j ≡ n = row_next n s ∙ cond-true (starts (m n) j) n (suc n) t in
      inl (omega arith, ap (λ (x : ℕ). starts (m x) j) e ∙ t))
      (λ (t : starts (m n) j ≡ false). inr (row_next n s ∙ cond-false (starts (m n) j) n (suc n) t))
      (cases_Bool (starts (m n) j)))
      (lead_row_cases n)

module _ (rows c : ℕ) (m : ℕ → ℕ → ℕ) (rank : ℕ) (lead : ℕ → ℕ) (e : Echelon rows c m rank lead) where
  -- the row that leads in the column of row i's leading entry is row i
  pub lead_row_back : (i : ℕ) → i < rank → lead_row rows m (lead i) ≡ i
  lead_row_back i l =
      lead_row_is m (lead i) rows i (omega arith)
      (starts_from (m i) (lead i) (omega (arith, e.one i l)) (λ k s. e.before i k l s))
      (λ h s. starts_not (m h) (lead i) (e.alone h i (omega arith) l (λ x. omega arith)))

  pub lead_not_free : (i : ℕ) → i < rank → free rows m (lead i) ≡ false
  lead_not_free i l = ne_eqb (lead_row rows m (lead i)) rows (λ x. omega (arith, lead_row_back i l))

  -- a row that starts in column j has its leading entry there
  start_leads : (i j : ℕ) → i < rows → j < c → starts (m i) j ≡ true → (i < rank) × (lead i ≡ j)
  start_leads i j l h s =
      let p : (0 < m i j) × ((k : ℕ) → k < j → m i k ≡ 0) = starts_true (m i) j s in
      ⊎_elim (λ (k : i < rank). (
        k,
        ⊎_elim (λ (x : lead i ≡ j). x)
            (λ x. absurd (⊎_elim (λ (y : lead i < j). omega (arith, p.1 (lead i) y, e.one i k))
            (λ (y : j < lead i). omega (arith, p.0, e.before i j k y)) x)) (cases_order (lead i) j),
      ))
      (λ (k : rank ≤ i). absurd (omega (arith, p.0, e.zeros i j k l h))) (cases_lt i rank)

  -- a column that is not free is that of its row's leading entry
  pub lead_of : (j : ℕ) → j < c → free rows m j ≡ false → (lead_row rows m j < rank) × (lead (lead_row rows m j) ≡ j)
  lead_of j h taken =
      ⊎_elim (λ (s : (lead_row rows m j < rows) × (starts (m (lead_row rows m j)) j ≡ true)).
      start_leads (lead_row rows m j) j s.0 h s.1)
      (λ (s : lead_row rows m j ≡ rows). absurd (eqb-false (lead_row rows m j) rows taken s)) (lead_row_cases m j rows)
