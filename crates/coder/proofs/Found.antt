-- Leading entries and free columns, as they are found.
use Rattle.std.proofs.Common.{◌≡◌, ℕ, zero, suc, ◌+◌, ◌*◌, ◌<◌, ◌≤◌, Bool, true, false, ◌&&◌, cond, eqb, List, [], ◌∷◌, ◌++◌, filter, sum_by, length, Option, Some, None, MatchOption, get_or, take, sym, refl, ap, ap₂, ◌∙◌, ⊎_elim, add-one, arith, length-append}
use Rattle.std.proofs.Math.Bool.{and_comm}
use Rattle.std.proofs.lemmas.Bool.{cases_Bool, lt-ltb, eq-eqb, ne_eqb, cond-true, cond-false}
use Rattle.std.specs.List.{range_with_len, list_all}
use Rattle.std.proofs.lemmas.List.{map-id}
use Rattle.std.proofs.lemmas.List.Folds.{list_all_more}
use Rattle.std.proofs.lemmas.List.FromFn.{filter_of_map_range_with_len_more, sum_by-map-range_with_len_more}
use Rattle.algebra.specs.Matrices.{zero_before, starts, lead_row, free, count}
use Rattle.algebra.specs.Solutions.{offset}
use Rattle.algebra.proofs.Leads.{lead_row_is, lead_row_none}

-- the entries before column j, tested one by one
zeros_tested : (row : ℕ → ℕ) (xs : List ℕ) (j : ℕ) → j ≤ length xs → ((k : ℕ) → k < j → get_or xs k 0 ≡ row k)
    → list_all (λ x. eqb x 0) (take j xs) ≡ zero_before row j
zeros_tested row xs zero l is = refl
zeros_tested row xs (suc j) l is =
    let zero_entry : ℕ → Bool = λ x. eqb x 0 in
    ap (λ (k : ℕ). list_all zero_entry (take k xs)) (sym (add-one j)) ∙ list_all_more zero_entry xs j 0 (omega arith)
    ∙ and_comm (list_all zero_entry (take j xs)) (zero_entry (get_or xs j 0))
    ∙ ap₂ (λ (s t : Bool). s && t) (ap zero_entry (is j (omega arith))) (zeros_tested row xs j (omega arith) (λ k h. is k (omega arith)))

-- a row whose entry in column j is not 0 starts there if those before it are all 0
pub start_tested : (row : ℕ → ℕ) (xs : List ℕ) (j : ℕ) → j ≤ length xs → ((k : ℕ) → k < j → get_or xs k 0 ≡ row k) → 0 < row j
    → list_all (λ x. eqb x 0) (take j xs) ≡ starts row j
start_tested row xs j l is p =
    zeros_tested row xs j l is ∙ sym (ap (λ (t : Bool). t && zero_before row j) (lt-ltb 0 (row j) p))

-- the row that was found to lead in a column, if there is one
pub lead_found : (rows : ℕ) (m : ℕ → ℕ → ℕ) (j : ℕ) (r : Option ℕ)
    → MatchOption r ((k : ℕ) → 0 ≤ k → k < rows → starts (m k) j ≡ false)
    (λ i. (0 ≤ i) × (i < rows) × (starts (m i) j ≡ true) × ((k : ℕ) → 0 ≤ k → k < i → starts (m k) j ≡ false))
    → MatchOption r (free rows m j ≡ true) (λ i. (i < rows) × (i ≡ lead_row rows m j) × (free rows m j ≡ false))
lead_found rows m j None h = eq-eqb (lead_row rows m j) rows (lead_row_none m j rows (λ i l. h i (omega arith) l))
lead_found rows m j (Some i) h =
    let e : lead_row rows m j ≡ i = lead_row_is m j rows i h.1 h.2 (λ k l. h.3 k (omega arith) l) in
    (h.1, sym e, ne_eqb (lead_row rows m j) rows (λ x. omega (arith, h.1)))

-- the numbers below n that pass are as many as are counted
pub passing_below : (p : ℕ → Bool) (n : ℕ) → length (filter p (range_with_len 0 n)) ≡ count n p
passing_below p zero = refl
passing_below p (suc n) =
    let id : ℕ → ℕ = λ x. x in
    let more : filter p (range_with_len 0 (n + 1)) ≡ filter p (range_with_len 0 n) ++ cond (p n) (n ∷ []) [] =
    ap (filter p) (sym (map-id (range_with_len 0 (n + 1)))) ∙ filter_of_map_range_with_len_more p id 0 n n (omega arith)
    ∙ ap (λ (xs : List ℕ). filter p xs ++ cond (p n) (n ∷ []) []) (map-id (range_with_len 0 n)) in
    ap (λ (k : ℕ). length (filter p (range_with_len 0 k))) (sym (add-one n)) ∙ ap length more
    ∙ length-append (filter p (range_with_len 0 n)) (cond (p n) (n ∷ []) []) ∙ ap (λ (k : ℕ). k + length (cond (p n) (n ∷ []) [])) (passing_below p n)
    ∙ ⊎_elim
    (λ (t : p n ≡ true). ap (λ (xs : List ℕ). count n p + length xs) (cond-true (p n) (n ∷ []) [] t) ∙ add-one (count n p) ∙ sym (cond-true (p n) (suc (count n p)) (count n p) t))
    (λ (t : p n ≡ false). ap (λ (xs : List ℕ). count n p + length xs) (cond-false (p n) (n ∷ []) [] t) ∙ omega arith ∙ sym (cond-false (p n) (suc (count n p)) (count n p) t))
    (cases_Bool (p n))

-- what passes in each block, summed
pub passing_in_all : (c : ℕ) (p : ℕ → ℕ → Bool) (n : ℕ) → sum_by (λ t. count c (p t)) (range_with_len 0 n) ≡ offset c p n
passing_in_all c p zero = refl
passing_in_all c p (suc n) =
    let h : ℕ → ℕ = λ t. count c (p t) in
    ap (λ (k : ℕ). sum_by h (range_with_len 0 k)) (sym (add-one n)) ∙ ap (sum_by h) (sym (map-id (range_with_len 0 (n + 1))))
    ∙ sum_by-map-range_with_len_more h (λ x. x) 0 n n (omega arith) ∙ ap (λ (xs : List ℕ). sum_by h xs + h n) (map-id (range_with_len 0 n))
    ∙ ap (λ (k : ℕ). k + h n) (passing_in_all c p n)

count_few : (c : ℕ) (p : ℕ → Bool) → count c p ≤ c
count_few zero p = omega arith
count_few (suc c) p =
    ⊎_elim (λ (t : p c ≡ true). omega (arith, cond-true (p c) (suc (count c p)) (count c p) t, count_few c p))
    (λ (t : p c ≡ false). omega (arith, cond-false (p c) (suc (count c p)) (count c p) t, count_few c p)) (cases_Bool (p c))

pub offset_few : (c top : ℕ) (p : ℕ → ℕ → Bool) (n : ℕ) → c ≤ top → offset c p n ≤ n * top
offset_few c top p zero h = omega arith
offset_few c top p (suc n) h = omega (arith, count_few c (p n), offset_few c top p n h)
