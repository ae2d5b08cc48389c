-- How many rows are not zero, and how many columns are free.
use Rattle.std.proofs.Common.{◌≡◌, ℕ, zero, suc, ◌+◌, ◌-◌, ◌<◌, ◌≤◌, Bool, true, false, not, sym, ap, ◌∙◌, ⊎_elim, arith}
use Rattle.std.proofs.lemmas.Bool.{cond-true, cond-false, both_ways, cases_lt, cases_Bool}
use Rattle.algebra.specs.Matrices.{Echelon, RankCounts, zero_before, lead_row, free, nonzero, count}
use Rattle.algebra.proofs.Leads.{zero_before_true, zero_before_from, lead_not_free, lead_of}

module _ (p : ℕ → Bool) where
  pub count_true : (n : ℕ) → p n ≡ true → count (suc n) p ≡ suc (count n p)
  count_true n e = cond-true (p n) (suc (count n p)) (count n p) e

  pub count_false : (n : ℕ) → p n ≡ false → count (suc n) p ≡ count n p
  count_false n e = cond-false (p n) (suc (count n p)) (count n p) e

  -- p holds of the first k numbers, and of no other
  count_front : (n k : ℕ) → k ≤ n → ((i : ℕ) → i < k → p i ≡ true) → ((i : ℕ) → k ≤ i → i < n → p i ≡ false) → count n p ≡ k
  count_front zero k l has lacks = omega arith
  count_front (suc n) k l has lacks =
      ⊎_elim (λ (s : n < k).
      let e : k ≡ suc n = omega arith in
      count_true n (has n s)
      ∙ ap suc (count_front n n (omega arith) (λ i a. has i (omega arith)) (λ i a b. absurd (omega arith))) ∙ sym e)
      (λ (s : k ≤ n).
      count_false n (lacks n s (omega arith)) ∙ count_front n k s has (λ i a b. lacks i a (omega arith)))
      (cases_lt n k)

module _ (rows c : ℕ) (m : ℕ → ℕ → ℕ) (rank : ℕ) (lead : ℕ → ℕ) (e : Echelon rows c m rank lead) where
  nonzero_rows : count rows (nonzero c m) ≡ rank
  nonzero_rows =
      count_front (nonzero c m) rows rank e.within
      (λ i l. ⊎_elim (λ (z : zero_before (m i) c ≡ true).
      absurd (omega (arith, e.one i l, zero_before_true (m i) c z (lead i) (e.column i l))))
      (λ (z : zero_before (m i) c ≡ false). ap not z) (cases_Bool (zero_before (m i) c)))
      (λ i a l. ap not (zero_before_from (m i) c (λ j h. e.zeros i j a l h)))

  -- of the leading entries s stand in the first j columns: those of the first s rows
  record Before (j s : ℕ) : Type 0 where
    within : s ≤ rank
    left : (i : ℕ) → i < s → lead i < j
    right : (i : ℕ) → s ≤ i → i < rank → j ≤ lead i
    others : count j (free rows m) + s ≡ j

  before : (j : ℕ) → j ≤ c → (s : ℕ) × Before j s
  before zero h =
      (0, record { within = omega arith; left = λ i a. absurd (omega arith); right = λ i a b. omega arith; others = omega arith })
  before (suc j) h =
      let o : (s : ℕ) × Before j s = before j (omega arith) in
      let s : ℕ = o.0 in
      let b : Before j s = o.1 in
      ⊎_elim (λ (y : free rows m j ≡ true). (
        s,
        record {
          within = b.within;
          left = λ i a. omega (arith, b.left i a);
          right = λ i a l.
              let apart : lead i ≡ j → ⊥ = λ x. both_ways (free rows m j) (ap (free rows m) (sym x) ∙ lead_not_free rows c m rank lead e i l) y in
              grind (arith, apart, b.right i a l);
          others = omega (arith, b.others, count_true (free rows m) j y);
        },
      ))
      (λ (y : free rows m j ≡ false).
      let k : ℕ = lead_row rows m j in
      let w : (k < rank) × (lead k ≡ j) = lead_of rows c m rank lead e j (omega arith) y in
      let same : k ≡ s = grind (arith, b.left k, w.0, w.1, b.right s, e.rising s k, e.column k) in (
        suc s,
        record {
          within = omega (arith, w.0);
          left = λ i a. grind (arith, same, w.1, b.left i);
          right = λ i a l. grind (arith, same, w.1, e.rising k i);
          others = omega (arith, b.others, count_false (free rows m) j y);
        },
      ))
      (cases_Bool (free rows m j))

  pub free_columns : (rank ≤ c) × (count c (free rows m) ≡ c - rank)
  free_columns =
      let o : (s : ℕ) × Before c s = before c (omega arith) in
      let s : ℕ = o.0 in
      let b : Before c s = o.1 in
      let same : s ≡ rank = grind (arith, b.within, b.right s, e.column s) in
      (omega (arith, b.others), omega (arith, b.others))

pub rank_counts_lem : RankCounts
rank_counts_lem f rows c rank b r d =
    let lead : ℕ → ℕ = d.shape.0 in
    let e : Echelon rows c r rank lead = d.shape.1 in
    let others : (rank ≤ c) × (count c (free rows r) ≡ c - rank) = free_columns rows c r rank lead e in
    (nonzero_rows rows c r rank lead e, others.0, others.1)
