-- One column's step of the reduction to echelon form: with the first k columns in shape, what is asked of column k.
use Rattle.std.proofs.Common.{◌≡◌, ℕ, ◌+◌, ◌<◌, ◌≤◌, cond, eqb, sym, ap, ◌∙◌, ⊎_elim, arith}
use Rattle.std.proofs.lemmas.Bool.{eq-eqb, ne_eqb, cond-true, cond-false, cases_lt}
use Rattle.algebra.specs.Matrices.{Echelon}

pub echelon_start : (rows : ℕ) (m : ℕ → ℕ → ℕ) → Echelon rows 0 m 0 (λ i. 0)
echelon_start rows m = record {
  within = omega arith;
  column = λ i l. absurd (omega arith);
  rising = λ h i l k. absurd (omega arith);
  one = λ i l. absurd (omega arith);
  before = λ i j l h. absurd (omega arith);
  alone = λ h i k l d. absurd (omega arith);
  zeros = λ i j a l h. absurd (omega arith);
}

module _ (rows k : ℕ) (m : ℕ → ℕ → ℕ) (top : ℕ) (lead : ℕ → ℕ) (e : Echelon rows k m top lead) where
  -- no row from `top` on has an entry in column k
  pub echelon_skip : ((i : ℕ) → top ≤ i → i < rows → m i k ≡ 0) → Echelon rows (k + 1) m top lead
  echelon_skip none = record {
    within = e.within;
    column = λ i l. omega (arith, e.column i l);
    rising = e.rising;
    one = e.one;
    before = e.before;
    alone = e.alone;
    zeros = λ i j a l h.
        ⊎_elim (λ (s : j < k). e.zeros i j a l s)
        (λ (s : k ≤ j). let same : j ≡ k = omega arith in ap (m i) same ∙ none i a l) (cases_lt j k);
  }

  -- column k has 1 in row `top` and 0 in every other, and the columns before it are as they were
  pub echelon_pivot : (n : ℕ → ℕ → ℕ) → top < rows → ((i j : ℕ) → i < rows → j < k → n i j ≡ m i j) → n top k ≡ 1
      → ((i : ℕ) → i < rows → (i ≡ top → ⊥) → n i k ≡ 0) → Echelon rows (k + 1) n (top + 1) (λ i. cond (eqb i top) k (lead i))
  echelon_pivot n lt kept here clear =
      let more : ℕ → ℕ = λ i. cond (eqb i top) k (lead i) in
      let last : (i : ℕ) → i ≡ top → more i ≡ k = λ i x. cond-true (eqb i top) k (lead i) (eq-eqb i top x) in
      let older : (i : ℕ) → i < top → more i ≡ lead i = λ i x. cond-false (eqb i top) k (lead i) (ne_eqb i top (λ y. omega arith)) in
      record {
        within = omega arith;
        column = λ i l. grind (arith, last i, older i, e.column i);
        rising = λ h i s l. grind (arith, last i, older i, last h, older h, e.column h, e.rising h i);
        one = λ i l.
            ⊎_elim (λ (x : i < top).
            ap (n i) (older i x) ∙ kept i (lead i) (omega arith) (e.column i x) ∙ e.one i x)
            (λ (x : top ≤ i). let same : i ≡ top = omega arith in ap (n i) (last i same) ∙ ap (λ (y : ℕ). n y k) same ∙ here) (cases_lt i top);
        before = λ i j l h.
            ⊎_elim (λ (x : i < top).
            let a : j < lead i = omega (arith, older i x) in
            kept i j (omega arith) (omega (arith, e.column i x)) ∙ e.before i j x a)
            (λ (x : top ≤ i).
            let same : i ≡ top = omega arith in
            let a : j < k = omega (arith, last i same) in
            kept i j (omega arith) a ∙ e.zeros i j x (omega arith) a) (cases_lt i top);
        alone = λ h i a l d.
            ⊎_elim (λ (x : i < top).
            ap (n h) (older i x) ∙ kept h (lead i) a (e.column i x) ∙ e.alone h i a x d)
            (λ (x : top ≤ i).
            let same : i ≡ top = omega arith in
            ap (n h) (last i same) ∙ clear h a (λ (y : h ≡ top). d (y ∙ sym same))) (cases_lt i top);
        zeros = λ i j a l h.
            ⊎_elim (λ (s : j < k). kept i j l s ∙ e.zeros i j (omega arith) l s)
            (λ (s : k ≤ j). let same : j ≡ k = omega arith in ap (n i) same ∙ clear i l (λ (y : i ≡ top). omega arith)) (cases_lt j k);
      }
