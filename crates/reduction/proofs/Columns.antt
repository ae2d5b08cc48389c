-- One column's step: exchange, scaling and clearing together.
use Rattle.std.proofs.Common.{◌≡◌, ℕ, ◌+◌, ◌<◌, ◌≤◌, sym, ap, ◌∙◌, ⊎_elim, arith, Option, Some, None, MatchOption}
use Rattle.std.proofs.lemmas.Bool.{cases_eq}
use Rattle.field.specs.Meaning.{Meaning, Lawful}
use Rattle.algebra.specs.Matrices.{SameNull, Echelon, Swapped, RowIs}
use Rattle.algebra.proofs.Powers.{product_zero}
use Rattle.algebra.proofs.Sums.{sum_zero_right}
use Rattle.algebra.proofs.Nulls.{swap_keeps_null_lem, same_null_join}
use Rattle.reduction.specs.Blocks.{Symbols}
use Rattle.reduction.specs.Steps.{Pivot, Cleared, Stepped}
use Rattle.reduction.proofs.Clearings.{same_null_self, swapped_symbols, row_symbols, cleared_symbols}
use Rattle.reduction.proofs.Eliminations.{echelon_start, echelon_skip, echelon_pivot}

-- the first row from `top` on with an entry in column k is the pivot
pub pivot_found : (rows : ℕ) (m : ℕ → ℕ → ℕ) (top k : ℕ) (r : Option ℕ)
    → MatchOption r ((h : ℕ) → top ≤ h → h < rows → m h k ≡ 0)
    (λ i. (top ≤ i) × (i < rows) × (0 < m i k) × ((h : ℕ) → top ≤ h → h < i → m h k ≡ 0))
    → MatchOption r ((h : ℕ) → top ≤ h → h < rows → m h k ≡ 0) (λ i. Pivot rows m top k i)
pivot_found rows m top k None none = none
pivot_found rows m top k (Some i) p = record { from = p.0; within = p.1; nonzero = p.2; first = p.3 }

module _ (f : Meaning) (w : Lawful f) (rows c k top : ℕ) (m : ℕ → ℕ → ℕ) (symbols : Symbols f.q rows c m) where
  -- there is no pivot
  pub step_none : top ≤ rows → ((h : ℕ) → top ≤ h → h < rows → m h k ≡ 0) → Stepped f rows c k m m top top
  step_none l none = record {
    symbols = symbols;
    nulls = same_null_self f rows c m;
    within = l;
    shape = λ lead e. (lead, echelon_skip rows k m top lead e none);
  }

  -- m becomes s by the exchange and t by the scaling
  module _ (s t : ℕ → ℕ → ℕ) (i by : ℕ) (p : Pivot rows m top k i) (exchanged : Swapped rows c m s top i)
      (scaled : RowIs rows c s t top (λ j. f.product by (s top j))) where
    top_below : top < rows
    top_below = omega (arith, p.from, p.within)

    pub scaled_symbols : Symbols f.q rows c t
    scaled_symbols =
        row_symbols f w rows c s t top (λ j. f.product by (s top j)) (λ j. w.product_below by (s top j))
        (swapped_symbols f w rows c m s top i top_below p.within symbols exchanged) scaled

    -- the columns before column k stay, since there the rows from `top` on are 0
    module _ (zeros : (h j : ℕ) → top ≤ h → h < rows → j < k → m h j ≡ 0) (lk : k < c) where
      kept_exchanged : (h j : ℕ) → h < rows → j < k → s h j ≡ m h j
      kept_exchanged h j lh lj =
          let lc : j < c = omega arith in
          grind (arith, exchanged.first j, exchanged.second j, exchanged.others h j, zeros h j, zeros i j, zeros top j, p.from, p.within)

      kept_scaled : (h j : ℕ) → h < rows → j < k → t h j ≡ s h j
      kept_scaled h j lh lj =
          let lc : j < c = omega arith in
          let z : s top j ≡ 0 = kept_exchanged top j top_below lj ∙ zeros top j (omega arith) top_below lj in
          let x : t top j ≡ 0 = scaled.here j lc ∙ ap (f.product by) z ∙ product_zero f w by in
          grind (arith, scaled.others h j)

      kept_cleared : (n : ℕ → ℕ → ℕ) → Cleared f rows c t n top k → (h j : ℕ) → h < rows → j < k → n h j ≡ m h j
      kept_cleared n cleared h j lh lj =
          let lc : j < c = omega arith in
          let old : t h j ≡ m h j = kept_scaled h j lh lj ∙ kept_exchanged h j lh lj in
          let z : t top j ≡ 0 = kept_scaled top j top_below lj ∙ kept_exchanged top j top_below lj ∙ zeros top j (omega arith) top_below lj in
          ⊎_elim (λ (e : h ≡ top). ap (λ (y : ℕ). n y j) e ∙ cleared.pivot j lc ∙ sym (ap (λ (y : ℕ). t y j) e) ∙ old)
          (λ (d : h ≡ top → ⊥).
          cleared.others h j lh lc d
          ∙ ap (f.sum (t h j)) (ap (f.product (t h k)) z ∙ product_zero f w (t h k))
          ∙ sum_zero_right f w (t h j) (scaled_symbols h j lh lc) ∙ old) (cases_eq h top)

    -- and n by the clearing
    pub step_pivot : (n : ℕ → ℕ → ℕ) → k < c → t top k ≡ 1 → SameNull f rows c s t → Cleared f rows c t n top k → SameNull f rows c t n
        → Stepped f rows c k m n top (top + 1)
    step_pivot n lk one st cleared tn = record {
      symbols = cleared_symbols f w rows c t n top k scaled_symbols cleared;
      nulls =
          same_null_join f rows c m t n
          (same_null_join f rows c m s t (swap_keeps_null_lem f w rows c top i m s top_below p.within exchanged) st) tn;
      within = omega (arith, top_below);
      shape = λ lead e. (
        _,
        echelon_pivot rows k m top lead e n top_below (kept_cleared e.zeros lk n cleared) (cleared.pivot k lk ∙ one)
            cleared.zeros,
      );
    }

-- the first k columns of n are in echelon form, with `top` leading entries, and n comes from m
pub record Swept (f : Meaning) (rows c : ℕ) (m n : ℕ → ℕ → ℕ) (top k : ℕ) : Type 0 where
  pub symbols : Symbols f.q rows c n
  pub shape : (lead : ℕ → ℕ) × Echelon rows k n top lead
  pub nulls : SameNull f rows c m n

module _ (f : Meaning) (rows c : ℕ) (m : ℕ → ℕ → ℕ) where
  pub swept_none : Symbols f.q rows c m → Swept f rows c m m 0 0
  swept_none s = record {
    symbols = s;
    shape = (λ i. 0, echelon_start rows m);
    nulls = same_null_self f rows c m;
  }

  pub swept_more : (n n' : ℕ → ℕ → ℕ) (top next k : ℕ) → Swept f rows c m n top k → Stepped f rows c k n n' top next
      → Swept f rows c m n' next (k + 1)
  swept_more n n' top next k s t = record {
    symbols = t.symbols;
    shape = t.shape s.shape.0 s.shape.1;
    nulls = same_null_join f rows c m n n' s.nulls t.nulls;
  }
