-- The size of a matrix stays when its entries change.
use Rattle.std.proofs.Common.{◌≡◌, ℕ, ◌+◌, ◌<◌, sym, ◌∙◌, subst}
use Rattle.field.specs.Meaning.{Meaning, Lawful}
use Rattle.algebra.specs.Matrices.{SameNull, Swapped, RowIs}
use Rattle.reduction.specs.declared.rows.Matrix.{Matrix}
use Rattle.reduction.specs.Blocks.{Symbols}
use Rattle.reduction.specs.Steps.{Pivot, Cleared, Stepped}
use Rattle.reduction.specs.Rows.{entries, IsSameMatrix}
use Rattle.reduction.proofs.Columns.{scaled_symbols, step_pivot}

-- what holds of the new size holds of the old one
pub same_size : (P : ℕ → ℕ → Type 0) (m n : Matrix) → IsSameMatrix m n → P n.rows n.columns → P m.rows m.columns
same_size P m n s p = subst (λ (r : ℕ). P r m.columns) s.1 (subst (λ (c : ℕ). P n.rows c) s.2 p)

pub same_join : (l m n : Matrix) → IsSameMatrix l m → IsSameMatrix m n → IsSameMatrix l n
same_join l m n a b = (b.0 ∙ a.0, b.1 ∙ a.1, b.2 ∙ a.2)

same_back : (m n : Matrix) → IsSameMatrix m n → IsSameMatrix n m
same_back m n a = (sym a.0, sym a.1, sym a.2)

-- one column's step: m becomes s by the exchange and t by the scaling
module _ (f : Meaning) (w : Lawful f) (m s t : Matrix) (k top i by : ℕ) (symbols : Symbols f.q m.rows m.columns (entries m))
    (p : Pivot m.rows (entries m) top k i) (same_s : IsSameMatrix m s) (same_t : IsSameMatrix s t)
    (exchanged : Swapped m.rows m.columns (entries m) (entries s) top i)
    (scaled : RowIs s.rows s.columns (entries s) (entries t) top (λ j. f.product by (entries s top j))) where
  row : RowIs m.rows m.columns (entries s) (entries t) top (λ j. f.product by (entries s top j))
  row = same_size (λ r c. RowIs r c (entries s) (entries t) top (λ j. f.product by (entries s top j))) m s same_s scaled

  same_both : IsSameMatrix m t
  same_both = same_join m s t same_s same_t

  pub symbols_kept : Symbols f.q t.rows t.columns (entries t)
  symbols_kept =
      same_size (λ r c. Symbols f.q r c (entries t)) t m (same_back m t same_both)
      (scaled_symbols f w m.rows m.columns k top (entries m) symbols (entries s) (entries t) i by p exchanged row)

  -- and n by the clearing
  pub stepped : (n : Matrix) → k < m.columns → entries t top k ≡ 1 → SameNull f s.rows s.columns (entries s) (entries t)
      → Cleared f t.rows t.columns (entries t) (entries n) top k → SameNull f t.rows t.columns (entries t) (entries n)
      → Stepped f m.rows m.columns k (entries m) (entries n) top (top + 1)
  stepped n lk one st cleared tn =
      step_pivot f w m.rows m.columns k top (entries m) symbols (entries s) (entries t) i by p exchanged row (entries n) lk one
      (same_size (λ r c. SameNull f r c (entries s) (entries t)) m s same_s st)
      (same_size (λ r c. Cleared f r c (entries t) (entries n) top k) m t same_both cleared)
      (same_size (λ r c. SameNull f r c (entries t) (entries n)) m t same_both tn)
