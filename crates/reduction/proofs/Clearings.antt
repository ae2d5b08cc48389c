-- The pivot row scaled, and the other rows cleared with it: the pivot's column, the symbols and the null space.
use Rattle.std.proofs.Common.{◌≡◌, ℕ, ◌+◌, ◌<◌, ◌≤◌, sym, ap, ◌∙◌, subst, ap₂, ⊎_elim, arith}
use Rattle.std.proofs.lemmas.Bool.{cases_eq}
use Rattle.field.specs.Meaning.{Meaning, Lawful, CharacteristicTwo}
use Rattle.algebra.specs.Matrices.{SameNull, Swapped, RowIs}
use Rattle.algebra.proofs.Powers.{product_zero, product_one_right}
use Rattle.algebra.proofs.Nulls.{scaling_keeps_null_lem, adding_keeps_null_lem, same_null_join}
use Rattle.reduction.specs.Blocks.{Symbols}
use Rattle.reduction.specs.Steps.{Cleared}

-- column k is cleared with row a in the rows before row b, and all else is as it was
pub record ClearTo (f : Meaning) (rows c : ℕ) (m n : ℕ → ℕ → ℕ) (a k b : ℕ) : Type 0 where
  pub pivot : (j : ℕ) → j < c → n a j ≡ m a j
  pub done : (i j : ℕ) → i < b → j < c → (i ≡ a → ⊥) → n i j ≡ f.sum (m i j) (f.product (m i k) (m a j))
  pub rest : (i j : ℕ) → b ≤ i → i < rows → j < c → n i j ≡ m i j
  pub nulls : SameNull f rows c m n

pub same_null_self : (f : Meaning) (rows c : ℕ) (m : ℕ → ℕ → ℕ) → SameNull f rows c m m
same_null_self f rows c m = record { there = λ v h z. z; back = λ v h z. z }

module _ (f : Meaning) (w : Lawful f) where
  -- the inverse of a symbol that is not 0
  inverse_nonzero : (x : ℕ) → 0 < x → x < f.q → 0 < f.inverse x
  inverse_nonzero x l h =
      ⊎_elim (λ (e : f.inverse x ≡ 0).
      let no : ◌≡◌ {A = ℕ} 1 0 = sym (w.product_inverse x l h) ∙ ap (f.product x) e ∙ product_zero f w x in absurd (omega arith))
      (λ (d : f.inverse x ≡ 0 → ⊥). omega arith) (cases_eq (f.inverse x) 0)

  module _ (rows c : ℕ) (m n : ℕ → ℕ → ℕ) where
    -- row a scaled by the inverse of its entry in column k
    pub pivot_nulls : (a k : ℕ) → a < rows → 0 < m a k → m a k < f.q
        → RowIs rows c m n a (λ j. f.product (f.inverse (m a k)) (m a j)) → SameNull f rows c m n
    pivot_nulls a k la lo hi r =
        scaling_keeps_null_lem f w rows c a (f.inverse (m a k)) m n la (inverse_nonzero (m a k) lo hi) (w.inverse_below (m a k)) r

    -- the entries are still symbols
    pub swapped_symbols : (a h : ℕ) → a < rows → h < rows → Symbols f.q rows c m → Swapped rows c m n a h → Symbols f.q rows c n
    swapped_symbols a h la lh s r i j li lj = grind (arith, r.first j, r.second j, r.others i j, s a j, s h j, s i j)

    pub row_symbols : (a : ℕ) (t : ℕ → ℕ) → ((j : ℕ) → t j < f.q) → Symbols f.q rows c m → RowIs rows c m n a t
        → Symbols f.q rows c n
    row_symbols a t below s r i j li lj = grind (arith, r.here j, below j, r.others i j, s i j)

    pub cleared_symbols : (a k : ℕ) → Symbols f.q rows c m → Cleared f rows c m n a k → Symbols f.q rows c n
    cleared_symbols a k s r i j li lj =
        grind (arith, r.pivot j, r.others i j, s i j, w.sum_below (m i j) (f.product (m i k) (m a j)))

  module _ (rows c : ℕ) (m : ℕ → ℕ → ℕ) (a k : ℕ) where
    module _ (n : ℕ → ℕ → ℕ) (i : ℕ) (t : ClearTo f rows c m n a k i) where
      -- row a itself is passed over
      pub clear_skip : i ≡ a → ClearTo f rows c m n a k (i + 1)
      clear_skip e = record {
        pivot = t.pivot;
        done = λ h j l lj d. t.done h j (grind arith) lj d;
        rest = λ h j b l lj. t.rest h j (omega arith) l lj;
        nulls = t.nulls;
      }

      -- row i has the multiple of row a added that clears it
      pub clear_next : (n' : ℕ → ℕ → ℕ) (by : ℕ) → i < rows → a < rows → k < c → (i ≡ a → ⊥) → by ≡ n i k
          → RowIs rows c n n' i (λ j. f.sum (n i j) (f.product by (n a j))) → ClearTo f rows c m n' a k (i + 1)
      clear_next n' by li la lk d e r =
          let from : by ≡ m i k = e ∙ t.rest i k (omega arith) li lk in
          record {
            pivot = λ j lj. r.others a j la lj (λ x. d (sym x)) ∙ t.pivot j lj;
            done = λ h j l lj x.
                ⊎_elim (λ (y : h ≡ i).
                subst (λ (z : ℕ). n' z j ≡ f.sum (m z j) (f.product (m z k) (m a j))) (sym y)
                (r.here j lj ∙ ap₂ f.sum (t.rest i j (omega arith) li lj) (ap₂ f.product from (t.pivot j lj))))
                (λ (y : h ≡ i → ⊥). let s : h < i = omega arith in r.others h j (omega arith) lj y ∙ t.done h j s lj x) (cases_eq h i);
            rest = λ h j b l lj. r.others h j l lj (λ x. omega arith) ∙ t.rest h j (omega arith) l lj;
            nulls = same_null_join f rows c m n n' t.nulls (adding_keeps_null_lem f w rows c i a by n n' li la (λ x. d (sym x)) r);
          }

    -- all rows but row a are cleared, with 1 in row a
    pub clear_end : CharacteristicTwo f → (n : ℕ → ℕ → ℕ) → k < c → m a k ≡ 1 → Symbols f.q rows c m
        → ClearTo f rows c m n a k rows → Cleared f rows c m n a k
    clear_end two n lk one s t = record {
      pivot = t.pivot;
      others = λ i j li lj d. t.done i j li lj d;
      zeros = λ i li d.
          t.done i k li lk d
          ∙ ap (f.sum (m i k)) (ap (f.product (m i k)) one ∙ product_one_right f w (m i k) (s i k li lk)) ∙ two.sum_self (m i k);
    }
