-- A buffer of rows, written row after row.
use Rattle.std.proofs.Common.{◌≡◌, ℕ, ◌+◌, ◌*◌, ◌<◌, ◌≤◌, List, length, get_or, sym, ◌∙◌, subst, ⊎_elim, arith, rules}
use borrow.Rule.Slice.PartMut.{put_mid}
use Rattle.std.proofs.lemmas.List.{places}
use Rattle.std.proofs.lemmas.Bool.{cases_eq}
use Rattle.coder.specs.Columns.{coefficient}
use Rattle.coder.proofs.Horner.{row_fits}

-- row t of a buffer of rows is written anew
module _ (columns start n t : ℕ) (xs ys : List ℕ) (es : start ≡ t * columns) (en : n ≡ columns) (within : start + n ≤ length xs) (ly : length ys ≡ n) where
  pub row_here : (j : ℕ) → j < columns → get_or (put_mid start n xs ys) (t * columns + j) 0 ≡ get_or ys j 0
  row_here j h =
      let e : get_or (put_mid start n xs ys) (start + j) 0 ≡ get_or ys j 0 = search (rules, places) in
      subst (λ (s : ℕ). get_or (put_mid start n xs ys) (s + j) 0 ≡ get_or ys j 0) es e

  pub row_kept : (i j : ℕ) → i < t → j < columns → get_or (put_mid start n xs ys) (i * columns + j) 0 ≡ get_or xs (i * columns + j) 0
  row_kept i j l h =
      let k : i * columns + j < start = omega (arith, row_fits t columns i l) in
      search (rules, places)

pub rows_more : (columns start n t : ℕ) (xs ys : List ℕ) (u : ℕ → ℕ → ℕ) → start ≡ t * columns → n ≡ columns → start + n ≤ length xs → length ys ≡ n
    → ((i j : ℕ) → i < t → j < columns → coefficient columns xs j i ≡ u i j) → ((j : ℕ) → j < columns → get_or ys j 0 ≡ u t j)
    → (i j : ℕ) → i < t + 1 → j < columns → coefficient columns (put_mid start n xs ys) j i ≡ u i j
rows_more columns start n t xs ys u es en within ly a b i j l h =
    ⊎_elim
    (λ (s : i ≡ t). subst (λ (i : ℕ). coefficient columns (put_mid start n xs ys) j i ≡ u i j) (sym s) (row_here columns start n t xs ys es en within ly j h ∙ b j h))
    (λ (ne : i ≡ t → ⊥). row_kept columns start n t xs ys es en within ly i j (omega arith) h ∙ a i j (omega arith) h) (cases_eq i t)
