-- Sums over a field that a loop builds up.
use Rattle.std.proofs.Common.{◌≡◌, ℕ, ◌+◌, ◌%◌, ◌<◌, List, length, get_or, sym, ap, ◌∙◌, mod-lt, add-one}
use Rattle.field.specs.Meaning.{Meaning, Lawful}
use Rattle.field.specs.Sums.{total}
use Rattle.algebra.proofs.Sums.{total_same}
use Rattle.array.specs.declared.plain.Term.{Term}
use Rattle.array.specs.Cells.{no_term}
use Rattle.code.specs.Checks.{cell_sum}

pub total_more : (f : Meaning) (n : ℕ) (t : ℕ → ℕ) → f.sum (total f n t) (t n) ≡ total f (n + 1) t
total_more f n t = ap (λ (k : ℕ). total f k t) (sym (add-one n))

-- one more term, on top of a
pub sum_more : (f : Meaning) → Lawful f → (a n : ℕ) (t : ℕ → ℕ) (x y : ℕ) → x ≡ f.sum a (total f n t) → y ≡ f.sum x (t n)
    → y ≡ f.sum a (total f (n + 1) t)
sum_more f w a n t x y ex ey =
    ey ∙ ap (λ (z : ℕ). f.sum z (t n)) ex ∙ w.sum_assoc a (total f n t) (t n) ∙ ap (f.sum a) (total_more f n t)

-- only the symbols of the column count
pub cell_sum_same : (f : Meaning) → Lawful f → (e : ℕ) (terms : List Term) (x y : ℕ → ℕ) (s : ℕ) → 0 < e → ((l : ℕ) → l < e → x l ≡ y l)
    → cell_sum f e terms x s ≡ cell_sum f e terms y s
cell_sum_same f w e terms x y s p h =
    total_same f w (length terms) (λ k. f.product (get_or terms k no_term).coefficient (x (((get_or terms k no_term).shift + s) % e)))
    (λ k. f.product (get_or terms k no_term).coefficient (y (((get_or terms k no_term).shift + s) % e)))
    (λ k l. ap (f.product (get_or terms k no_term).coefficient) (h (((get_or terms k no_term).shift + s) % e) (mod-lt ((get_or terms k no_term).shift + s) p)))

-- a row's check s once the cell of one more column is added
pub row_more : (f : Meaning) → Lawful f → (e n : ℕ) (t : ℕ → ℕ) (terms cell : List Term) (x y : ℕ → ℕ) (s was new : ℕ) → 0 < e
    → was ≡ total f n t → terms ≡ cell → ((l : ℕ) → l < e → x l ≡ y l) → t n ≡ cell_sum f e cell y s
    → new ≡ f.sum was (cell_sum f e terms x s) → new ≡ total f (n + 1) t
row_more f w e n t terms cell x y s was new p ew et ex ec en =
    let a : cell_sum f e terms x s ≡ cell_sum f e cell x s = ap (λ (ts : List Term). cell_sum f e ts x s) et in
    let b : cell_sum f e cell x s ≡ cell_sum f e cell y s = cell_sum_same f w e cell x y s p ex in
    let d : f.sum (total f n t) (t n) ≡ total f (n + 1) t = total_more f n t in
    cc
