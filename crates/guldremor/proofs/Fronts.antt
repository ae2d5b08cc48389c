-- What holds of the cells that are lent holds of all that the session has, and what passes at the front of a buffer passes alone.
use Rattle.std.proofs.Common.{◌≡◌, ℕ, ◌+◌, ◌*◌, ◌<◌, ◌≤◌, List, length, take, get_or, Ok, Err, sym, ap, ◌∙◌, subst, mul-le-mul_left, mul_comm, arith}
use Rattle.std.proofs.lemmas.Nat.{mul-add-lt}
use Rattle.std.proofs.lemmas.List.{get_or-take, length-take}
use Rattle.field.specs.Meaning.{Meaning, Lawful}
use Rattle.field.specs.Laws.{shift_lawful}
use Rattle.field.specs.AnyField.{degree_of, degree_of_low, degree_of_high, meaning_of}
use Rattle.field.specs.declared.any.AnyField.{AnyField}
use Rattle.array.specs.declared.plain.CellRow.{CellRow}
use Rattle.array.specs.declared.shape.Shape.{Shape}
use Rattle.array.specs.Buffers.{blank, cell_at}
use Rattle.array.specs.Cells.{terms_of}
use Rattle.algebra.proofs.Sums.{total_same}
use Rattle.code.specs.Checks.{Verdict, cell_sum, syndrome, PassesAll, Checked}
use Rattle.code.proofs.Sums.{cell_sum_same}

lawful_of : (f : AnyField) → Lawful (meaning_of f)
lawful_of f = shift_lawful (degree_of f) (degree_of_low f) (degree_of_high f)

-- a place of an array is among the first 512
pub place_first : (s : Shape) (i j : ℕ) → i < s.rows → j < s.columns → i * s.columns + j < 512
place_first s i j h g =
    omega (arith, mul-add-lt i s.columns j s.rows h g, mul-le-mul_left {m = s.rows} {n = 8} s.columns s.rows_high, s.columns_high)

-- the cell at a place, among the first n cells
pub cell_first : (s : Shape) (n : ℕ) (cells : List CellRow) (i j : ℕ) → i < s.rows → j < s.columns → 512 ≤ length (take n cells)
    → cell_at s.columns (take n cells) i j ≡ cell_at s.columns cells i j
cell_first s n cells i j h g l =
    get_or-take n cells (i * s.columns + j) blank (omega (arith, place_first s i j h g, length-take n cells))

module _ (f : Meaning) (w : Lawful f) (s : Shape) (n : ℕ) (cells : List CellRow) (word : List ℕ) (l : 512 ≤ length (take n cells)) where
  syndrome_first : (i k : ℕ) → i < s.rows → syndrome f s.size s.columns (take n cells) word i k ≡ syndrome f s.size s.columns cells word i k
  syndrome_first i k h =
      total_same f w s.columns
      (λ j. cell_sum f s.size (terms_of (cell_at s.columns (take n cells) i j)) (λ m. get_or word (j * s.size + m) 0) k)
      (λ j. cell_sum f s.size (terms_of (cell_at s.columns cells i j)) (λ m. get_or word (j * s.size + m) 0) k)
      (λ j g. ap (λ (c : CellRow). cell_sum f s.size (terms_of c) (λ m. get_or word (j * s.size + m) 0) k) (cell_first s n cells i j h g l))

-- a verdict on the first n cells is one on all
pub checked_first : (c : AnyField) (s : Shape) (n : ℕ) (cells : List CellRow) (word : List ℕ) (v : Verdict)
    → Checked (meaning_of c) s.size s.rows s.columns (take n cells) word (Ok v)
    → Checked (meaning_of c) s.size s.rows s.columns cells word (Ok v)
checked_first c s n cells word (Ok _) h =
    let same = syndrome_first (meaning_of c) (lawful_of c) s n cells word h.0.0 in
    ((omega (arith, h.0.0, length-take n cells), h.0.1, h.0.2), λ i k a b. sym (same i k a) ∙ h.1 i k a b)
checked_first c s n cells word (Err x) h =
    let same = syndrome_first (meaning_of c) (lawful_of c) s n cells word h.0.0 in
    let d = h.1 in (
      (omega (arith, h.0.0, length-take n cells), h.0.1, h.0.2),
      record {
        row_within = d.row_within;
        s_within = d.s_within;
        value = d.value ∙ same x.row x.s d.row_within;
        nonzero = d.nonzero;
        rows_before = λ g m a b. sym (same g m (omega (arith, a, d.row_within))) ∙ d.rows_before g m a b;
        before = λ m a. sym (same x.row m d.row_within) ∙ d.before m a;
      },
    )

-- a verdict on cells and a field stands for equal cells and an equal field
pub verdict_stands : (f h : AnyField) (e rows columns : ℕ) (cells held : List CellRow) (word : List ℕ) (v u : Verdict)
    → f ≡ h → cells ≡ held → u ≡ v → Checked (meaning_of h) e rows columns cells word (Ok v) → Checked (meaning_of f) e rows columns held word (Ok u)
verdict_stands f h e rows columns cells held word v u ef ec ev c =
    subst (λ (x : Verdict). Checked (meaning_of f) e rows columns held word (Ok x)) (sym ev)
    (subst (λ (x : List CellRow). Checked (meaning_of f) e rows columns x word (Ok v)) ec
    (subst (λ (x : AnyField). Checked (meaning_of x) e rows columns cells word (Ok v)) (sym ef) c))

-- a word passes as it stands at the front of a longer buffer
pub passes_taken : (c : AnyField) (s : Shape) (cells : List CellRow) (out : List ℕ) (n : ℕ) → n ≡ s.columns * s.size
    → PassesAll (meaning_of c) s.size s.rows s.columns cells out → PassesAll (meaning_of c) s.size s.rows s.columns cells (take n out)
passes_taken c s cells out n e h i k a b =
    let f = meaning_of c in
    let w = lawful_of c in
    total_same f w s.columns
    (λ j. cell_sum f s.size (terms_of (cell_at s.columns cells i j)) (λ l. get_or (take n out) (j * s.size + l) 0) k)
    (λ j. cell_sum f s.size (terms_of (cell_at s.columns cells i j)) (λ l. get_or out (j * s.size + l) 0) k)
    (λ j g. cell_sum_same f w s.size (terms_of (cell_at s.columns cells i j)) (λ l. get_or (take n out) (j * s.size + l) 0)
    (λ l. get_or out (j * s.size + l) 0) k s.size_low
    (λ l m. get_or-take n out (j * s.size + l) 0 (omega (arith, e, mul-add-lt j s.size l s.columns g m, mul_comm s.size s.columns))))
    ∙ h i k a b
