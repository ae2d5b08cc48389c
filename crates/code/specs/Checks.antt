-- The parity checks of an array of circulants, and what a receiver says of a word.
use Rattle.std.specs.Prelude.{◌≡◌, ℕ, ◌+◌, ◌*◌, ◌%◌, ◌<◌, ◌≤◌, List, length, Some, None, Ok, Err, Option, Result, ◌==◌, ◌≢◌, nat_le, slice_index, slice_index_or}
use Rattle.refusal.specs.declared.Refusal.{Refusal}
use Rattle.refusal.specs.declared.Refusal.TheVariants.{Size, Shape, Buffer, Place, Cell, Full, Nothing, Length, Symbol, Room, Check, Record, Degree}
use Rattle.field.specs.Meaning.{Meaning}
use Rattle.field.specs.Sums.{total}
use Rattle.array.specs.declared.plain.Term.{Term}
use Rattle.array.specs.declared.plain.CellRow.{CellRow}
use Rattle.array.specs.Cells.{no_term, terms_of}
use Rattle.array.specs.Buffers.{cell_at}
use Rattle.array.specs.Shapes.{unless}
use Rattle.field.specs.Symbols.{symbols_below}
use Rattle.code.specs.declared.receiver.FailedCheck.{FailedCheck}

-- what the terms of one cell add to parity check s: the sum over the terms of coefficient times symbol (shift + s) mod e of the
-- cell's column of the word
abbrev pub cell_sum : Meaning → ℕ → List Term → (ℕ → ℕ) → ℕ → ℕ
cell_sum f e terms column s =
    total f (length terms) (λ k. f.product (slice_index_or terms k no_term).coefficient (column (((slice_index_or terms k no_term).shift + s) % e)))

-- the syndrome of parity check (i, s) at circulant size e: the sum over the cells of row i. Symbol l of column j of the word stands at j * e + l.
abbrev pub syndrome : Meaning → ℕ → ℕ → List CellRow → List ℕ → ℕ → ℕ → ℕ
syndrome f e columns cells word i s =
    total f columns (λ j. cell_sum f e (terms_of (cell_at columns cells i j)) (λ l. slice_index word (j * e + l)) s)

-- what the parity checks say of a word: it passes them all, or the first check that fails
abbrev pub Verdict : Type 0
Verdict = Result Unit FailedCheck

-- every parity check of the array has syndrome 0
abbrev pub PassesAll : Meaning → ℕ → ℕ → ℕ → List CellRow → List ℕ → Type 0
PassesAll f e rows columns cells word = (i s : ℕ) → i < rows → s < e → syndrome f e columns cells word i s ≡ 0

-- check (i, s) fails, and those before it, by row and then s, pass
pub record FailsFirst (f : Meaning) (e rows columns : ℕ) (cells : List CellRow) (word : List ℕ) (i s x : ℕ) : Type 0 where
  pub row_within : i < rows
  pub s_within : s < e
  pub value : x ≡ syndrome f e columns cells word i s
  pub nonzero : x ≡ 0 → ⊥
  pub rows_before : (h k : ℕ) → h < i → k < e → syndrome f e columns cells word h k ≡ 0
  pub before : (k : ℕ) → k < s → syndrome f e columns cells word i k ≡ 0

abbrev pub Says : Meaning → ℕ → ℕ → ℕ → List CellRow → List ℕ → Verdict → Type 0
Says f e rows columns cells word (Ok _) = PassesAll f e rows columns cells word
Says f e rows columns cells word (Err c) = FailsFirst f e rows columns cells word c.row c.s c.syndrome

-- What is judged before the checks: cells enough, then the length of the word, then its symbols. The first that fails is the refusal.
abbrev pub Judged : ℕ → ℕ → ℕ → ℕ → List ℕ → Result Unit Refusal → Type 0
Judged q e columns cells word (Ok _) =
    (512 ≤ cells) × (length word ≡ columns * e) × ((k : ℕ) → k < length word → slice_index word k < q)
Judged q e columns cells word (Err Buffer) = cells < 512
Judged q e columns cells word (Err Length) = (512 ≤ cells) × (length word ≢ columns * e)
Judged q e columns cells word (Err Symbol) =
    (512 ≤ cells) × (length word ≡ columns * e) × ((k : ℕ) × (k < length word) × (q ≤ slice_index word k))
Judged q e columns cells word (Err Size) = ⊥
Judged q e columns cells word (Err Shape) = ⊥
Judged q e columns cells word (Err Place) = ⊥
Judged q e columns cells word (Err Cell) = ⊥
Judged q e columns cells word (Err Room) = ⊥
Judged q e columns cells word (Err Degree) = ⊥
Judged q e columns cells word (Err Full) = ⊥
Judged q e columns cells word (Err Nothing) = ⊥
Judged q e columns cells word (Err Check) = ⊥
Judged q e columns cells word (Err Record) = ⊥

-- The answer to a word: the refusal, or what the parity checks say.
abbrev pub Checked : Meaning → ℕ → ℕ → ℕ → List CellRow → List ℕ → Result Verdict Refusal → Type 0
Checked f e rows columns cells word (Ok v) = Judged f.q e columns (length cells) word (Ok tt) × Says f e rows columns cells word v
Checked f e rows columns cells word (Err x) = Judged f.q e columns (length cells) word (Err x)

-- check refuses: too few cells, then a word that has not columns x size symbols, then a number that is no symbol
abbrev pub check_refusal : ℕ → ℕ → ℕ → ℕ → List ℕ → Option Refusal
check_refusal q e columns cells word =
    unless (nat_le 512 cells) Buffer (unless (length word == columns * e) Length (unless (symbols_below q word) Symbol None))

-- The same by the refusal as an optional value.
abbrev pub Answered : Meaning → ℕ → ℕ → ℕ → List CellRow → List ℕ → Result Verdict Refusal → Type 0
Answered f e rows columns cells word (Ok v) = (check_refusal f.q e columns (length cells) word ≡ None) × Says f e rows columns cells word v
Answered f e rows columns cells word (Err x) = check_refusal f.q e columns (length cells) word ≡ Some x
