-- Recovery of a message from a word, and that messages and codewords stand for one another.
use Rattle.std.specs.Prelude.{◌≡◌, ℕ, ◌+◌, ◌*◌, ◌<◌, ◌&&◌, List, length, Some, None, Ok, Err, Option, Result, ◌==◌, nat_le, slice_index}
use Rattle.refusal.specs.declared.Refusal.{Refusal}
use Rattle.refusal.specs.declared.Refusal.TheVariants.{Buffer, Length, Symbol, Room, Check}
use Rattle.field.specs.Meaning.{Meaning}
use Rattle.algebra.specs.Transforms.{spectrum}
use Rattle.algebra.specs.Solutions.{collected}
use Rattle.array.specs.declared.plain.CellRow.{CellRow}
use Rattle.array.specs.Shapes.{unless}
use Rattle.field.specs.Symbols.{symbols_below}
use Rattle.code.specs.Checks.{PassesAll, FailsFirst}
use Rattle.coder.specs.declared.recovery.Unrecovered.{Unrecovered}
use Rattle.coder.specs.declared.recovery.Unrecovered.TheVariants.{Refused, Fails}
use Rattle.coder.specs.Forms.{frees, dimension}
use Rattle.coder.specs.Encoding.{encoded}

-- the message that is read from a word: the spectra of its columns in the free columns, block by block, in rising order
abbrev pub recovered : Meaning → ℕ → ℕ → ℕ → List ℕ → List ℕ → List ℕ
recovered f e rows columns blocks word =
    collected columns (frees rows columns blocks) (λ t j. spectrum f e (λ l. slice_index word (j * e + l)) t) e

-- recover refuses: too few cells or block symbols, then a word that has not columns x size symbols, then a number that is no symbol,
-- then too little room for the message or for working; last, and not here, a word that fails a parity check
abbrev pub recover_refusal : ℕ → ℕ → ℕ → ℕ → ℕ → List ℕ → List ℕ → ℕ → ℕ → Option Refusal
recover_refusal q e rows columns cells blocks word out work =
    unless (nat_le 512 cells && nat_le 16384 (length blocks)) Buffer
    (unless (length word == columns * e) Length
    (unless (symbols_below q word) Symbol
    (unless (nat_le (dimension rows columns e blocks) out && nat_le (columns * e) work) Room None)))

-- the refusal that stands for each reason why no message is recovered
abbrev pub refusal_of : Unrecovered → Refusal
refusal_of (Refused x) = x
refusal_of (Fails c) = Check

-- The answer of recover to a word: the number of message symbols, the refusal, or the first parity check that fails.
abbrev pub Recovers : Meaning → ℕ → ℕ → ℕ → List CellRow → List ℕ → List ℕ → ℕ → ℕ → Result ℕ Unrecovered → Type 0
Recovers f e rows columns cells blocks word out work (Ok n) =
    (recover_refusal f.q e rows columns (length cells) blocks word out work ≡ None) × PassesAll f e rows columns cells word
    × (n ≡ dimension rows columns e blocks)
Recovers f e rows columns cells blocks word out work (Err (Refused x)) =
    recover_refusal f.q e rows columns (length cells) blocks word out work ≡ Some x
Recovers f e rows columns cells blocks word out work (Err (Fails c)) =
    (recover_refusal f.q e rows columns (length cells) blocks word out work ≡ None) × FailsFirst f e rows columns cells word c.row c.s c.syndrome

-- a message: as many symbols as the dimension
pub record Message (f : Meaning) (e rows columns : ℕ) (blocks message : List ℕ) : Type 0 where
  pub long : length message ≡ dimension rows columns e blocks
  pub symbols : (k : ℕ) → k < length message → slice_index message k < f.q

-- a word: a column of e symbols for each column of the array
pub record Word (f : Meaning) (e columns : ℕ) (word : List ℕ) : Type 0 where
  pub long : length word ≡ columns * e
  pub symbols : (k : ℕ) → k < length word → slice_index word k < f.q

-- the message encodes to the word
abbrev pub EncodesTo : Meaning → ℕ → ℕ → ℕ → List ℕ → List ℕ → List ℕ → Type 0
EncodesTo f e rows columns blocks message word =
    (j l : ℕ) → j < columns → l < e → slice_index word (j * e + l) ≡ encoded f e rows columns blocks message j l

-- The messages and the words that pass every parity check of the array stand for one another, one to one.
pub record OneToOne (f : Meaning) (e rows columns : ℕ) (cells : List CellRow) (blocks : List ℕ) : Type 0 where
  -- a message encodes to a word that passes
  pub passes : (message word : List ℕ) → Message f e rows columns blocks message → EncodesTo f e rows columns blocks message word →
      PassesAll f e rows columns cells word
  -- from which the message is recovered; so no other message encodes to it
  pub back : (message word : List ℕ) → Message f e rows columns blocks message → EncodesTo f e rows columns blocks message word →
      recovered f e rows columns blocks word ≡ message
  -- what is recovered from a word that passes is a message
  pub message : (word : List ℕ) → Word f e columns word → PassesAll f e rows columns cells word →
      Message f e rows columns blocks (recovered f e rows columns blocks word)
  -- and encodes to that word
  pub onto : (word : List ℕ) → Word f e columns word → PassesAll f e rows columns cells word →
      EncodesTo f e rows columns blocks (recovered f e rows columns blocks word) word
