-- What recovery gives where it is accepted.
use Rattle.std.specs.Prelude.{◌≡◌, ℕ, List, ◌++◌, drop}
use Rattle.field.specs.Meaning.{Meaning}
use Rattle.array.specs.declared.plain.CellRow.{CellRow}
use Rattle.code.specs.Checks.{PassesAll}
use Rattle.coder.specs.Forms.{dimension}
use Rattle.coder.specs.Recovery.{recovered}

-- The word passes every parity check of the array, and its message stands at the front of the buffer, which is else as it was.
pub record Reads (f : Meaning) (e rows columns : ℕ) (cells : List CellRow) (blocks word before after : List ℕ) : Type 0 where
  pub passes : PassesAll f e rows columns cells word
  pub message : after ≡ recovered f e rows columns blocks word ++ drop (dimension rows columns e blocks) before
