-- An editor in its buffers: what a change leaves there, and what it means that it stands for a reference model.
use Rattle.std.specs.Prelude.{◌≡◌, ℕ, ◌*◌, ◌≤◌, List, length, Ok, Err, Result, slice_index}
use Rattle.std.specs.Result.{result_err}
use Rattle.refusal.specs.declared.Refusal.{Refusal}
use Rattle.field.specs.Meaning.{Meaning}
use Rattle.blocks.specs.Blocks.{Holds}
use Rattle.history.specs.declared.plain.Lengths.{Lengths}
use Rattle.history.specs.States.{State, lengths}
use Rattle.history.specs.Model.{Model, Request, answer, step}
use Rattle.history.specs.Standing.{StandsFor, refusal_of, state_after}

-- the lengths of the buffers that are lent
abbrev pub lent : ℕ → ℕ → ℕ → Lengths
lent cells blocks records = record { cells = cells; blocks = blocks; records = records }

-- the block buffer holds the echelon forms of the array at its size
abbrev pub Forms : Meaning → State → List ℕ → Type 0
Forms f s blocks = Holds f s.size s.rows s.columns s.cells blocks

-- what lies past the forms in the block buffer is as it was
abbrev pub PastKept : State → List ℕ → List ℕ → Type 0
PastKept s was new = (i : ℕ) → s.rows * s.columns * s.size ≤ i → slice_index new i ≡ slice_index was i

-- What a change leaves: the state that is wanted and its echelon forms, or, where it is refused, everything as it was.
abbrev pub Made : Meaning → State → State → State → List ℕ → List ℕ → Result (Unit {0}) Refusal → Type 0
Made f before wanted after was new (Ok _) = (after ≡ wanted) × Forms f after new × PastKept after was new
Made f before wanted after was new (Err _) = (after ≡ before) × (new ≡ was)

-- the editor stands for the model: its history does, and the block buffer holds the echelon forms of the array that is shown
pub record Stands (f : Meaning) (m : Model) (s : State) (blocks : List ℕ) : Type 0 where
  pub history : StandsFor f.q m s
  pub forms : Forms f s blocks

-- a change answers as the model does, and the editor after it stands for the model after it
pub record Follows (f : Meaning) (m : Model) (n : Lengths) (a : Request) (r : Result (Unit {0}) Refusal) (after : State) (blocks : List ℕ) : Type 0 where
  pub says : result_err r ≡ answer m n a
  pub stands : Stands f (step m n a) after blocks

-- What a change does: its answer, what it leaves in the buffers, and that it follows each model that the editor stands for.
pub record Changes (f : Meaning) (before after : State) (was new : List ℕ) (a : Request) (r : Result (Unit {0}) Refusal) : Type 0 where
  pub says : result_err r ≡ refusal_of f.q before (lengths before (length was)) a
  pub does : Made f before (state_after before a) after was new r
  pub model : (k : Model) → Stands f k before was → Follows f k (lengths before (length was)) a r after new
