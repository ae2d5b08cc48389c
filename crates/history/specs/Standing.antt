-- What it means that a state in the buffers stands for a reference model. It speaks of the used places of the buffers only.
use Rattle.std.specs.Prelude.{◌≡◌, ℕ, ◌*◌, ◌<◌, ◌≤◌, Bool, true, ◌&&◌, length, Option, Result, MatchResult}
use Rattle.std.specs.List.{AllByRecursion}
use Rattle.std.specs.Result.{result_err}
use Rattle.refusal.specs.declared.Refusal.{Refusal}
use Rattle.array.specs.declared.plain.CellRow.{CellRow}
use Rattle.array.specs.Buffers.{cell_at}
use Rattle.array.specs.Cells.{sound, below, terms_of}
use Rattle.array.specs.Shapes.{size_lawful, shape_lawful}
use Rattle.history.specs.declared.plain.ChangeRecord.{ChangeRecord}
use Rattle.history.specs.declared.plain.Lengths.{Lengths}
use Rattle.history.specs.Refusals.{place_refusal, resize_refusal, undo_refusal, redo_refusal}
use Rattle.history.specs.States.{State, counts, lengths, placed, resized, undo_fits, undone, redo_fits, redone, place_record, resize_record, record_at}
use Rattle.history.specs.Model.{Drawing, Change, places, resizes, Model, change_at, drawing, shown, Request, place, resize, undo, redo, answer, step}

-- the row of a cell, with coefficients below q
abbrev pub cell_lawful : ℕ → CellRow → Bool
cell_lawful q row = sound row && below q (terms_of row)

-- a drawing and a change that keep the rules for an array of this shape
pub record DrawingLawful (q rows columns : ℕ) (d : Drawing) : Type 0 where
  pub size : size_lawful q d.size ≡ true
  pub shape : shape_lawful d.size rows columns ≡ true
  pub cells : (i j : ℕ) → cell_lawful q (d.cell i j) ≡ true

abbrev pub ChangeLawful : ℕ → ℕ → ℕ → Change → Type 0
ChangeLawful q rows columns (places i j row) = (i < rows) × (j < columns) × (cell_lawful q row ≡ true)
ChangeLawful q rows columns (resizes e) = (size_lawful q e ≡ true) × (shape_lawful e rows columns ≡ true)

-- every size and every cell along the history keeps the rules
pub record ModelLawful (m : Model) : Type 0 where
  pub start : DrawingLawful m.q m.rows m.columns m.start
  pub changes : AllByRecursion (ChangeLawful m.q m.rows m.columns) m.changes
  pub in_force : m.in_force ≤ length m.changes

-- the record of a change to a drawing
abbrev pub record_of : Drawing → Change → ChangeRecord
record_of d (places i j row) = place_record i j (d.cell i j) row
record_of d (resizes e) = resize_record d.size e

-- the state in the buffers stands for the model, for a field of q symbols: the buffer of cells has the cells that are shown,
-- and each record is that of its change to the drawing before it
pub record StandsFor (q : ℕ) (m : Model) (s : State) : Type 0 where
  pub lawful : ModelLawful m
  pub order : m.q ≡ q
  pub rows : s.rows ≡ m.rows
  pub columns : s.columns ≡ m.columns
  pub count : s.count ≡ length m.changes
  pub in_force : s.in_force ≡ m.in_force
  pub size : s.size ≡ (shown m).size
  pub cells : (i j : ℕ) → i < m.rows → j < m.columns → cell_at m.columns s.cells i j ≡ (shown m).cell i j
  pub records : (k : ℕ) → k < length m.changes → record_at s k ≡ record_of (drawing m k) (change_at m k)
  pub cells_long : m.rows * m.columns ≤ length s.cells
  pub records_long : length m.changes ≤ length s.records

-- a call answers as the model does, and the state after it stands for the model after it
pub record Kept (q : ℕ) (m : Model) (n : Lengths) (a : Request) (r : Result (Unit {0}) Refusal) (after : State) : Type 0 where
  pub says : result_err r ≡ answer m n a
  pub stands : StandsFor q (step m n a) after

-- the refusal of a request in a state, if any, and the state where it is accepted
abbrev pub refusal_of : ℕ → State → Lengths → Request → Option Refusal
refusal_of q s n (place i j row) = place_refusal q (counts s) n i j row
refusal_of q s n (resize e) = resize_refusal q (counts s) n e
refusal_of q s n undo = undo_refusal (counts s) n (undo_fits q s)
refusal_of q s n redo = redo_refusal (counts s) n (redo_fits q s)

abbrev pub state_after : State → Request → State
state_after s (place i j row) = placed s i j row
state_after s (resize e) = resized s e
state_after s undo = undone s
state_after s redo = redone s

-- What a call does with a block buffer of so many symbols: its answer, what it makes of the state in the buffers,
-- and that it keeps each model that the state before stands for.
pub record Serves (q : ℕ) (before after : State) (blocks : ℕ) (a : Request) (r : Result (Unit {0}) Refusal) : Type 0 where
  pub says : result_err r ≡ refusal_of q before (lengths before blocks) a
  pub does : MatchResult r (λ _. after ≡ state_after before a) (λ _. after ≡ before)
  pub model : (m : Model) → StandsFor q m before → Kept q m (lengths before blocks) a r after
