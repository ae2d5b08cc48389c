-- The reference model: a drawing, the list of its changes, and how many of them are in force.
-- It is fed the arguments of the calls and the lengths of the buffers, and nothing that a program computes.
use Rattle.std.specs.Prelude.{ℕ, ◌+◌, ◌-◌, true, cond, ◌&&◌, List, [], ◌∷◌, ◌++◌, length, take, Some, None, Option, ◌==◌, slice_index_or}
use Rattle.refusal.specs.declared.Refusal.{Refusal}
use Rattle.array.specs.declared.plain.CellRow.{CellRow}
use Rattle.array.specs.Cells.{empty}
use Rattle.history.specs.declared.plain.Lengths.{Lengths}
use Rattle.history.specs.Refusals.{Counts, place_refusal, resize_refusal, undo_refusal, redo_refusal}

-- a circulant size, and the cell of each row and column
pub record Drawing : Type 0 where
  pub size : ℕ
  pub cell : ℕ → ℕ → CellRow

-- a change puts a cell at row i and column j, or takes another size
pub data Change : Type 0 where
  places : ℕ → ℕ → CellRow → Change
  resizes : ℕ → Change

abbrev pub changed : Drawing → Change → Drawing
changed d (places i j row) = record { size = d.size; cell = λ a b. cond (a == i && b == j) row (d.cell a b) }
changed d (resizes e) = record { size = e; cell = d.cell }

-- the drawing after some changes, in their order
abbrev pub drawn : Drawing → List Change → Drawing
drawn d [] = d
drawn d (x ∷ xs) = drawn (changed d x) xs

-- the field has q symbols; the first `in_force` of the changes are in force
pub record Model : Type 0 where
  pub q : ℕ
  pub rows : ℕ
  pub columns : ℕ
  pub start : Drawing
  pub changes : List Change
  pub in_force : ℕ

-- change number k, counted from 0 (read only below the length of the list)
abbrev pub change_at : Model → ℕ → Change
change_at m k = slice_index_or m.changes k (resizes 0)

-- the drawing after the first d changes, and the one that is shown
abbrev pub drawing : Model → ℕ → Drawing
drawing m d = drawn m.start (take d m.changes)

abbrev pub shown : Model → Drawing
shown m = drawing m m.in_force

-- an array of empty cells, with no changes yet
abbrev pub fresh : ℕ → ℕ → ℕ → ℕ → Model
fresh q e rows columns = record
    { q = q; rows = rows; columns = columns; start = record { size = e; cell = λ _ _. empty }; changes = []; in_force = 0 }

-- a request: put a cell's row at row i and column j, take a size, or go one change back or forth
pub data Request : Type 0 where
  place : ℕ → ℕ → CellRow → Request
  resize : ℕ → Request
  undo : Request
  redo : Request

abbrev pub model_counts : Model → Counts
model_counts m = record { rows = m.rows; columns = m.columns; count = length m.changes; in_force = m.in_force }

-- the refusal, if any; a change of the list always fits, since it was accepted once
abbrev pub answer : Model → Lengths → Request → Option Refusal
answer m n (place i j row) = place_refusal m.q (model_counts m) n i j row
answer m n (resize e) = resize_refusal m.q (model_counts m) n e
answer m n undo = undo_refusal (model_counts m) n true
answer m n redo = redo_refusal (model_counts m) n true

-- a new change comes after those in force, and the changes that were undone are forgotten;
-- with other changes in force the list stays
abbrev pub with_change : Model → Change → Model
with_change m x = record {
  q = m.q;
  rows = m.rows;
  columns = m.columns;
  start = m.start;
  changes = take m.in_force m.changes ++ x ∷ [];
  in_force = m.in_force + 1;
}

abbrev pub with_first : Model → ℕ → Model
with_first m d = record
    { q = m.q; rows = m.rows; columns = m.columns; start = m.start; changes = m.changes; in_force = d }

-- the model after a request that is accepted
abbrev pub accepted : Model → Request → Model
accepted m (place i j row) = with_change m (places i j row)
accepted m (resize e) = with_change m (resizes e)
accepted m undo = with_first m (m.in_force - 1)
accepted m redo = with_first m (m.in_force + 1)

-- a refusal changes nothing
abbrev pub unless_refused : {X : Type 0} → Option Refusal → X → X → X
unless_refused (Some _) before after = before
unless_refused None before after = after

abbrev pub step : Model → Lengths → Request → Model
step m n a = unless_refused (answer m n a) m (accepted m a)
