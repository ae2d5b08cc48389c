-- The state of an array and its history in the buffers, of any content, and what each accepted call makes of it.
use Rattle.std.specs.Prelude.{ℕ, ◌+◌, ◌-◌, ◌*◌, Bool, cond, ◌&&◌, List, length, ◌==◌, slice_index_or, slice_set}
use Rattle.array.specs.declared.plain.CellRow.{CellRow}
use Rattle.array.specs.declared.shape.Shape.{Shape}
use Rattle.array.specs.Buffers.{blank, cell_at}
use Rattle.array.specs.Cells.{empty, normal, below, terms_of}
use Rattle.array.specs.Shapes.{size_lawful, shape_lawful}
use Rattle.history.specs.declared.plain.ChangeRecord.{ChangeRecord}
use Rattle.history.specs.declared.plain.Lengths.{Lengths}
use Rattle.history.specs.Refusals.{Counts, inside}

-- the size and the shape of the array, how many records there are, how many are in force, and the two buffers
pub record State : Type 0 where
  pub size : ℕ
  pub rows : ℕ
  pub columns : ℕ
  pub count : ℕ
  pub in_force : ℕ
  pub cells : List CellRow
  pub records : List ChangeRecord

abbrev pub state : Shape → ℕ → ℕ → List CellRow → List ChangeRecord → State
state shape count in_force cells records = record {
  size = shape.size;
  rows = shape.rows;
  columns = shape.columns;
  count = count;
  in_force = in_force;
  cells = cells;
  records = records;
}

abbrev pub counts : State → Counts
counts s = record { rows = s.rows; columns = s.columns; count = s.count; in_force = s.in_force }

-- the lengths of the buffers, with a block buffer of so many symbols
abbrev pub lengths : State → ℕ → Lengths
lengths s blocks = record { cells = length s.cells; blocks = blocks; records = length s.records }

-- the record of a cell put at row i and column j, and of another size
abbrev pub place_record : ℕ → ℕ → CellRow → CellRow → ChangeRecord
place_record i j before after = record
    { kind = 1; row = i; column = j; cell_before = before; cell_after = after; size_before = 0; size_after = 0 }

abbrev pub resize_record : ℕ → ℕ → ChangeRecord
resize_record before after = record
    { kind = 2; row = 0; column = 0; cell_before = empty; cell_after = empty; size_before = before; size_after = after }

-- what a read past the end of a buffer of records counts as
abbrev pub no_record : ChangeRecord
no_record = record
    { kind = 0; row = 0; column = 0; cell_before = blank; cell_after = blank; size_before = 0; size_after = 0 }

-- record number k, counted from 0
abbrev pub record_at : State → ℕ → ChangeRecord
record_at s k = slice_index_or s.records k no_record

-- a cell put at row i and column j, and a size taken: the new record comes after those in force, and is the last one
abbrev pub placed : State → ℕ → ℕ → CellRow → State
placed s i j row = record {
  size = s.size;
  rows = s.rows;
  columns = s.columns;
  count = s.in_force + 1;
  in_force = s.in_force + 1;
  cells = slice_set s.cells (i * s.columns + j) row;
  records = slice_set s.records s.in_force (place_record i j (normal (cell_at s.columns s.cells i j)) row);
}

abbrev pub resized : State → ℕ → State
resized s e = record {
  size = e;
  rows = s.rows;
  columns = s.columns;
  count = s.in_force + 1;
  in_force = s.in_force + 1;
  cells = s.cells;
  records = slice_set s.records s.in_force (resize_record s.size e);
}

-- a record fits where its kind is 1, its place is in the array and the cell to put in has coefficients below q,
-- or its kind is 2 and the size to take keeps the rules
abbrev pub record_fits : ℕ → ℕ → ℕ → ChangeRecord → CellRow → ℕ → Bool
record_fits q rows columns r cell e =
    cond (r.kind == 1)
    (inside rows columns r.row r.column && below q (terms_of cell))
    (r.kind == 2 && (size_lawful q e && shape_lawful e rows columns))

-- the cells with a cell put in at the place of a record of kind 1, and the size e taken by a record of another kind
abbrev pub cells_by : ChangeRecord → CellRow → ℕ → List CellRow → List CellRow
cells_by r cell columns cells = cond (r.kind == 1) (slice_set cells (r.row * columns + r.column) (normal cell)) cells

abbrev pub size_by : ChangeRecord → ℕ → ℕ → ℕ
size_by r e size = cond (r.kind == 1) size e

-- the state with d changes in force, after a record has put in a cell or taken a size; the records stay
abbrev pub moved : State → ℕ → ChangeRecord → CellRow → ℕ → State
moved s d r cell e = record {
  size = size_by r e s.size;
  rows = s.rows;
  columns = s.columns;
  count = s.count;
  in_force = d;
  cells = cells_by r cell s.columns s.cells;
  records = s.records;
}

-- undo goes by the last record in force and by what was before, redo by the record after it and by what was after
abbrev pub undo_fits : ℕ → State → Bool
undo_fits q s =
    let r = record_at s (s.in_force - 1) in record_fits q s.rows s.columns r r.cell_before r.size_before

abbrev pub undone : State → State
undone s = let r = record_at s (s.in_force - 1) in moved s (s.in_force - 1) r r.cell_before r.size_before

abbrev pub redo_fits : ℕ → State → Bool
redo_fits q s =
    let r = record_at s s.in_force in record_fits q s.rows s.columns r r.cell_after r.size_after

abbrev pub redone : State → State
redone s = let r = record_at s s.in_force in moved s (s.in_force + 1) r r.cell_after r.size_after
