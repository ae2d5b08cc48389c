-- An array in a buffer of cells: the cell of row i and column j stands at i * columns + j.
use Rattle.std.specs.Prelude.{ℕ, ◌+◌, ◌*◌, ◌&&◌, List, [], None, Option, nat_le, nat_lt, slice_index_or}
use Rattle.refusal.specs.declared.Refusal.{Refusal}
use Rattle.refusal.specs.declared.Refusal.TheVariants.{Buffer, Place, Cell}
use Rattle.array.specs.declared.plain.Term.{Term}
use Rattle.array.specs.declared.plain.CellRow.{CellRow}
use Rattle.array.specs.Cells.{below}
use Rattle.array.specs.Shapes.{unless}

-- what a read past the end of a buffer of cells counts as
abbrev pub blank : CellRow
blank = record { count = 0; terms = [] }

-- the row in the buffer at row i and column j of an array with so many columns
abbrev pub cell_at : ℕ → List CellRow → ℕ → ℕ → CellRow
cell_at columns cells i j = slice_index_or cells (i * columns + j) blank

-- show refuses: a short buffer, then a place outside the array
abbrev pub show_refusal : ℕ → ℕ → ℕ → ℕ → ℕ → Option Refusal
show_refusal rows columns cells i j =
    unless (nat_le 512 cells) Buffer (unless (nat_lt i rows && nat_lt j columns) Place None)

-- place refuses: as show does, then a coefficient of q or more
abbrev pub place_refusal : ℕ → ℕ → ℕ → ℕ → ℕ → ℕ → List Term → Option Refusal
place_refusal q rows columns cells i j terms =
    unless (nat_le 512 cells) Buffer (unless (nat_lt i rows && nat_lt j columns) Place (unless (below q terms) Cell None))
