-- When each call refuses, and with what: of the rules that fail, the first one gives the refusal.
use Rattle.std.specs.Prelude.{ℕ, Bool, ◌&&◌, None, Option, nat_le, nat_lt}
use Rattle.refusal.specs.declared.Refusal.{Refusal}
use Rattle.refusal.specs.declared.Refusal.TheVariants.{Size, Shape, Buffer, Place, Cell, Full, Nothing, Record}
use Rattle.array.specs.declared.plain.CellRow.{CellRow}
use Rattle.array.specs.Cells.{below, terms_of}
use Rattle.array.specs.Shapes.{unless, size_lawful, shape_lawful, shape_refusal}
use Rattle.history.specs.declared.plain.Lengths.{Lengths}

-- the rows and columns of the array, how many records there are, and how many of them, from the first on, are in force
pub record Counts : Type 0 where
  pub rows : ℕ
  pub columns : ℕ
  pub count : ℕ
  pub in_force : ℕ

-- the buffers hold every array, the blocks of every array, and the records that there are
abbrev pub roomy : Lengths → ℕ → Bool
roomy n count = nat_le 512 n.cells && (nat_le 16384 n.blocks && nat_le count n.records)

-- one more change can be in force: the history has at most 1,024, and each has its record
abbrev pub spare : Lengths → ℕ → Bool
spare n in_force = nat_lt in_force 1024 && nat_lt in_force n.records

-- the array has row i and column j
abbrev pub inside : ℕ → ℕ → ℕ → ℕ → Bool
inside rows columns i j = nat_lt i rows && nat_lt j columns

-- a new history of an array of rows x columns cells at the size e
abbrev pub new_refusal : ℕ → Lengths → ℕ → ℕ → ℕ → Option Refusal
new_refusal q n e rows columns = unless (roomy n 0) Buffer (shape_refusal q e rows columns)

-- a cell's row put at row i and column j
abbrev pub place_refusal : ℕ → Counts → Lengths → ℕ → ℕ → CellRow → Option Refusal
place_refusal q k n i j row =
    unless (roomy n k.count) Buffer
    (unless (inside k.rows k.columns i j) Place
    (unless (below q (terms_of row)) Cell
    (unless (spare n k.in_force) Full None)))

-- the circulant size e taken
abbrev pub resize_refusal : ℕ → Counts → Lengths → ℕ → Option Refusal
resize_refusal q k n e =
    unless (roomy n k.count) Buffer
    (unless (size_lawful q e) Size
    (unless (shape_lawful e k.rows k.columns) Shape
    (unless (spare n k.in_force) Full None)))

-- the last change in force undone, where `fits` says that its record fits the array
abbrev pub undo_refusal : Counts → Lengths → Bool → Option Refusal
undo_refusal k n fits =
    unless (roomy n k.count) Buffer (unless (nat_lt 0 k.in_force) Nothing (unless fits Record None))

-- the first change that is not in force redone
abbrev pub redo_refusal : Counts → Lengths → Bool → Option Refusal
redo_refusal k n fits =
    unless (roomy n k.count) Buffer (unless (nat_lt k.in_force k.count) Nothing (unless fits Record None))
