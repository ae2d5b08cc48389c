-- The changes that undo and redo make, read from records of any content.
use Rattle.std.specs.Prelude.{◌≡◌, ◌≢◌, ℕ, ◌+◌, ◌*◌, Bool, cond, ◌&&◌, List, Ok, Err, Result, MatchResult, ◌==◌, slice_set}
use Rattle.refusal.specs.declared.Refusal.{Refusal}
use Rattle.refusal.specs.declared.Refusal.TheVariants.{Record}
use Rattle.array.specs.declared.plain.CellRow.{CellRow}
use Rattle.array.specs.Cells.{normal, below, terms_of}
use Rattle.array.specs.Shapes.{size_lawful, shape_lawful}
use Rattle.history.specs.declared.change.Kind.{Kind}
use Rattle.history.specs.declared.change.Kind.TheVariants as kind
use Rattle.history.specs.declared.change.Edit.{Edit}
use Rattle.history.specs.declared.change.Edit.TheVariants.{Place, Resize}
use Rattle.history.specs.declared.plain.ChangeRecord.{ChangeRecord}
use Rattle.history.specs.Refusals.{inside}

-- the number that a record has for a kind
abbrev pub number_of : Kind → ℕ
number_of kind.Place = 1
number_of kind.Resize = 2

-- the result is the kind with this number, or a refusal where no kind has it
abbrev pub Decodes : ℕ → Result Kind Refusal → Type 0
Decodes number r = MatchResult r (λ k. number_of k ≡ number) (λ x. (x ≡ Record) × (number ≢ 1) × (number ≢ 2))

-- the edit of a record with this row and size
abbrev pub edit_of : ChangeRecord → CellRow → ℕ → Result Edit Refusal
edit_of r cell e = cond (r.kind == 1) (Ok (Place r.row r.column cell)) (cond (r.kind == 2) (Ok (Resize e)) (Err Record))

-- an edit fits where its place is in the array and its cell has coefficients below q, or where its size keeps the rules
abbrev pub edit_fits : ℕ → ℕ → ℕ → Edit → Bool
edit_fits q rows columns (Place i j cell) = inside rows columns i j && below q (terms_of cell)
edit_fits q rows columns (Resize e) = size_lawful q e && shape_lawful e rows columns

-- the cells with its cell put in, and its size taken
abbrev pub cells_with : Edit → ℕ → List CellRow → List CellRow
cells_with (Place i j cell) columns cells = slice_set cells (i * columns + j) (normal cell)
cells_with (Resize e) columns cells = cells

abbrev pub size_with : Edit → ℕ → ℕ
size_with (Place i j cell) size = size
size_with (Resize e) size = e
