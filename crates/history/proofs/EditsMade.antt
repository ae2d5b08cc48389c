-- An edit read from a record fits where the record does.
use Rattle.std.proofs.Common.{◌≡◌, ℕ, Bool, true, false, cond, ◌&&◌, ◌==◌, Ok, Err}
use Rattle.refusal.specs.declared.Refusal.TheVariants.{Record}
use Rattle.array.specs.declared.plain.CellRow.{CellRow}
use Rattle.history.specs.declared.change.Edit.{Edit}
use Rattle.history.specs.declared.change.Edit.TheVariants.{Place, Resize}
use Rattle.history.specs.declared.plain.ChangeRecord.{ChangeRecord}
use Rattle.history.specs.States.{record_fits}
use Rattle.history.specs.Edits.{edit_of, edit_fits}

-- a test of the one of two edits that two choices give
picked : (a b : Bool) (fits : Edit → Bool) (x y d : Edit) → cond a (Ok x) (cond b (Ok y) (Err Record)) ≡ Ok d
    → cond a (fits x) (b && fits y) ≡ fits d
picked true b fits x y d h = cc
picked false true fits x y d h = cc
picked false false fits x y d h = cc

pub edit_fitting : (q rows columns : ℕ) (r : ChangeRecord) (row : CellRow) (e : ℕ) (d : Edit) → edit_of r row e ≡ Ok d
    → record_fits q rows columns r row e ≡ edit_fits q rows columns d
edit_fitting q rows columns r row e d h =
    picked (r.kind == 1) (r.kind == 2) (edit_fits q rows columns) (Place r.row r.column row) (Resize e) d h
