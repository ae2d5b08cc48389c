-- The field that a script has chosen, the array that it has drawn over it, and how long the buffers are that calls are lent.
use Rattle.std.specs.Prelude.{ℕ, Some, None, Option}
use Rattle.field.specs.declared.any.AnyField.{AnyField}
use Rattle.array.specs.declared.shape.Shape.{Shape}
use Rattle.guldremor.specs.declared.session.Session.{Session}
use Rattle.guldremor.specs.declared.session.Stage.{Stage}
use Rattle.guldremor.specs.declared.session.Stage.TheVariants.{Start, Chosen, Drawn}

-- the field, if one is chosen
abbrev pub field_of : Stage → Option AnyField
field_of Start = None
field_of (Chosen f) = Some f
field_of (Drawn e) = Some e.field

-- the shape of the array, if one is drawn
abbrev pub shape_of : Stage → Option Shape
shape_of Start = None
shape_of (Chosen f) = None
shape_of (Drawn e) = Some e.history.shape

-- how many cells, block symbols, records, and symbols for answers and for working are lent
pub record Lengths : Type 0 where
  pub cells : ℕ
  pub blocks : ℕ
  pub records : ℕ
  pub out : ℕ
  pub work : ℕ

abbrev pub lent_of : Session → Lengths
lent_of s = record
    { cells = s.cells.length; blocks = s.blocks.length; records = s.records.length; out = s.out.length; work = s.work.length }
