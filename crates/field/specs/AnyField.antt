-- A field that is chosen when the program runs.
use Rattle.std.specs.Prelude.{ℕ, ◌≤◌}
use Rattle.std.proofs.Common.{lit≤}
use Rattle.field.specs.Meaning.{Meaning}
use Rattle.field.specs.Shift.{shift_field}
use Rattle.field.specs.declared.any.AnyField.{AnyField}
use Rattle.field.specs.declared.any.AnyField.TheVariants.{Shift, Table}

-- it has 2^degree symbols
abbrev pub degree_of : AnyField → ℕ
degree_of (Shift f) = f.degree
degree_of (Table f) = 9

pub degree_of_low : (f : AnyField) → 2 ≤ degree_of f
degree_of_low (Shift f) = f.degree_low
degree_of_low (Table f) = lit≤ tt

pub degree_of_high : (f : AnyField) → degree_of f ≤ 9
degree_of_high (Shift f) = f.degree_high
degree_of_high (Table f) = lit≤ tt

-- which field it is
abbrev pub meaning_of : AnyField → Meaning
meaning_of f = shift_field (degree_of f)
