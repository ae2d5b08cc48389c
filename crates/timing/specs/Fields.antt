-- The field that a number stands for.
use Rattle.std.specs.Prelude.{ℕ, zero, suc}
use Rattle.field.specs.Meaning.{Meaning}
use Rattle.field.specs.Shift.{shift_field}

-- 0 is the table field, which is the shift field of degree 9 in its meaning; r is the shift field of degree r
abbrev pub field_of : ℕ → Meaning
field_of zero = shift_field 9
field_of (suc n) = shift_field (suc n)
