-- The rules for the circulant size and for the shape of an array.
use Rattle.std.specs.Prelude.{ℕ, ◌-◌, ◌*◌, ◌%◌, Bool, cond, ◌&&◌, Some, None, Option, ◌==◌, nat_le}
use Rattle.refusal.specs.declared.Refusal.{Refusal}
use Rattle.refusal.specs.declared.Refusal.TheVariants.{Size, Shape}

-- the size e is from 1 to 511 and divides q - 1
abbrev pub size_lawful : ℕ → ℕ → Bool
size_lawful q e = nat_le 1 e && (nat_le e 511 && (q - 1) % e == 0)

-- 1 to 8 rows, 1 to 64 columns, and at most 16,384 symbols in all blocks together
abbrev pub shape_lawful : ℕ → ℕ → ℕ → Bool
shape_lawful e rows columns =
    nat_le 1 rows && (nat_le rows 8 && (nat_le 1 columns && (nat_le columns 64 && nat_le (rows * columns * e) 16384)))

-- the refusal x where the rule fails, else what the rules after it say
abbrev pub unless : Bool → Refusal → Option Refusal → Option Refusal
unless rule x rest = cond rule rest (Some x)

abbrev pub shape_refusal : ℕ → ℕ → ℕ → ℕ → Option Refusal
shape_refusal q e rows columns =
    unless (size_lawful q e) Size (unless (shape_lawful e rows columns) Shape None)
