-- What is known where a call is accepted, where a buffer is too short, and where the record of a change fits.
use Rattle.std.proofs.Common.{◌≡◌, ℕ, ◌*◌, ◌<◌, ◌≤◌, Bool, true, false, Some, None, arith}
use Rattle.std.proofs.lemmas.Nat.{mul-le}
use Rattle.std.proofs.lemmas.Bool.Decides.{nat_tests}
use Rattle.refusal.specs.declared.Refusal.TheVariants.{Buffer}
use Rattle.array.specs.declared.plain.CellRow.{CellRow}
use Rattle.array.specs.Cells.{below, terms_of}
use Rattle.array.specs.Shapes.{size_lawful, shape_lawful}
use Rattle.history.specs.declared.plain.Lengths.{Lengths}
use Rattle.history.specs.Refusals.{Counts, roomy, new_refusal, place_refusal, resize_refusal, undo_refusal, redo_refusal}

module _ (q : ℕ) (n : Lengths) (e rows columns : ℕ) (h : new_refusal q n e rows columns ≡ None) where
  pub new_lawful : (size_lawful q e ≡ true) × (shape_lawful e rows columns ≡ true)
  new_lawful = grind (arith, nat_tests)

  bounds : (rows ≤ 8) × (columns ≤ 64) × (512 ≤ n.cells)
  bounds = grind (arith, nat_tests)

  pub new_long : rows * columns ≤ n.cells
  new_long = let b = bounds in let m = mul-le rows columns 8 64 b.0 b.1 in omega arith

pub place_accepted : (q : ℕ) (k : Counts) (n : Lengths) (i j : ℕ) (row : CellRow) → place_refusal q k n i j row ≡ None
    → (i < k.rows) × (j < k.columns) × (below q (terms_of row) ≡ true) × (k.in_force < n.records)
place_accepted q k n i j row h = grind (arith, nat_tests)

pub resize_accepted : (q : ℕ) (k : Counts) (n : Lengths) (e : ℕ) → resize_refusal q k n e ≡ None
    → (size_lawful q e ≡ true) × (shape_lawful e k.rows k.columns ≡ true) × (k.in_force < n.records)
resize_accepted q k n e h = grind (arith, nat_tests)

pub undo_accepted : (k : Counts) (n : Lengths) (fits : Bool) → undo_refusal k n fits ≡ None → 0 < k.in_force
undo_accepted k n fits h = grind (arith, nat_tests)

pub redo_accepted : (k : Counts) (n : Lengths) (fits : Bool) → redo_refusal k n fits ≡ None → k.in_force < k.count
redo_accepted k n fits h = grind (arith, nat_tests)

-- whether the record fits matters only where there is one
pub undo_fitting : (k : Counts) (n : Lengths) (fits : Bool) → (0 < k.in_force → fits ≡ true) → undo_refusal k n fits ≡ undo_refusal k n true
undo_fitting k n fits h = grind (arith, nat_tests)

pub redo_fitting : (k : Counts) (n : Lengths) (fits : Bool) → (k.in_force < k.count → fits ≡ true) → redo_refusal k n fits ≡ redo_refusal k n true
redo_fitting k n fits h = grind (arith, nat_tests)

-- a buffer that is too short comes before every other refusal
pub place_short : (q : ℕ) (k : Counts) (n : Lengths) (i j : ℕ) (row : CellRow) → roomy n k.count ≡ false
    → place_refusal q k n i j row ≡ Some Buffer
place_short q k n i j row h = grind (arith, nat_tests)

pub resize_short : (q : ℕ) (k : Counts) (n : Lengths) (e : ℕ) → roomy n k.count ≡ false → resize_refusal q k n e ≡ Some Buffer
resize_short q k n e h = grind (arith, nat_tests)

pub undo_short : (k : Counts) (n : Lengths) (fits : Bool) → roomy n k.count ≡ false → undo_refusal k n fits ≡ Some Buffer
undo_short k n fits h = grind (arith, nat_tests)

pub redo_short : (k : Counts) (n : Lengths) (fits : Bool) → roomy n k.count ≡ false → redo_refusal k n fits ≡ Some Buffer
redo_short k n fits h = grind (arith, nat_tests)
