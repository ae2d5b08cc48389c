-- A matrix in a list that a caller lends, as the code holds it.
use Rattle.std.specs.Prelude.{◌≡◌, ℕ}
use Rattle.reduction.specs.Blocks.{at}
use Rattle.reduction.specs.declared.rows.Matrix.{Matrix}

-- what its list holds, by row and column
abbrev pub entries : Matrix → ℕ → ℕ → ℕ
entries m = at m.columns m.symbols.now

-- new stands in the same list as old, with as many rows and columns
abbrev pub IsSameMatrix : Matrix → Matrix → Type 0
IsSameMatrix old new = (new.symbols.ghost_name ≡ old.symbols.ghost_name) × (new.rows ≡ old.rows) × (new.columns ≡ old.columns)
