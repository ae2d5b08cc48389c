-- The buffer of check blocks that a caller lends, as the code holds it.
use Rattle.std.specs.Prelude.{◌≡◌}
use Rattle.blocks.specs.declared.build.BlockBuffer.{BlockBuffer}

-- new is the same buffer as old, for an array of the same shape
abbrev pub IsSameBuffer : BlockBuffer → BlockBuffer → Type 0
IsSameBuffer old new = (new.symbols.ghost_name ≡ old.symbols.ghost_name) × (new.shape ≡ old.shape)
