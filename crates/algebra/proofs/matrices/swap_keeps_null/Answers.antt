use Rattle.algebra.proofs.Nulls.{swap_keeps_null_lem}
use Rattle.algebra.proofs.matrices.swap_keeps_null.Goals as goal

pub returns : goal.returns
returns c = swap_keeps_null_lem
