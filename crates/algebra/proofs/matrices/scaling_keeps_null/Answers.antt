use Rattle.algebra.proofs.Nulls.{scaling_keeps_null_lem}
use Rattle.algebra.proofs.matrices.scaling_keeps_null.Goals as goal

pub returns : goal.returns
returns c = scaling_keeps_null_lem
