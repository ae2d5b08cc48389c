use Rattle.algebra.proofs.Nulls.{adding_keeps_null_lem}
use Rattle.algebra.proofs.matrices.adding_keeps_null.Goals as goal

pub returns : goal.returns
returns c = adding_keeps_null_lem
