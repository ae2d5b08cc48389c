use Rattle.algebra.proofs.Convolution.{passing_is_null_lem}
use Rattle.algebra.proofs.passing_is_null.Goals as goal

pub returns : goal.returns
returns c = passing_is_null_lem
