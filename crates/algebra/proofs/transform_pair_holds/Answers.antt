use Rattle.algebra.proofs.Transforms.{transform_pair}
use Rattle.algebra.proofs.transform_pair_holds.Goals as goal

pub returns : goal.returns
returns c = transform_pair
