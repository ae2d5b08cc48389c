use Rattle.algebra.proofs.Convolution.{convolution}
use Rattle.algebra.proofs.convolution_holds.Goals as goal

pub returns : goal.returns
returns c = convolution
