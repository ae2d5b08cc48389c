use Rattle.algebra.proofs.Generators.{generator_by_terms}
use Rattle.algebra.proofs.generator_goes_by_terms.Goals as goal

pub returns : goal.returns
returns c = generator_by_terms
