use Rattle.algebra.proofs.Unique.{reduced_form_is_unique_lem}
use Rattle.algebra.proofs.matrices.reduced_form_is_unique.Goals as goal

pub returns : goal.returns
returns c = reduced_form_is_unique_lem
