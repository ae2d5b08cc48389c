use Rattle.algebra.proofs.Solves.{reduced_form_solves_lem}
use Rattle.algebra.proofs.matrices.reduced_form_solves.Goals as goal

pub returns : goal.returns
returns c = reduced_form_solves_lem
