use Rattle.algebra.proofs.Counts.{rank_counts_lem}
use Rattle.algebra.proofs.matrices.rank_counts.Goals as goal

pub returns : goal.returns
returns c = rank_counts_lem
