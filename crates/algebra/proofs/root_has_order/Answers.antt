use Rattle.algebra.proofs.Roots.{root_has_order_lem}
use Rattle.algebra.proofs.root_has_order.Goals as goal

pub returns : goal.returns
returns c = root_has_order_lem
