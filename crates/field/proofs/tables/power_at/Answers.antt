use Rattle.field.proofs.Logarithms.{power_is}
use Rattle.field.proofs.tables.power_at.Goals as goal

pub returns : goal.returns
returns c = power_is c.args.k c.requires
