use Rattle.std.proofs.Common.{arith}
use Rattle.field.proofs.Steps.{masked}
use Rattle.field.proofs.shift.select.Goals as goal

pub returns : goal.returns
returns c = masked c.args.bit c.args.a c.requires (omega arith)
