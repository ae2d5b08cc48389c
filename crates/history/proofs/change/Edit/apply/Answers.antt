use Rattle.std.proofs.Common.{arith}
use Rattle.std.proofs.lemmas.Bool.Decides.{nat_tests}
use Rattle.history.proofs.change.Edit.apply.Goals as goal

pub returns-in-Resize : goal.returns-in-Resize
returns-in-Resize c =
    let shape = c.new.ensures in
    let e = c.map_err-in-Resize.ensures.cases in
    grind (arith, nat_tests)
