use Rattle.std.proofs.Common.{arith, rules}
use Rattle.std.proofs.lemmas.Bool.Decides.{nat_tests}
use Rattle.std.proofs.lemmas.Grind.{common_steps}
use Rattle.std.proofs.lemmas.Result.{err_from_is_err_and}
use Rattle.history.specs.Model.{resize}
use Rattle.history.proofs.CallsKept.{serves}
use Rattle.history.proofs.edit.History.resize.Goals as goal

pub returns-in_err-check : goal.returns-in_err-check
returns-in_err-check c =
    let p = err_from_is_err_and c.from_residual.result c.from_residual.ensures.1 in
    rw (p.1, p.2) (serves c.args.order c.args.blocks _ _ _ (resize c.args.size) tt (grind (arith, nat_tests)) (search rules))

pub returns-in_err-shape : goal.returns-in_err-shape
returns-in_err-shape c =
    let p = err_from_is_err_and c.from_residual-in_err-shape.result c.from_residual-in_err-shape.ensures.1 in
    rw (p.1, p.2) (serves c.args.order c.args.blocks _ _ _ (resize c.args.size) tt (grind (arith, nat_tests)) (search rules))

pub returns : goal.returns
returns c = serves c.args.order c.args.blocks _ _ _ (resize c.args.size) tt (grind (arith, nat_tests)) (grind (arith, common_steps))
