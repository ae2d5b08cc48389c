use Rattle.std.proofs.Common.{arith, rules}
use Rattle.std.proofs.lemmas.Bool.Decides.{nat_tests}
use Rattle.std.proofs.lemmas.Grind.{common_steps}
use Rattle.std.proofs.lemmas.Result.{err_from_is_err_and}
use Rattle.history.specs.Model.{redo}
use Rattle.history.proofs.CallsKept.{serves}
use Rattle.history.proofs.EditsMade.{edit_fitting}
use Rattle.history.proofs.edit.History.redo.Goals as goal

pub returns-in_err-check : goal.returns-in_err-check
returns-in_err-check c =
    let p = err_from_is_err_and c.from_residual.result c.from_residual.ensures.1 in
    rw (p.1, p.2) (serves c.args.order c.args.blocks _ _ _ redo tt (grind (arith, nat_tests)) (search rules))

pub returns-in_err-change : goal.returns-in_err-change
returns-in_err-change c =
    let p = err_from_is_err_and c.from_residual-in_err-change.result c.from_residual-in_err-change.ensures.1 in
    rw (p.1, p.2) (serves c.args.order c.args.blocks _ _ _ redo tt (grind (arith, common_steps, nat_tests)) (search rules))

pub returns-in_err-redoing : goal.returns-in_err-redoing
returns-in_err-redoing c =
    let p = err_from_is_err_and c.from_residual-in_err-redoing.result c.from_residual-in_err-redoing.ensures.1 in
    rw (p.1, p.2) (serves c.args.order c.args.blocks _ _ _ redo tt (grind (arith, common_steps, nat_tests)) (search rules))

pub returns-in_err-self : goal.returns-in_err-self
returns-in_err-self c =
    let p = err_from_is_err_and c.from_residual-in_err-self.result c.from_residual-in_err-self.ensures.1 in
    rw (p.1, p.2) (serves c.args.order c.args.blocks _ _ _ redo tt (grind (arith, common_steps, nat_tests, edit_fitting)) (search rules))

pub returns : goal.returns
returns c = serves c.args.order c.args.blocks _ _ _ redo tt (grind (arith, common_steps, nat_tests, edit_fitting)) (grind (arith, common_steps))
