use Rattle.std.proofs.Common.{arith, rules}
use Rattle.std.proofs.lemmas.Bool.Decides.{nat_tests}
use Rattle.std.proofs.lemmas.Result.{err_from_is_err_and}
use Rattle.history.specs.Model.{place}
use Rattle.history.proofs.CallsKept.{serves}
use Rattle.history.proofs.edit.History.place.Goals as goal

pub returns-in_err-check-clause-change : goal.returns-in_err-check-clause-change
returns-in_err-check-clause-change c =
    let p = err_from_is_err_and c.from_residual.result c.from_residual.ensures.1 in
    rw (p.1, p.2) (serves c.args.order c.args.blocks _ _ _ (place c.args.row c.args.column c.args.cell.now.row) c.args.cell.now.keeps (grind (arith, nat_tests)) (search rules))

pub returns-in_err-k-clause-change : goal.returns-in_err-k-clause-change
returns-in_err-k-clause-change c =
    let p = err_from_is_err_and c.from_residual-in_err-k.result c.from_residual-in_err-k.ensures.1 in
    rw (p.1, p.2) (serves c.args.order c.args.blocks _ _ _ (place c.args.row c.args.column c.args.cell.now.row) c.args.cell.now.keeps (grind (arith, nat_tests)) (search rules))

pub returns-in_err-check_room-clause-change : goal.returns-in_err-check_room-clause-change
returns-in_err-check_room-clause-change c =
    let p = err_from_is_err_and c.from_residual-in_err-check_room.result c.from_residual-in_err-check_room.ensures.1 in
    rw (p.1, p.2) (serves c.args.order c.args.blocks _ _ _ (place c.args.row c.args.column c.args.cell.now.row) c.args.cell.now.keeps (grind (arith, nat_tests)) (search rules))

pub returns-clause-change : goal.returns-clause-change
returns-clause-change c = serves c.args.order c.args.blocks _ _ _ (place c.args.row c.args.column c.args.cell.now.row) c.args.cell.now.keeps (grind (arith, nat_tests)) (search rules)
