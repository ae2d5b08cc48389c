use Rattle.std.proofs.Common.{length, refl, arith, rules}
use Rattle.std.proofs.lemmas.Bool.Decides.{nat_tests}
use Rattle.history.specs.declared.plain.Lengths.{Lengths}
use Rattle.history.proofs.RefusalsFacts.{new_lawful, new_long}
use Rattle.history.proofs.CallsKept.{fresh_stands}
use Rattle.history.proofs.edit.History.new.Goals as goal

pub returns-clause-model : goal.returns-clause-model
returns-clause-model c =
    let b = c.in_ok-check.ensures in
    let h = c.in_ok-shape.ensures in
    let n : Lengths = record { cells = length c.args.cells.now; blocks = c.args.blocks; records = c.args.records } in
    let l = new_long c.args.order n c.args.size c.args.rows c.args.columns (grind (arith, nat_tests)) in
    let w = new_lawful c.args.order n c.args.size c.args.rows c.args.columns (grind (arith, nat_tests)) in
    λ held.
    fresh_stands c.args.order c.args.size c.args.rows c.args.columns _ c.args.cells.now w.0 w.1 l
    h.1 h.2 h.3 refl refl (search rules)
