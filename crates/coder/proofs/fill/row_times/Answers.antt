use Rattle.std.proofs.Common.{ℕ, ◌∙◌, rules}
use borrow.Author.Tests.{tests}
use Rattle.std.proofs.lemmas.Iterator.{YieldsList-from_slice, YieldsList-from_zip}
use Rattle.std.proofs.lemmas.Iterator.Consumers.{fold_from_yields_List}
use Rattle.coder.proofs.Fills.{fold_total}
use Rattle.coder.proofs.fill.row_times.Goals as goal

pub returns : goal.returns
returns g c =
    let m = g.F.Field.meaning c.args.f.now in
    let xs = c.args.row.now in
    let ys = c.args.values.now in
    fold_from_yields_List _ (λ (a : ℕ) (p : ℕ × ℕ). m.sum a (m.product p.0 p.1)) 0 c.fold.result c.fold.ensures.ran
    (YieldsList-from_zip (YieldsList-from_slice xs cc) (YieldsList-from_slice ys cc)) (λ a x b q k. search (rules, tests))
    ∙ fold_total m xs ys c.requires
