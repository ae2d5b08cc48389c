use Rattle.std.proofs.Common.{◌≡◌, ◌<◌, rules}
use Rattle.std.proofs.lemmas.Iterator.{first_from_Range}
use Rattle.reduction.specs.Rows.{entries}
use Rattle.reduction.proofs.Columns.{pivot_found}
use Rattle.reduction.proofs.rows.Matrix.find_pivot.Goals as goal

pub returns : goal.returns
returns c =
    let m = c.args.self.now in
    pivot_found m.rows (entries m) c.args.top c.args.column c.find.result
    (first_from_Range _ _ _ c.find.result (λ i. 0 < entries m i c.args.column) (λ i. entries m i c.args.column ≡ 0) c.find.ensures.ran
    (λ x q h. search rules) (λ x q h. search rules))
