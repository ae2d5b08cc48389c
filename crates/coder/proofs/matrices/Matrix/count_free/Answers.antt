use Rattle.std.proofs.Common.{◌≡◌, length, filter, ◌∙◌, rules}
use Rattle.std.specs.List.{range_with_len}
use borrow.Author.Tests.{tests}
use Rattle.std.proofs.lemmas.Iterator.{YieldsList-from_range}
use Rattle.std.proofs.lemmas.Iterator.Consumers.{YieldsList-from_filter, count_from_yields_List}
use Rattle.algebra.specs.Matrices.{free}
use Rattle.coder.specs.Forms.{row_major}
use Rattle.coder.proofs.Found.{passing_below}
use Rattle.coder.proofs.matrices.Matrix.count_free.Goals as goal

pub returns-clause-is : goal.returns-clause-is
returns-clause-is c =
    let form = c.args.self.now in
    let p = free form.rows (row_major form.columns form.symbols.now) in
    let e : c.count.result ≡ length (filter p (range_with_len 0 form.columns)) =
    count_from_yields_List c.filter.result c.count.result c.count.ensures.ran
    (YieldsList-from_filter _ p (YieldsList-from_range 0 form.columns form.columns (cc) (search rules)) c.filter.ensures.closure (λ x r q k. search (rules, tests))) in
    e ∙ passing_below p form.columns
