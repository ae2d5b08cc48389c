use Rattle.std.proofs.Common.{◌≡◌, true, false, rules}
use borrow.Author.Tests.{tests}
use Rattle.std.proofs.lemmas.Iterator.{first_from_Range}
use Rattle.algebra.specs.Matrices.{starts}
use Rattle.coder.specs.Forms.{row_major}
use Rattle.coder.proofs.Found.{lead_found}
use Rattle.coder.proofs.matrices.Matrix.lead_row.Goals as goal

pub returns : goal.returns
returns c =
    let form = c.args.self.now in
    let m = row_major form.columns form.symbols.now in
    lead_found form.rows m c.args.j c.find.result
    (first_from_Range _ _ _ c.find.result (λ i. starts (m i) c.args.j ≡ true) (λ i. starts (m i) c.args.j ≡ false) c.find.ensures.ran
    (λ x q k. search (rules, tests)) (λ x q k. search (rules, tests)))
