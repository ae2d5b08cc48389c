use Rattle.std.proofs.Common.{◌≡◌, ◌∙◌, eqb, take, arith, rules, tests}
use Rattle.std.specs.List.{list_all}
use Rattle.std.proofs.lemmas.Iterator.{YieldsList-from_slice}
use Rattle.std.proofs.lemmas.Iterator.Search.{all_from_yields_List}
use Rattle.coder.specs.Forms.{row_major}
use Rattle.coder.proofs.Found.{start_tested}
use Rattle.coder.proofs.matrices.Matrix.is_start.Goals as goal

pub returns-then-row-j-ne0 : goal.returns-then-row-j-ne0
returns-then-row-j-ne0 c =
    let form = c.args.self.now in
    let row = row_major form.columns form.symbols.now c.args.i in
    let xs = c.row-row.result.now in
    let j = c.args.j in
    let found : c.all.result ≡ list_all (λ x. eqb x 0) (take j xs) =
    all_from_yields_List (λ x. eqb x 0) _ _ _ c.all.ensures.ran (YieldsList-from_slice (take j xs) c.iter.ensures.rest) (λ x b q k. search (rules, tests)) in
    found
    ∙ start_tested row xs j (omega (arith, c.requires.column, c.row-row.ensures.sized))
    (λ k h. c.row-row.ensures.entries k (omega (arith, c.requires.column)))
    (omega (arith, c.if-row-j-ne0.true, c.row-row.ensures.entries j c.requires.column))
