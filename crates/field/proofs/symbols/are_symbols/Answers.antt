use Rattle.std.proofs.Common.{◌≡◌, eqb, ltb, length, take, ap, ◌∙◌, rules, tests}
use Rattle.std.specs.List.{prefix_len}
use Rattle.std.proofs.lemmas.Iterator.{YieldsList-from_slice}
use Rattle.std.proofs.lemmas.Iterator.Search.{YieldsList-from_take_while}
use Rattle.std.proofs.lemmas.Iterator.Consumers.{count_from_yields_List}
use Rattle.field.proofs.SymbolTests.{symbols_counted}
use Rattle.field.proofs.symbols.are_symbols.Goals as goal

pub returns : goal.returns
returns c =
    let q = c.args.order in
    let xs = c.args.xs.now in
    let found : c.count.result ≡ length (take (prefix_len (λ x. ltb x q) xs) xs) =
    count_from_yields_List _ _ c.count.ensures.ran
    (YieldsList-from_take_while _ (λ x. ltb x q) (YieldsList-from_slice xs (ap (λ i. i.rest.now) c.take_while.ensures.source ∙ c.iter.ensures.rest)) c.take_while.ensures.closure c.take_while.ensures.done
    (λ x b k h. search (rules, tests))) in
    ap (λ n. eqb n (length xs)) found ∙ symbols_counted q xs
