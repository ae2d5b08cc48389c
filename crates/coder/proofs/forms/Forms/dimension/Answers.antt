use Rattle.std.proofs.Common.{◌≡◌, ℕ, ◌^◌, sum_by, ◌∙◌, arith, rules}
use Rattle.std.specs.List.{range_with_len}
use borrow.Author.Tests.{tests}
use Rattle.std.proofs.lemmas.Iterator.{YieldsList-from_range, YieldsList-from_map}
use Rattle.std.proofs.lemmas.Iterator.Consumers.{sum_by_from_yields_List, fits_by_from_yields_list}
use Rattle.algebra.specs.Matrices.{count}
use Rattle.coder.specs.Forms.{frees}
use Rattle.coder.proofs.Found.{passing_in_all, offset_few}
use Rattle.coder.proofs.forms.Forms.dimension.Goals as goal

pub sum-requires-clause-fits : goal.sum-requires-clause-fits
sum-requires-clause-fits c =
    let s = c.args.self.now.shape in
    let p = frees s.rows s.columns c.args.self.now.symbols.now in
    let h : ℕ → ℕ = λ t. count s.columns (p t) in
    fits_by_from_yields_list h (range_with_len 0 s.size) c.map.result (2 ^ 64)
    (YieldsList-from_map _ h (YieldsList-from_range 0 s.size s.size (cc) (search rules)) c.map.ensures.closure (λ x r q k. search (rules, tests)))
    (omega (arith, passing_in_all s.columns p s.size, offset_few s.columns 64 p s.size (omega arith)))

pub returns : goal.returns
returns c =
    let s = c.args.self.now.shape in
    let p = frees s.rows s.columns c.args.self.now.symbols.now in
    let h : ℕ → ℕ = λ t. count s.columns (p t) in
    let e : c.sum.result ≡ sum_by h (range_with_len 0 s.size) =
    sum_by_from_yields_List h (range_with_len 0 s.size) c.map.result c.sum.result c.sum.ensures.ran
    (YieldsList-from_map _ h (YieldsList-from_range 0 s.size s.size (cc) (search rules)) c.map.ensures.closure (λ x r q k. search (rules, tests))) in
    e ∙ passing_in_all s.columns p s.size
