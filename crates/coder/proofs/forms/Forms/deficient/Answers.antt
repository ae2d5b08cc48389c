use Rattle.std.proofs.Common.{◌≡◌, ℕ, Bool, ◌&&◌, ltb, length, filter, ◌∙◌, rules}
use Rattle.std.specs.List.{range_with_len}
use borrow.Author.Tests.{tests}
use Rattle.std.proofs.lemmas.Iterator.{YieldsList-from_range}
use Rattle.std.proofs.lemmas.Iterator.Consumers.{YieldsList-from_filter, count_from_yields_List}
use Rattle.coder.specs.Forms.{rank_at}
use Rattle.coder.proofs.Found.{passing_below}
use Rattle.coder.proofs.forms.Forms.deficient.Goals as goal

pub returns : goal.returns
returns c =
    let s = c.args.self.now.shape in
    let rank : ℕ → ℕ = rank_at s.rows s.columns c.args.self.now.symbols.now in
    let p : ℕ → Bool = λ t. ltb (rank t) s.rows && ltb (rank t) s.columns in
    let e : c.count.result ≡ length (filter p (range_with_len 0 s.size)) =
    count_from_yields_List c.filter.result c.count.result c.count.ensures.ran
    (YieldsList-from_filter _ p (YieldsList-from_range 0 s.size s.size (cc) (search rules)) c.filter.ensures.closure (λ x r q k. search (rules, tests))) in
    e ∙ passing_below p s.size
