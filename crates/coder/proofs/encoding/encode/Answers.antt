use Rattle.std.proofs.Common.{◌≡◌, ℕ, ◌+◌, ◌*◌, ◌<◌, length, get_or, ◌∙◌, subst, arith}
use Rattle.algebra.specs.Transforms.{synthesis}
use Rattle.coder.specs.Columns.{coefficient}
use Rattle.coder.specs.Encoding.{spread}
use Rattle.coder.proofs.Accepts.{encode_symbols}
use Rattle.coder.proofs.Passing.{every_message_encodes_to_a_passing_word, encoded_from, all_symbols}
use Rattle.coder.proofs.encoding.encode.Goals as goal

pub returns-clause-word : goal.returns-clause-word
returns-clause-word g c =
    let f = g.F.Field.meaning c.args.f.now in
    let s = c.args.shape.now in
    let blocks = c.args.blocks.now in
    let message = c.args.message.now in
    let xs = c.fill_spectrum.new.work in
    let made = c.in_ok-forms.ensures in
    let filled : (t j : ℕ) → t < s.size → j < s.columns → coefficient s.columns xs j t ≡ spread f s.rows s.columns blocks message t j =
    rw (made.0, made.1) at c.fill_spectrum.ensures in
    let lent = c.new-spectra.ensures in
    let word : (j l : ℕ) → j < s.columns → l < s.size → get_or c.synthesize.new.out (j * s.size + l) 0 ≡ synthesis f s.size (coefficient s.columns xs j) l =
    rw (lent.0, lent.1, lent.2, c.size.ensures, c.columns.ensures) at c.synthesize.ensures.word in
    λ j l h k. word j l h k
    ∙ encoded_from f (g.met.F.Field.lawful c.args.f.now) s.rows s.columns s.size blocks message xs filled j l h

pub returns-clause-passes : goal.returns-clause-passes
returns-clause-passes g c = λ cells d h.
    let f = g.F.Field.meaning c.args.f.now in
    let w = g.met.F.Field.lawful c.args.f.now in
    let s = c.args.shape.now in
    let forms = c.in_ok-forms.forms in
    let message = c.args.message.now in
    let symbols : (k : ℕ) → k < length message → get_or message k 0 < f.q =
    subst (λ (q : ℕ). (k : ℕ) → k < length message → get_or message k 0 < q) c.order.ensures
    (encode_symbols c.order.result forms.shape.size forms.shape.rows forms.shape.columns forms.symbols.now message (length c.args.out.now)
    (length c.args.work.now) c.in_ok-judge.ensures.refusal) in
    every_message_encodes_to_a_passing_word f w (g.met.F.Field.binary c.args.f.now) s.rows s.columns s.size (omega arith) d cells c.args.blocks.now
    message c.synthesize.new.out h (all_symbols f w message symbols) (returns-clause-word g c)
