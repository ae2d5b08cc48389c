use Rattle.std.proofs.Common.{◌≡◌, ℕ, ◌+◌, ◌*◌, ◌%◌, ◌<◌, length, get_or, set, sym, ap, ◌∙◌, subst, arith}
use Rattle.field.specs.Meaning.{power}
use Rattle.algebra.specs.Transforms.{root}
use Rattle.blocks.proofs.Adds.{AddedTo, added_more, added_all, added_like, term_next, term_value}
use Rattle.blocks.proofs.build.BlockBuffer.add_term.Goals as goal

pub loop-t-preserved : goal.loop-t-preserved
loop-t-preserved g c =
    let m = g.F.Field.meaning c.args.f.now in
    let s = c.args.self.now.shape in
    let n = s.rows * s.columns in
    let p = c.product-p.result in
    let step = c.power_of-step.result in
    let t = c.loop-t.t in
    let k = c.args.k in
    let at = c.entry_place-at.result in
    let v : ℕ → ℕ = λ t. m.product p (power m step t) in
    let e : at ≡ t * n + k = c.entry_place-at.ensures.is in
    let room : t * n + k < length c.loop-t.symbols = omega (arith, c.entry_place-at.ensures.within) in (
      subst (λ (i : ℕ). AddedTo m n s.size k v c.args.self.now.symbols.now (set c.loop-t.symbols i c.sum.result) (t + 1)) (sym e)
          (added_more m n s.size k t v c.args.self.now.symbols.now c.loop-t.symbols c.loop-t.p c.sum.result c.requires.place (omega arith) room
          (c.sum.ensures ∙ ap (λ (i : ℕ). m.sum (get_or c.loop-t.symbols i 0) c.loop-t.p) e) c.loop-t.invariant.1 c.loop-t.invariant.0),
      term_next m (g.met.F.Field.lawful c.args.f.now) c.args.term.coefficient p step c.product-p.ensures
          c.loop-t.p c.product-p-in-loop-t.result t c.loop-t.invariant.1 c.product-p-in-loop-t.ensures,
    )

pub returns-clause-added : goal.returns-clause-added
returns-clause-added g c =
    let m = g.F.Field.meaning c.args.f.now in
    let s = c.args.self.now.shape in
    let n = s.rows * s.columns in
    let p = c.product-p.result in
    let step = c.power_of-step.result in
    let shift = c.args.term.shift in
    let es : step ≡ power m (root m s.size) (shift % s.size) =
    c.power_of-step.ensures ∙ ap (λ (x : ℕ). power m x (shift % c.size.result)) c.requires.root
    ∙ ap (λ (x : ℕ). power m (root m s.size) (shift % x)) c.size.ensures in
    added_like m n s.size c.args.k (λ t. m.product p (power m step t))
    (λ t. m.product c.args.term.coefficient (power m (root m s.size) ((shift % s.size) * t)))
    c.args.self.now.symbols.now c.loop-t.symbols
    (λ t. term_value m (g.met.F.Field.lawful c.args.f.now) c.args.term.coefficient p step c.product-p.ensures (root m s.size) (shift % s.size) t es)
    (added_all m n s.size c.args.k (λ t. m.product p (power m step t)) c.args.self.now.symbols.now c.loop-t.symbols c.loop-t.t (omega arith) c.loop-t.invariant.0)
