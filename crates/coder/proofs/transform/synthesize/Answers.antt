use Rattle.std.proofs.Common.{◌≡◌, ℕ, length, get_or, sym, refl, ap, ◌∙◌, subst, add-one, arith, rules}
use Rattle.field.specs.Meaning.{power}
use Rattle.algebra.specs.Transforms.{root, synthesis}
use Rattle.coder.specs.Columns.{coefficient, SymbolWritten}
use Rattle.coder.proofs.Horner.{value_at}
use Rattle.coder.proofs.Writes.{symbols_more}
use Rattle.coder.proofs.transform.synthesize.Goals as goal

pub loop-l-preserved : goal.loop-l-preserved
loop-l-preserved g c =
    let m = g.F.Field.meaning c.args.f.now in
    let w = g.met.F.Field.lawful c.args.f.now in
    let s = c.args.spectra.now in
    let e = s.rows in
    let l = c.loop-l.l in
    let xs = s.symbols.now in
    let sums = c.evaluate.new.sums in
    let len : length sums ≡ s.columns = search rules in
    let u : ℕ → ℕ → ℕ = λ j k. synthesis m e (coefficient s.columns xs j) k in
    let x : c.loop-l.x ≡ power m (root m e) l = c.loop-l.invariant.0 ∙ ap (λ (a : ℕ). power m a l) c.requires.root in
    let written : SymbolWritten s.columns e l (λ j. get_or sums j 0) c.loop-l.out c.scatter.new.out =
    subst (λ (n : ℕ). SymbolWritten n e l (λ j. get_or sums j 0) c.loop-l.out c.scatter.new.out) len
    (subst (λ (n : ℕ). SymbolWritten (length sums) n l (λ j. get_or sums j 0) c.loop-l.out c.scatter.new.out) c.rows.ensures c.scatter.ensures) in (
      c.product-x.ensures ∙ ap (m.product c.args.alpha) c.loop-l.invariant.0 ∙ ap (power m c.args.alpha) (sym (add-one l)),
      symbols_more s.columns e l u (λ j. get_or sums j 0) c.args.out.now c.loop-l.out c.scatter.new.out (omega arith)
          (λ j h. c.evaluate.ensures j h ∙ value_at m w e e (root m e) c.loop-l.x l xs s.columns s.columns j refl refl x)
          c.loop-l.invariant.1 written,
    )
