use Rattle.std.proofs.Common.{◌≡◌, ℕ, ◌+◌, ◌-◌, ◌*◌, ◌≤◌, length, get_or, sym, ap, ◌∙◌, ap₂, add-one, arith, rules}
use Rattle.std.proofs.lemmas.List.{places}
use Rattle.algebra.specs.Solutions.{offset, filled}
use Rattle.blocks.specs.Blocks.{block_at}
use Rattle.coder.specs.Forms.{frees}
use Rattle.coder.specs.Encoding.{spread}
use Rattle.coder.proofs.Spectra.{rows_more}
use Rattle.coder.proofs.encoding.fill_spectrum.Goals as goal

pub loop-t-preserved : goal.loop-t-preserved
loop-t-preserved g c =
    let f = g.F.Field.meaning c.args.f.now in
    let s = c.args.forms.now.shape in
    let blocks = c.args.forms.now.symbols.now in
    let t = c.loop-t.t in
    let start = c.row_start-start.result in
    let ys = c.fill_block.new.row in
    let n : ℕ = start + c.columns-in-loop-t.result - start in
    let en : n ≡ s.columns = let e : c.columns-in-loop-t.result ≡ s.columns = search rules in omega (arith, e) in
    let es : start ≡ t * s.columns = let e : c.columns.result ≡ s.columns = search rules in c.row_start-start.ensures.is ∙ ap (λ (x : ℕ). t * x) e in
    let whole : c.size.result * c.columns.result ≡ s.size * s.columns = search rules in
    let within : start + n ≤ length c.loop-t.work = omega (arith, c.row_start-start.ensures.fits) in
    let ly : length ys ≡ n = c.fill_block.auto.row ∙ search (rules, places) in (
      ap₂ (λ a b. a + b) c.loop-t.invariant.0 c.count_free-first.ensures.is ∙ ap (offset s.columns (frees s.rows s.columns blocks)) (sym (add-one t)),
      omega (arith, c.count_free-first.ensures.few),
      rows_more s.columns start n t c.loop-t.work ys (λ t j. spread f s.rows s.columns blocks c.args.message.now t j)
          es en within ly c.loop-t.invariant.2
          (λ j h. c.fill_block.ensures j h
          ∙ ap (λ (x : ℕ). filled f s.rows s.columns (block_at s.rows s.columns blocks t) (λ k. get_or c.args.message.now (x + k) 0) j)
          c.loop-t.invariant.0),
    )
