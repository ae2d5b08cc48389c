use Rattle.std.proofs.Common.{◌≡◌, ℕ, ◌+◌, ◌-◌, ◌*◌, ◌≤◌, length, get_or, ap, ◌∙◌, ap₂, arith, rules}
use Rattle.std.proofs.lemmas.List.{places}
use Rattle.coder.proofs.Spectra.{rows_more}
use Rattle.coder.proofs.recovery.transpose.Goals as goal

pub loop-l-preserved : goal.loop-l-preserved
loop-l-preserved c =
    let s = c.args.shape.now in
    let l = c.loop-l.l in
    let start = c.row_start-start.result in
    let ys = c.gather.new.row in
    let n : ℕ = start + c.columns-in-loop-l.result - start in
    let en : n ≡ s.columns = omega (arith, c.columns-in-loop-l.ensures) in
    let es : start ≡ l * s.columns = c.row_start-start.ensures.is ∙ ap (λ (x : ℕ). l * x) c.columns.ensures in
    let whole : c.size.result * c.columns.result ≡ s.size * s.columns = ap₂ (λ a b. a * b) c.size.ensures c.columns.ensures in
    let within : start + n ≤ length c.loop-l.work = omega (arith, c.row_start-start.ensures.fits) in
    let ly : length ys ≡ n = c.gather.auto.row ∙ search (rules, places) in
    rows_more s.columns start n l c.loop-l.work ys (λ k j. get_or c.args.word.now (j * s.size + k) 0) es en within ly
    (λ k j. c.loop-l.invariant k j) (λ j h.
    c.gather.ensures j (omega (arith, ly, c.gather.auto.row)) ∙ ap (λ (x : ℕ). get_or c.args.word.now (j * x + l) 0) c.size-in-loop-l.ensures)
