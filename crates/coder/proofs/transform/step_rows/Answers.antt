use Rattle.std.proofs.Common.{ℕ, get_or, ap, ◌∙◌, arith}
use Rattle.coder.specs.Columns.{coefficient}
use Rattle.coder.proofs.Horner.{horner_more}
use Rattle.coder.proofs.transform.step_rows.Goals as goal

pub loop-t-preserved : goal.loop-t-preserved
loop-t-preserved g c = λ j h.
    let m = g.F.Field.meaning c.args.f.now in
    let w = c.args.work.now in
    let was = get_or c.loop-t.sums j 0 in
    horner_more m (g.met.F.Field.lawful c.args.f.now) c.args.x w.rows c.loop-t.t (λ t. coefficient w.columns w.symbols.now j t)
    was (get_or c.step_row.new.sums j 0) (omega arith) (omega arith) (c.loop-t.invariant j h)
    (c.step_row.ensures j (omega (arith, c.row.ensures.sized)) ∙ ap (λ (y : ℕ). m.sum y (m.product c.args.x was)) (c.row.ensures.entries j h))
