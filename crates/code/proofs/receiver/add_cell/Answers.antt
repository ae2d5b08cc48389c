use Rattle.std.proofs.Common.{◌+◌, ◌%◌, length, get_or}
use Rattle.array.specs.Cells.{no_term}
use Rattle.code.proofs.Sums.{sum_more}
use Rattle.code.proofs.receiver.add_cell.Goals as goal

pub loop-term-preserved : goal.loop-term-preserved
loop-term-preserved g c = λ s h.
    let m = g.F.Field.meaning c.args.f.now in
    let x = c.args.column.now in
    let ts = c.args.terms.now in
    sum_more m (g.met.F.Field.lawful c.args.f.now) (get_or c.args.sums.now s 0) c.loop-term.term-index
    (λ k. m.product (get_or ts k no_term).coefficient (get_or x (((get_or ts k no_term).shift + s) % length x) 0))
    (get_or c.loop-term.sums s 0) (get_or c.add_term.new.sums s 0) (c.loop-term.invariant s h) (c.add_term.ensures s h)
