use Rattle.std.proofs.Common.{◌-◌, ◌%◌, length, refl}
use Rattle.code.proofs.Rotations.{term_added}
use Rattle.code.proofs.receiver.add_term.Goals as goal

pub returns : goal.returns
returns g c =
    let m = g.F.Field.meaning c.args.f.now in
    let n = length c.args.column.now in
    let first = c.args.term.shift % n in
    term_added m.sum m.product n first (n - first) c.args.term.shift c.args.term.coefficient
    c.args.sums.now c.args.column.now c.add_scaled.new.sums c.add_scaled-2.new.sums
    c.requires.some refl refl c.requires.sized refl c.add_scaled.auto.sums c.add_scaled-2.auto.sums
    c.add_scaled.ensures c.add_scaled-2.ensures
