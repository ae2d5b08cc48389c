use Rattle.std.proofs.Common.{get_or, ◌∙◌, arith}
use Rattle.reduction.proofs.Places.{map_next}
use Rattle.reduction.proofs.rows.multiply_each.Goals as goal

pub loop-x-preserved : goal.loop-x-preserved
loop-x-preserved g c =
    let f = g.F.Field.meaning c.args.f.now in
    map_next (f.product c.args.by) c.args.row.now c.loop-x.row c.loop-x.x-index c.product.result (omega arith)
    (c.product.ensures ∙ (g.met.F.Field.lawful c.args.f.now).product_comm (get_or c.loop-x.row c.loop-x.x-index 0) c.args.by)
    c.loop-x.invariant
