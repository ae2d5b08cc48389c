use Rattle.std.proofs.Common.{◌∙◌}
use Rattle.reduction.specs.Blocks.{at}
use Rattle.reduction.proofs.Places.{add_next}
use Rattle.reduction.proofs.rows.Matrix.add_row_in_place.Goals as goal

pub loop-j-preserved : goal.loop-j-preserved
loop-j-preserved g c =
    let m = c.args.self.now in
    add_next m.rows m.columns (at m.columns m.symbols.now) c.loop-j.symbols (c.loop-j.auto.symbols ∙ m.sized)
    (g.F.Field.meaning c.args.f.now) (g.met.F.Field.lawful c.args.f.now) c.args.a c.args.h c.args.by c.loop-j.j
    c.sum.result c.product.result c.place-start.result c.place-added.result c.requires.row c.requires.added c.requires.apart
    c.loop-j-test.true c.place-start.ensures.is c.place-added.ensures.is c.sum.ensures c.product.ensures c.loop-j.invariant
