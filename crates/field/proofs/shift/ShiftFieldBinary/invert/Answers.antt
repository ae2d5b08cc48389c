use Rattle.std.proofs.Common.{refl, ◌∙◌, arith}
use Rattle.field.specs.Shift.{raised}
use Rattle.field.specs.Powers.{order_low}
use Rattle.field.proofs.Steps.{square_first, square_next, inverse_next}
use Rattle.field.proofs.shift.ShiftFieldBinary.invert.Goals as goal

pub loop-init : goal.loop-init
unfolding raised
loop-init c =
    let f = c.args.self.now in (
      c.requires,
      omega (arith, order_low f.degree f.degree_low f.degree_high),
      square_first f.degree f.degree_low f.degree_high c.args.a c.requires,
      refl,
    )

pub loop-preserved : goal.loop-preserved
loop-preserved c =
    let f = c.args.self.now in
    let r = f.degree in
    let k = c.loop.counter in
    let s = c.multiply-square.ensures.is
    ∙ square_next r f.degree_low f.degree_high c.args.a c.requires k c.loop.square c.loop.auto.counter c.loop.invariant.2 in (
      c.multiply-square.ensures.below,
      c.multiply-p.ensures.below,
      s,
      c.multiply-p.ensures.is
          ∙ inverse_next r f.degree_low f.degree_high c.args.a c.requires k c.multiply-square.result c.loop.p
          c.loop.auto.counter s c.loop.invariant.3,
    )
