use Rattle.blocks.proofs.Squares.{bit_off, bit_on, no_bits}
use Rattle.blocks.proofs.powers.power_of.Goals as goal

pub loop-i-preserved-then-k-i-eq1 : goal.loop-i-preserved-then-k-i-eq1
loop-i-preserved-then-k-i-eq1 g c =
    bit_on (g.F.Field.meaning c.args.f.now) (g.met.F.Field.lawful c.args.f.now) c.args.a c.args.k c.loop-i.i
    c.loop-i.p c.product-p.result c.loop-i-test.true c.loop-i.invariant c.product-p.ensures
    c.product-p-then-k-i-eq1.result c.if-k-i-eq1.true c.product-p-then-k-i-eq1.ensures

pub loop-i-preserved-else-k-i-eq1 : goal.loop-i-preserved-else-k-i-eq1
loop-i-preserved-else-k-i-eq1 g c =
    bit_off (g.F.Field.meaning c.args.f.now) (g.met.F.Field.lawful c.args.f.now) c.args.a c.args.k c.loop-i.i
    c.loop-i.p c.product-p.result c.loop-i-test.true c.loop-i.invariant c.product-p.ensures c.if-k-i-eq1.false

pub loop-i-preserved : goal.loop-i-preserved
loop-i-preserved g c =
    no_bits (g.F.Field.meaning c.args.f.now) c.args.a c.args.k c.loop-i.i c.loop-i.p c.loop-i-test.true c.loop-i.invariant c.if-k-i-ne0.false
