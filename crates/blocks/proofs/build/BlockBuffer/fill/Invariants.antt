use Rattle.blocks.specs.Buffers.{IsSameBuffer}
use Rattle.blocks.proofs.FormsBuilt.{ReducedTo}
use Rattle.blocks.proofs.build.BlockBuffer.fill.Given as goal

abbrev pub invariant-loop-t : goal.invariant-loop-t
invariant-loop-t g l =
    let s = l.fn.self.shape in
    record {
      same : IsSameBuffer l.fn.self l.self;
      reduced : ReducedTo (g.F.Field.meaning l.f) s.rows s.columns s.size l.initial.self.symbols.now l.self.symbols.now l.t;
    }
