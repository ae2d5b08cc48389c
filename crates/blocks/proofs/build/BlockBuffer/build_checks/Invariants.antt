use Rattle.std.proofs.Common.{◌*◌}
use Rattle.blocks.specs.Buffers.{IsSameBuffer}
use Rattle.blocks.proofs.Adds.{BuiltTo}
use Rattle.blocks.proofs.build.BlockBuffer.build_checks.Given as goal

abbrev pub invariant-loop-k : goal.invariant-loop-k
invariant-loop-k g l =
    let s = l.fn.self.shape in
    record {
      same : IsSameBuffer l.fn.self l.self;
      built : BuiltTo (g.F.Field.meaning l.f) (s.rows * s.columns) s.size l.cells l.fn.self.symbols.now l.self.symbols.now l.k;
    }
