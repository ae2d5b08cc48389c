use Rattle.std.proofs.Common.{◌*◌, ◌%◌, get_or}
use Rattle.field.specs.Meaning.{power}
use Rattle.field.specs.Sums.{total}
use Rattle.algebra.specs.Transforms.{root}
use Rattle.array.specs.Cells.{no_term}
use Rattle.blocks.specs.Blocks.{AddedAt}
use Rattle.blocks.specs.Buffers.{IsSameBuffer}
use Rattle.blocks.proofs.build.BlockBuffer.add_cell.Given as goal

abbrev pub invariant-loop-term : goal.invariant-loop-term
invariant-loop-term g l =
    let m = g.F.Field.meaning l.f in
    let s = l.initial.self.shape in
    record {
      same : IsSameBuffer l.initial.self l.self;
      added : AddedAt m (s.rows * s.columns) s.size l.k
          (λ t. total m l.term-index (λ i. m.product (get_or l.terms i no_term).coefficient (power m (root m s.size) (((get_or l.terms i no_term).shift % s.size) * t))))
          l.initial.self.symbols.now l.self.symbols.now;
    }
