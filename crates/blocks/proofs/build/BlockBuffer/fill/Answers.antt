use Rattle.std.proofs.Common.{◌≡◌, ℕ, ◌+◌, ◌*◌, ◌<◌, ◌≤◌, get_or, sym, subst, arith}
use Rattle.algebra.specs.Matrices.{Reduced}
use Rattle.array.specs.declared.shape.Shape.{Shape}
use Rattle.blocks.specs.Blocks.{block_at}
use Rattle.blocks.proofs.FormsBuilt.{entry_below, reduced_more, all_held}
use Rattle.blocks.proofs.Shapes.{same_shape, new_shape, same_join}
use Rattle.blocks.proofs.build.BlockBuffer.fill.Goals as goal

pub reduce_block-requires-clause-symbols : goal.reduce_block-requires-clause-symbols
reduce_block-requires-clause-symbols g c =
    let f = g.F.Field.meaning c.args.f.now in
    let a = c.args.self.now in
    let mid = c.build_checks.new.self in
    let b = c.loop-t.self in
    let t = c.loop-t.t in
    let n = a.shape.rows * a.shape.columns in
    let size : c.size-t-end.result ≡ a.shape.size =
    same_shape (λ (s : Shape). c.size-t-end.result ≡ s.size) a mid c.build_checks.ensures.same c.size-t-end.ensures in
    new_shape (λ (s : Shape). (k : ℕ) → k < s.rows * s.columns → get_or b.symbols.now (t * (s.rows * s.columns) + k) 0 < f.q) a b
    c.loop-t.invariant.same
    (λ k l. subst (λ (x : ℕ). x < f.q) (sym (c.loop-t.invariant.reduced.rest (t * n + k) (omega arith)))
    (entry_below f (g.met.F.Field.lawful c.args.f.now) a.shape.rows a.shape.columns a.shape.size c.args.cells.now a.symbols.now
    mid.symbols.now (omega arith) c.build_checks.ensures.built t k (omega arith) l))

pub loop-t-preserved : goal.loop-t-preserved
loop-t-preserved g c =
    let f = g.F.Field.meaning c.args.f.now in
    let a = c.args.self.now in
    let mid = c.build_checks.new.self in
    let b = c.loop-t.self in
    let next = c.reduce_block.new.self in
    let t = c.loop-t.t in
    let same = c.loop-t.invariant.same in
    record {
      same = same_join a b next same c.reduce_block.ensures.same;
      reduced = reduced_more f (g.met.F.Field.lawful c.args.f.now) a.shape.rows a.shape.columns a.shape.size t mid.symbols.now
          b.symbols.now next.symbols.now c.loop-t.invariant.reduced
          (same_shape (λ (s : Shape). (rank : ℕ) × Reduced f s.rows s.columns (block_at s.rows s.columns b.symbols.now t) (block_at s.rows s.columns next.symbols.now t) rank)
          a b same c.reduce_block.ensures.reduced)
          (same_shape (λ (s : Shape). (k : ℕ) → k < t * (s.rows * s.columns) → get_or next.symbols.now k 0 ≡ get_or b.symbols.now k 0)
          a b same c.reduce_block.ensures.before)
          (same_shape (λ (s : Shape). (k : ℕ) → (t + 1) * (s.rows * s.columns) ≤ k → get_or next.symbols.now k 0 ≡ get_or b.symbols.now k 0)
          a b same c.reduce_block.ensures.past);
    }

pub returns-clause-held : goal.returns-clause-held
returns-clause-held g c =
    let a = c.args.self.now in
    let mid = c.build_checks.new.self in
    let size : c.size-t-end.result ≡ a.shape.size =
    same_shape (λ (s : Shape). c.size-t-end.result ≡ s.size) a mid c.build_checks.ensures.same c.size-t-end.ensures in
    all_held (g.F.Field.meaning c.args.f.now) (g.met.F.Field.lawful c.args.f.now) a.shape.rows a.shape.columns a.shape.size
    c.args.cells.now a.symbols.now mid.symbols.now c.loop-t.self.symbols.now c.loop-t.t (omega arith) (omega arith)
    c.build_checks.ensures.built c.loop-t.invariant.reduced
