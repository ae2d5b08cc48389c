use Rattle.std.proofs.Common.{◌≡◌, ◌<◌, ◌*◌, get_or, take, refl, ap, ◌∙◌, arith}
use Rattle.std.proofs.lemmas.List.{length-take-le, get_or-take}
use Rattle.array.specs.Cells.{normal}
use Rattle.array.specs.declared.shape.Shape.{Shape}
use Rattle.array.specs.declared.plain.CellRow.{CellRow}
use Rattle.array.specs.Buffers.{blank}
use Rattle.array.proofs.CellsFacts.{terms_normal}
use Rattle.blocks.specs.Blocks.{AddedAt, terms_at}
use Rattle.blocks.proofs.Adds.{built_none, built_more}
use Rattle.blocks.proofs.Shapes.{same_shape, same_join}
use Rattle.blocks.proofs.build.BlockBuffer.build_checks.Goals as goal

pub loop-k-init : goal.loop-k-init
loop-k-init g c =
    let b = c.args.self.now in
    let s = b.shape in
    record {
      same = c.clear.ensures.same;
      built = built_none (g.F.Field.meaning c.args.f.now) (s.rows * s.columns) s.size (s.rows * s.columns * s.size) c.args.cells.now
          b.symbols.now c.clear.new.self.symbols.now refl c.clear.ensures.cleared c.clear.ensures.rest;
    }

pub loop-k-preserved : goal.loop-k-preserved
loop-k-preserved g c =
    let m = g.F.Field.meaning c.args.f.now in
    let a = c.args.self.now in
    let b = c.loop-k.self in
    let next = c.add_cell.new.self in
    let same = c.loop-k.invariant.same in
    let k = c.loop-k.k in
    let ts = c.terms.result.now in
    let all : c.places.result ≡ a.shape.rows * a.shape.columns =
    same_shape (λ (s : Shape). c.places.result ≡ s.rows * s.columns) a c.clear.new.self c.clear.ensures.same c.places.ensures.is in
    let listed : k < c.places.result = omega (arith, length-take-le c.places.result c.args.cells.now (omega arith)) in
    let added = same_shape (λ (s : Shape). AddedAt m (s.rows * s.columns) s.size k (terms_at m s.size ts) b.symbols.now next.symbols.now) a b
    same c.add_cell.ensures.added in
    record {
      same = same_join a b next same c.add_cell.ensures.same;
      built = built_more m (g.met.F.Field.lawful c.args.f.now) (a.shape.rows * a.shape.columns) a.shape.size k c.args.cells.now ts
          a.symbols.now b.symbols.now next.symbols.now (omega arith)
          (c.terms.ensures ∙ ap (λ (r : CellRow). take r.count r.terms) c.from-cell.ensures
          ∙ ap (λ (r : CellRow). take (normal r).count (normal r).terms) (get_or-take c.places.result c.args.cells.now k blank listed)
          ∙ terms_normal (get_or c.args.cells.now k blank)) c.loop-k.invariant.built added;
    }
