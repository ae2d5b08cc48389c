use Rattle.std.proofs.Common.{refl}
use Rattle.reduction.specs.Steps.{Stepped}
use Rattle.reduction.specs.Rows.{entries}
use Rattle.reduction.proofs.Columns.{swept_none, swept_more}
use Rattle.reduction.proofs.Sizes.{same_size, same_join}
use Rattle.reduction.proofs.rows.Matrix.eliminate.Goals as goal

pub loop-column-init : goal.loop-column-init
loop-column-init g c =
    let m = c.args.self.now in
    record {
      same = (refl, refl, refl);
      swept = swept_none (g.F.Field.meaning c.args.f.now) m.rows m.columns (entries m) c.requires;
    }

pub loop-column-preserved : goal.loop-column-preserved
loop-column-preserved g c =
    let f = g.F.Field.meaning c.args.f.now in
    let m = c.args.self.now in
    let n = c.loop-column.self in
    let next = c.step-top.new.self in
    let same = c.loop-column.invariant.same in
    let stepped = same_size (λ r c'. Stepped f r c' c.loop-column.column (entries n) (entries next) c.loop-column.top c.step-top.result) m n
    same c.step-top.ensures.stepped in
    record {
      same = same_join m n next same c.step-top.ensures.same;
      swept = swept_more f m.rows m.columns (entries m) (entries n) (entries next) c.loop-column.top c.step-top.result
          c.loop-column.column c.loop-column.invariant.swept stepped;
    }
