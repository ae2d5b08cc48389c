use Rattle.std.proofs.Common.{◌≡◌, ℕ, ◌+◌, sym, subst, arith}
use Rattle.algebra.specs.Matrices.{RowIs}
use Rattle.reduction.specs.declared.rows.Matrix.{Matrix}
use Rattle.reduction.specs.Rows.{entries, IsSameMatrix}
use Rattle.reduction.proofs.Clearings.{ClearTo, clear_skip, clear_next, clear_end}
use Rattle.reduction.proofs.Sizes.{same_size, same_join}
use Rattle.reduction.proofs.rows.Matrix.clear_column.Goals as goal
use Rattle.reduction.proofs.rows.Matrix.clear_column.Goals.{then-i-a, else-i-a}

pub loop-i-preserved : goal.loop-i-preserved
loop-i-preserved g c =
    let f = g.F.Field.meaning c.args.f.now in
    let w = g.met.F.Field.lawful c.args.f.now in
    let m = c.args.self.now in
    let n = c.loop-i.self in
    let a : ℕ = c.args.a in
    let k : ℕ = c.args.column in
    let i : ℕ = c.loop-i.i in
    let same = c.loop-i.invariant.same in
    let After : Matrix → Type 0 =
    λ x. record { same : IsSameMatrix m x; clear : ClearTo f m.rows m.columns (entries m) (entries x) a k (i + 1) } in
    elim c.if-i-a.branch [
      | then-i-a v ↦ subst After (sym v.self-is) (record {
        same = same_join m n v.add_row.new.self same v.add_row.ensures.same;
        clear = clear_next f w m.rows m.columns (entries m) a k (entries n) i c.loop-i.invariant.clear (entries v.add_row.new.self)
            v.entry-by.result c.loop-i-test.true c.requires.row c.requires.inside v.if-i-a.true v.entry-by.ensures
            (same_size (λ r c'. RowIs r c' (entries n) (entries v.add_row.new.self) i (λ j. f.sum (entries n i j) (f.product v.entry-by.result (entries n a j)))) m n same v.add_row.ensures.added);
      })
      | else-i-a v ↦ subst After (sym v.self-is) (record {
        same = same;
        clear = clear_skip f w m.rows m.columns (entries m) a k (entries n) i c.loop-i.invariant.clear v.if-i-a.false;
      })
    ]

pub returns-clause-cleared : goal.returns-clause-cleared
returns-clause-cleared g c =
    let f = g.F.Field.meaning c.args.f.now in
    let m = c.args.self.now in
    let end : c.loop-i.i ≡ m.rows = omega arith in
    clear_end f (g.met.F.Field.lawful c.args.f.now) m.rows m.columns (entries m) c.args.a c.args.column
    (g.met.F.Field.binary c.args.f.now) (entries c.loop-i.self) c.requires.inside c.requires.one c.requires.symbols
    (subst (λ (b : ℕ). ClearTo f m.rows m.columns (entries m) (entries c.loop-i.self) c.args.a c.args.column b) end c.loop-i.invariant.clear)
