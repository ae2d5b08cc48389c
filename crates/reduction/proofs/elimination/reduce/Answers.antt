use Rattle.std.proofs.Common.{sym, refl, arith}
use Rattle.field.proofs.SymbolTests.{symbols_fail}
use Rattle.reduction.specs.Blocks.{Block}
use Rattle.reduction.proofs.elimination.reduce.Goals as goal
use Rattle.reduction.proofs.elimination.reduce.Goals.{then-ne-via-then-ne, then-ne-via-else-ne+then-not-are_symbols}

pub returns-then-ne : goal.returns-then-ne
returns-then-ne g c =
    let none : Block (g.F.Field.meaning c.args.f.now).q c.args.rows c.args.columns c.args.block.now → ⊥ =
    elim c.then-ne.branch [
      | then-ne-via-then-ne w ↦ λ b. grind arith
      | then-ne-via-else-ne+then-not-are_symbols w ↦ λ b.
          let x = symbols_fail w.order.result c.args.block.now (sym w.if-not-are_symbols.ensures) in
          omega (arith, x.1, x.2, b.symbols x.0 x.1, w.order.ensures)
    ] in
    (none, refl)
