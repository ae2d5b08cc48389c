use Rattle.std.proofs.Common.{ℕ, ◌+◌, ◌-◌, arith}
use Rattle.blocks.proofs.FormsBuilt.{part_form, part_past}
use Rattle.blocks.proofs.build.BlockBuffer.reduce_block.Goals as goal

pub returns-clause-reduced : goal.returns-clause-reduced
returns-clause-reduced g c =
    let b = c.args.self.now in
    let s = b.shape in
    let start = c.block_start-start.result in
    let at = c.block_start-start.ensures.inside c.requires.frequency in
    let n : ℕ = start + c.places.result - start in
    part_form (g.F.Field.meaning c.args.f.now) (g.met.F.Field.lawful c.args.f.now) s.rows s.columns c.rows-rows.result
    c.columns-columns.result start c.args.t n b.symbols.now c.reduce.new.block c.reduce.result c.rows-rows.ensures
    c.columns-columns.ensures at.0 (omega (arith, c.places.ensures.is)) (omega (arith, at.1, c.places.ensures.is))
    c.reduce.auto.block c.reduce.ensures c.requires.symbols

pub returns-clause-past : goal.returns-clause-past
returns-clause-past g c =
    let b = c.args.self.now in
    let s = b.shape in
    let start = c.block_start-start.result in
    let at = c.block_start-start.ensures.inside c.requires.frequency in
    let n : ℕ = start + c.places.result - start in
    part_past (g.F.Field.meaning c.args.f.now) (g.met.F.Field.lawful c.args.f.now) s.rows s.columns c.rows-rows.result
    c.columns-columns.result start c.args.t n b.symbols.now c.reduce.new.block c.reduce.result c.rows-rows.ensures
    c.columns-columns.ensures at.0 (omega (arith, c.places.ensures.is)) (omega (arith, at.1, c.places.ensures.is))
    c.reduce.auto.block c.reduce.ensures c.requires.symbols
