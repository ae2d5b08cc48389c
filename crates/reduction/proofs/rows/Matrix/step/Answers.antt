use Rattle.reduction.specs.Rows.{entries}
use Rattle.reduction.proofs.Columns.{step_none}
use Rattle.reduction.proofs.Sizes.{symbols_kept, stepped}
use Rattle.reduction.proofs.rows.Matrix.step.Goals as goal

pub clear_column-requires-clause-symbols : goal.clear_column-requires-clause-symbols
clear_column-requires-clause-symbols g c =
    symbols_kept (g.F.Field.meaning c.args.f.now) (g.met.F.Field.lawful c.args.f.now) c.args.self.now c.swap_rows.new.self
    c.scale_pivot.new.self c.args.column c.args.top c.in-Some.i _ c.requires.symbols c.in-Some.ensures c.swap_rows.ensures.same
    c.scale_pivot.ensures.same c.swap_rows.ensures.swapped c.scale_pivot.ensures.scaled

pub returns-in-Some-clause-stepped : goal.returns-in-Some-clause-stepped
returns-in-Some-clause-stepped g c =
    stepped (g.F.Field.meaning c.args.f.now) (g.met.F.Field.lawful c.args.f.now) c.args.self.now c.swap_rows.new.self
    c.scale_pivot.new.self c.args.column c.args.top c.in-Some.i _ c.requires.symbols c.in-Some.ensures c.swap_rows.ensures.same
    c.scale_pivot.ensures.same c.swap_rows.ensures.swapped c.scale_pivot.ensures.scaled c.clear_column.new.self c.requires.inside
    c.scale_pivot.ensures.one c.scale_pivot.ensures.nulls c.clear_column.ensures.cleared c.clear_column.ensures.nulls

pub returns-in-None-clause-stepped : goal.returns-in-None-clause-stepped
returns-in-None-clause-stepped g c =
    let m = c.args.self.now in
    step_none (g.F.Field.meaning c.args.f.now) (g.met.F.Field.lawful c.args.f.now) m.rows m.columns c.args.column c.args.top
    (entries m) c.requires.symbols c.requires.within c.in-None.ensures
