use Rattle.std.proofs.Common.{ap, ◌∙◌}
use Rattle.history.specs.declared.edit.History.{History}
use Rattle.editor.proofs.Followed.{one_to_one_standing}
use Rattle.editor.proofs.changes.Editor.recover.Goals as goal

pub returns-clause-one_to_one : goal.returns-clause-one_to_one
returns-clause-one_to_one g c =
    one_to_one_standing (g.F.Field.meaning c.args.self.now.field) (g.F.Field.meaning c.field.result.now) c.shape.result
    c.args.self.now.history c.args.blocks.now (ap g.F.Field.meaning c.field.ensures)
    (c.shape.ensures ∙ ap (λ (h : History). h.shape) c.history.ensures) c.args.cells.now c.recover.ensures.one_to_one
