use Rattle.std.proofs.Common.{ap, ◌∙◌}
use Rattle.history.specs.declared.edit.History.{History}
use Rattle.editor.proofs.Followed.{passes_standing}
use Rattle.editor.proofs.changes.Editor.encode.Goals as goal

pub returns-clause-passes : goal.returns-clause-passes
returns-clause-passes g c =
    passes_standing (g.F.Field.meaning c.args.self.now.field) (g.F.Field.meaning c.field.result.now) c.shape.result
    c.args.self.now.history c.args.blocks.now (ap g.F.Field.meaning c.field.ensures)
    (c.shape.ensures ∙ ap (λ (h : History). h.shape) c.history.ensures) c.encode.result c.encode.new.out c.encode.ensures.passes
