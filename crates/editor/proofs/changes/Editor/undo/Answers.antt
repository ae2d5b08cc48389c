use Rattle.history.specs.Model.{undo}
use Rattle.editor.proofs.Followed.{made}
use Rattle.editor.proofs.changes.Editor.undo.Goals as goal

pub returns-clause-change : goal.returns-clause-change
returns-clause-change g c =
    made (g.F.Field.meaning c.args.self.now.field) c.order-order.result c.order-order.ensures _ _ undo
    c.args.blocks.now c.rebuild.new.blocks c.rebuild.result c.in_ok-undo.ensures c.undo.auto.cells c.rebuild.ensures
