use Rattle.history.specs.Model.{redo}
use Rattle.editor.proofs.Followed.{made}
use Rattle.editor.proofs.changes.Editor.redo.Goals as goal

pub returns-clause-change : goal.returns-clause-change
returns-clause-change g c =
    made (g.F.Field.meaning c.args.self.now.field) c.order-order.result c.order-order.ensures _ _ redo
    c.args.blocks.now c.rebuild.new.blocks c.rebuild.result c.in_ok-redo.ensures c.redo.auto.cells c.rebuild.ensures
