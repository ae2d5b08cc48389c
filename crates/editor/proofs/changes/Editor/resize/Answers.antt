use Rattle.std.proofs.Common.{refl}
use Rattle.history.specs.Model.{resize}
use Rattle.editor.proofs.Followed.{made}
use Rattle.editor.proofs.changes.Editor.resize.Goals as goal

pub returns-clause-change : goal.returns-clause-change
returns-clause-change g c =
    made (g.F.Field.meaning c.args.self.now.field) c.order-order.result c.order-order.ensures _ _ (resize c.args.size)
    c.args.blocks.now c.rebuild.new.blocks c.rebuild.result c.in_ok-resize.ensures refl c.rebuild.ensures
