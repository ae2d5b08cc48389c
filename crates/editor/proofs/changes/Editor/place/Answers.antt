use Rattle.history.specs.Model.{place}
use Rattle.editor.proofs.Followed.{made}
use Rattle.editor.proofs.changes.Editor.place.Goals as goal

pub returns-clause-change : goal.returns-clause-change
returns-clause-change g c =
    made (g.F.Field.meaning c.args.self.now.field) c.order-order.result c.order-order.ensures _ _ (place c.args.row c.args.column c.args.cell.now.row)
    c.args.blocks.now c.rebuild.new.blocks c.rebuild.result c.in_ok-place.ensures.change c.place.auto.cells c.rebuild.ensures
