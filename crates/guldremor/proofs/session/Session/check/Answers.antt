use Rattle.std.proofs.Common.{take, refl, ap}
use Rattle.guldremor.specs.Sessions.{field_of, shape_of}
use Rattle.guldremor.proofs.Fronts.{verdict_stands, checked_first}
use Rattle.guldremor.proofs.session.Session.check.Goals as goal

pub returns : goal.returns
returns c =
    let session = c.args.self.now in
    let editor = c.in_ok-editor.field-0 in
    let s = editor.history.shape in
    let v = c.in_ok-check.field-0 in (
      editor.field,
      s,
      ap field_of c.in_ok-editor.ensures,
      ap shape_of c.in_ok-editor.ensures,
      checked_first editor.field s session.cells.length session.cells.items.items c.args.word.now v
          (verdict_stands editor.field editor.field s.size s.rows s.columns c.first.result.now
          (take session.cells.length session.cells.items.items) c.args.word.now v v refl c.first.ensures refl c.in_ok-check.ensures.checked),
    )
