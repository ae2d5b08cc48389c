use Rattle.std.proofs.Common.{ap, ◌∙◌}
use Rattle.coder.specs.Forms.{dimension}
use Rattle.guldremor.specs.Sessions.{shape_of}
use Rattle.guldremor.proofs.session.Session.parameters.Goals as goal

pub returns : goal.returns
returns c =
    let s = c.in_ok-editor.field-0.history.shape in
    let p = c.in_ok-size.ensures in (
      s,
      ap shape_of c.in_ok-editor.ensures,
      p.1,
      p.2,
      p.3,
      p.4 ∙ ap (dimension s.rows s.columns s.size) c.first.ensures,
    )
