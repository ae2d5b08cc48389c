use Rattle.std.proofs.Common.{◌≡◌, ◌<◌, ◌≤◌, length, None, ap, ◌∙◌, subst, List, take, arith}
use Rattle.std.proofs.lemmas.Bool.Decides.{nat_tests}
use Rattle.array.specs.declared.plain.CellRow.{CellRow}
use Rattle.array.specs.Buffers.{show_refusal, cell_at}
use Rattle.array.specs.Cells.{normal}
use Rattle.guldremor.specs.Sessions.{shape_of}
use Rattle.guldremor.proofs.Fronts.{cell_first}
use Rattle.guldremor.proofs.session.Session.show.Goals as goal

pub returns : goal.returns
returns c =
    let session = c.args.self.now in
    let s = c.in_ok-editor.field-0.history.shape in
    let cells = session.cells.items.items in
    let n = session.cells.length in
    let ok : show_refusal s.rows s.columns (length (take n cells)) c.args.row c.args.column ≡ None =
    subst (λ (xs : List CellRow). show_refusal s.rows s.columns (length xs) c.args.row c.args.column ≡ None) c.first.ensures c.in_ok-show.ensures.0 in
    let row : c.args.row < s.rows = grind (arith, nat_tests, ok) in
    let column : c.args.column < s.columns = grind (arith, nat_tests, ok) in
    let long : 512 ≤ length (take n cells) = grind (arith, nat_tests, ok) in (
      s,
      ap shape_of c.in_ok-editor.ensures,
      c.row.ensures ∙ c.in_ok-show.ensures.1
          ∙ ap (λ (xs : List CellRow). normal (cell_at s.columns xs c.args.row c.args.column)) c.first.ensures
          ∙ ap normal (cell_first s n cells c.args.row c.args.column row column long),
    )
