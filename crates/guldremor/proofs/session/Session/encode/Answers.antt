use Rattle.std.proofs.Common.{◌≡◌, ◌*◌, ◌-◌, ◌%◌, List, ℕ, Some, take, sym, ap, ◌∙◌, subst}
use Rattle.field.specs.declared.any.AnyField.{AnyField}
use Rattle.field.specs.AnyField.{meaning_of}
use Rattle.array.specs.declared.plain.CellRow.{CellRow}
use Rattle.code.specs.Checks.{PassesAll}
use Rattle.guldremor.specs.Sessions.{field_of, shape_of}
use Rattle.guldremor.proofs.Fronts.{passes_taken}
use Rattle.guldremor.proofs.session.Session.encode.Goals as goal

pub returns : goal.returns
returns c =
    let session = c.args.self.now in
    let editor = c.in_ok-editor.editor in
    let s = c.shape-shape.result in
    let out = c.send.new.out in
    let n = c.columns.result * c.size.result in
    let same : s ≡ editor.history.shape = cc in
    let long : n ≡ s.columns * s.size = cc in
    let word : c.in_ok-copied.field-0.items ≡ take n out = c.in_ok-copied.ensures in (
      editor.field,
      s,
      ap field_of c.in_ok-editor.ensures,
      ap shape_of c.in_ok-editor.ensures ∙ ap Some (sym same),
      λ h.
          let p : PassesAll (meaning_of editor.field) s.size s.rows s.columns c.all.result.now out =
          subst (λ (f : AnyField). ((meaning_of f).q - 1) % s.size ≡ 0 → PassesAll (meaning_of f) s.size s.rows s.columns c.all.result.now out)
          c.field.ensures c.in_ok-send.ensures h in
          subst (λ (xs : List ℕ). PassesAll (meaning_of editor.field) s.size s.rows s.columns session.cells.items.items xs) (sym word)
          (passes_taken editor.field s session.cells.items.items out n long
          (subst (λ (xs : List CellRow). PassesAll (meaning_of editor.field) s.size s.rows s.columns xs out) c.all.ensures p)),
    )
