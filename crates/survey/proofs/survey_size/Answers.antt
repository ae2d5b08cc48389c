use Rattle.std.proofs.Common.{◌≡◌, ℕ, None, subst, arith}
use Rattle.std.proofs.lemmas.Bool.Decides.{nat_tests}
use Rattle.array.specs.Shapes.{shape_refusal}
use Rattle.survey.proofs.Sizes.{surveyed}
use Rattle.survey.proofs.survey_size.Goals as goal

pub returns : goal.returns
returns g c =
    let f = g.F.Field.meaning c.args.f.now in
    let s = c.in_ok-shape.shape in
    let new = c.in_ok-shape.ensures in
    let built = c.in_ok-build_forms.ensures in
    let lawful : shape_refusal f.q c.args.size c.args.rows c.args.columns ≡ None =
    subst (λ (q : ℕ). shape_refusal q c.args.size c.args.rows c.args.columns ≡ None) c.order.ensures new.0 in
    let all = surveyed f c.args.cells.now c.args.blocks.now c.build_forms.new.blocks c.in_ok-dimension.field-0 c.in_ok-deficient.field-0
    c.args.size c.args.rows c.args.columns s.size s.rows s.columns new.1 new.2 new.3
    (built.2, c.in_ok-dimension.ensures.1, c.in_ok-deficient.ensures.1, built.3) in
    (grind (arith, nat_tests, lawful, built.0, built.1), all.0, all.1)
