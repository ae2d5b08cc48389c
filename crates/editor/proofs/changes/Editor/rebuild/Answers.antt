use Rattle.std.proofs.Common.{arith}
use Rattle.std.proofs.lemmas.Grind.{common_steps}
use Rattle.std.proofs.lemmas.Bool.Decides.{nat_tests}
use Rattle.editor.proofs.changes.Editor.rebuild.Goals as goal

pub returns : goal.returns
returns g c =
    let b = rw c.shape.ensures at c.build_forms.ensures in
    grind (arith, common_steps, nat_tests, b)
