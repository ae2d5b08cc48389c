use Rattle.std.proofs.Common.{◌≡◌, ℕ, arith}
use Rattle.std.proofs.lemmas.Grind.{common_steps}
use Rattle.field.specs.Meaning.{Meaning}
use Rattle.blocks.specs.Blocks.{Holds}
use Rattle.timing.proofs.Stands.{accepted, of_code}
use Rattle.timing.proofs.entries.timing_build.Goals as goal

pub returns-in-Ok : goal.returns-in-Ok
returns-in-Ok c = λ z.
    let P : Meaning → ℕ → ℕ → ℕ → Type 0 = λ m e rows columns. Holds m e rows columns c.args.cells.now c.build.new.blocks in
    let s = c.in-Ok.code.shape in
    let same : (s.size ≡ c.args.size) × (s.rows ≡ c.args.rows) × (s.columns ≡ c.args.columns) = grind (arith, common_steps) in
    of_code P c.in-Ok.ensures.field same (accepted c.build.result c.answer.result _ c.answer.ensures c.build.ensures z)
