use Rattle.std.proofs.Common.{ℕ, List}
use Rattle.array.specs.declared.plain.CellRow.{CellRow}
use Rattle.field.specs.Meaning.{Meaning}
use Rattle.blocks.specs.Blocks.{Holds}
use Rattle.code.specs.Checks.{PassesAll}
use Rattle.timing.proofs.Stands.{accepted, of_code}
use Rattle.timing.proofs.entries.timing_encode.Goals as goal

pub returns-in-Ok : goal.returns-in-Ok
returns-in-Ok c = λ z.
    let P : Meaning → ℕ → ℕ → ℕ → Type 0 = λ m e rows columns. (cells : List CellRow) → Holds m e rows columns cells c.args.blocks.now →
    PassesAll m e rows columns cells c.encode.new.out in
    of_code P c.in-Ok.ensures.field c.in-Ok.ensures.shape (accepted c.encode.result c.answer.result _ c.answer.ensures c.encode.ensures z)
