use Rattle.std.proofs.Common.{◌≡◌, ◌≤◌, length}
use Rattle.field.specs.Meaning.{power}
use Rattle.algebra.specs.Transforms.{spectrum}
use Rattle.coder.specs.Columns.{coefficient}
use Rattle.coder.specs.Forms.{frees}
use Rattle.coder.proofs.ReadOff.{CollectedTo}
use Rattle.coder.proofs.recovery.read_message.Given as goal

abbrev pub invariant-loop-t : goal.invariant-loop-t
invariant-loop-t g l =
    let m = g.F.Field.meaning l.f in
    let s = l.forms.shape in
    (l.x ≡ power m l.beta l.t) × (l.first ≤ length l.out)
    × CollectedTo s.columns (frees s.rows s.columns l.forms.symbols.now) (λ t j. spectrum m s.size (coefficient s.columns l.table.symbols.now j) t)
    l.initial.out l.out l.t l.first
