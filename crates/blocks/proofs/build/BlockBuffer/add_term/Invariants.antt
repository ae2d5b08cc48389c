use Rattle.std.proofs.Common.{◌≡◌, ℕ, ◌*◌}
use Rattle.field.specs.Meaning.{power}
use Rattle.blocks.proofs.Adds.{AddedTo}
use Rattle.blocks.proofs.build.BlockBuffer.add_term.Given as goal

abbrev pub invariant-loop-t : goal.invariant-loop-t
invariant-loop-t g l =
    let m = g.F.Field.meaning l.f in
    let v : ℕ → ℕ = λ t. m.product l.initial.p (power m l.step t) in
    AddedTo m (l.shape.rows * l.shape.columns) l.shape.size l.k v l.initial.symbols l.symbols l.t × (l.p ≡ v l.t)
