use Rattle.std.proofs.Common.{◌≡◌, ℕ, ◌+◌, ◌⊎◌, sym, ap, ◌∙◌, inl, inr, arith}
use Rattle.field.specs.Shift.{raised}
use Rattle.field.specs.Powers.{raised_zero}
use Rattle.field.proofs.Logarithms.{inverse_by_exponent}
use Rattle.field.proofs.table.TableFieldBinary.invert.Goals as goal
use Rattle.field.proofs.table.TableFieldBinary.invert.Goals.{then-k-eq0, else-k-eq0}

pub returns-then-a-eq0 : goal.returns-then-a-eq0
returns-then-a-eq0 c =
    sym (ap (λ (x : ℕ). raised 9 x 510) c.if-a-eq0.true ∙ raised_zero 9 (omega arith) (omega arith))

pub returns : goal.returns
returns c =
    let k = c.logarithm_of-k.result in
    let n = c.if-k-eq0.power_at in
    let w : (n + k ≡ 511) ⊎ ((n ≡ 0) × (k ≡ 0)) =
    elim c.if-k-eq0.branch [ then-k-eq0 w ↦ inr (omega (arith, w.power_at-is), omega arith) | else-k-eq0 w ↦ inl (omega (arith, w.power_at-is)) ] in
    c.power_at.ensures
    ∙ inverse_by_exponent k c.args.a n c.logarithm_of-k.ensures.is.1 c.logarithm_of-k.ensures.is.0 w
