use Rattle.std.proofs.Common.{◌≡◌, ℕ, ◌+◌, ◌<◌, ◌⊎◌, sym, ap, ◌∙◌, subst, inl, inr, ⊎_elim, arith}
use Rattle.field.specs.Shift.{multiplied}
use Rattle.field.specs.Products.{product_lt, product_zero_left, product_zero_right}
use Rattle.field.proofs.Logarithms.{product_by_exponents}
use Rattle.field.proofs.table.TableFieldBinary.multiply.Goals as goal
use Rattle.field.proofs.table.TableFieldBinary.multiply.Goals.{then-k-lt511, else-k-lt511}

pub returns-then-a-eq0-clause-is : goal.returns-then-a-eq0-clause-is
returns-then-a-eq0-clause-is c =
    ⊎_elim (λ (e : c.args.a ≡ 0). sym (ap (λ (x : ℕ). multiplied 9 x c.args.b) e ∙ product_zero_left 9 c.args.b))
    (λ w. sym (ap (multiplied 9 c.args.a) w.1 ∙ product_zero_right 9 c.args.a)) c.then-a-eq0.either

pub returns : goal.returns
returns c =
    let i = c.logarithm_of.result in
    let j = c.logarithm_of-2.result in
    let k = c.if-k-lt511.power_at in
    let w : (k ≡ i + j) ⊎ (k + 511 ≡ i + j) =
    elim c.if-k-lt511.branch [ then-k-lt511 w ↦ inl (omega (arith, w.power_at-is)) | else-k-lt511 w ↦ inr (omega (arith, w.power_at-is)) ] in
    let is : c.power_at.result ≡ multiplied 9 c.args.a c.args.b =
    c.power_at.ensures
    ∙ product_by_exponents i j c.args.a c.args.b k c.logarithm_of.ensures.is.1 c.logarithm_of-2.ensures.is.1 w in
    record {
      is = is;
      below = subst (λ (x : ℕ). x < 512) (sym is) (product_lt 9 (omega arith) (omega arith) c.args.a c.args.b c.requires.a_below);
    }
