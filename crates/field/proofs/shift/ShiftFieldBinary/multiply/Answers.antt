use Rattle.std.proofs.Common.{◌≡◌, ℕ, suc, ◌+◌, ◌/◌, ◌^◌, ◌<◌, sym, refl, ap, ◌∙◌, subst, ap₂, add-one, arith}
use lib.Bits.{bit_xor, and_mask}
use Rattle.field.specs.Shift.{pick, double, scaled}
use Rattle.field.specs.Products.{product_lt}
use Rattle.field.proofs.Steps.{multiples, multiples_none, multiples_next, nine_bits}
use Rattle.field.proofs.shift.ShiftFieldBinary.multiply.Goals as goal

pub loop-i-init : goal.loop-i-init
unfolding scaled
loop-i-init c = (c.requires.b_below, refl, multiples_none c.args.self.now.degree c.args.b c.args.a)

pub loop-i-preserved : goal.loop-i-preserved
unfolding scaled
loop-i-preserved c =
    let r = c.args.self.now.degree in
    let i = c.loop-i.i in
    let d = c.args.a / 2 ^ i in
    let next : i + 1 ≡ suc i = add-one i in (
      c.double-multiple.ensures.below,
      c.double-multiple.ensures.is ∙ ap (double r) c.loop-i.invariant.1 ∙ ap (λ (n : ℕ). scaled r n c.args.b) (sym next),
      ap₂ bit_xor c.loop-i.invariant.2 (c.select-p.ensures ∙ ap₂ pick (and_mask d 1) c.loop-i.invariant.1)
          ∙ sym (multiples_next r i c.args.b c.args.a) ∙ ap (λ (n : ℕ). multiples r n c.args.b c.args.a) (sym next),
    )

pub returns : goal.returns
returns c =
    let f = c.args.self.now in
    let is = nine_bits f.degree f.degree_low f.degree_high c.loop-i.i c.args.a c.args.b c.loop-i.p
    c.requires.a_below c.requires.b_below (omega (arith, c.loop-i-test.false, c.loop-i.auto.i-end)) c.loop-i.invariant.2 in
    record {
      is = is;
      below = subst (λ (x : ℕ). x < 2 ^ f.degree) (sym is)
          (product_lt f.degree f.degree_low f.degree_high c.args.a c.args.b c.requires.a_below);
    }
