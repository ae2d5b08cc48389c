-- The shift field of every degree shows the laws of a field of characteristic two.
use Rattle.std.specs.Prelude.{◌≡◌, ℕ, zero, suc, ◌-◌, ◌^◌, ◌<◌, ◌≤◌, bit_xor, nat_lt}
use Rattle.std.proofs.Math.Path.{refl, sym, ap, ap₂}
use Rattle.std.proofs.Common.{subst, ◌∙◌, ⊎_elim, arith, pow_pos}
use Rattle.std.specs.Int.Bits.{xor_assoc, xor_self}
use Rattle.std.proofs.lemmas.Nat.{xor_comm, xor_lt}
use Rattle.std.proofs.lemmas.Bool.{lt-ltb, le-ltb, cond-true, cond-false, cases_lt}
use Rattle.field.specs.Meaning.{power, Lawful, CharacteristicTwo}
use Rattle.field.specs.Shift.{double, scaled, multiplied, raised, symbol, shift_field}
use Rattle.field.specs.Products.{product_xor, product_lt, product_one_left, product_double}
use Rattle.field.specs.Walks.{reached}
use Rattle.field.specs.Powers as powers

pub symbol_inside : (r a : ℕ) → a < 2 ^ r → symbol r a ≡ a
symbol_inside r a h = cond-true (nat_lt a (2 ^ r)) a 0 (lt-ltb a (2 ^ r) h)

pub symbol_outside : (r a : ℕ) → 2 ^ r ≤ a → symbol r a ≡ 0
symbol_outside r a h = cond-false (nat_lt a (2 ^ r)) a 0 (le-ltb a (2 ^ r) h)

pub symbol_lt : (r a : ℕ) → symbol r a < 2 ^ r
symbol_lt r a =
    ⊎_elim (λ (h : a < 2 ^ r). subst (λ (x : ℕ). x < 2 ^ r) (sym (symbol_inside r a h)) h)
    (λ (h : 2 ^ r ≤ a). subst (λ (x : ℕ). x < 2 ^ r) (sym (symbol_outside r a h)) (pow_pos r)) (cases_lt a (2 ^ r))

pub outside_is_zero : (r a : ℕ) → 2 ^ r ≤ a → symbol r a ≡ symbol r 0
outside_is_zero r a h = symbol_outside r a h ∙ sym (symbol_inside r 0 (pow_pos r))

module _ (r : ℕ) (lo : 2 ≤ r) (hi : r ≤ 9) where
  sum_in : (a b : ℕ) → bit_xor (symbol r a) (symbol r b) < 2 ^ r
  sum_in a b = xor_lt r (symbol r a) (symbol r b) (symbol_lt r a) (symbol_lt r b)

  product_in : (a b : ℕ) → multiplied r (symbol r a) (symbol r b) < 2 ^ r
  product_in a b = product_lt r lo hi (symbol r a) (symbol r b) (symbol_lt r a)

  -- the powers of the generator are the powers of x
  pub power_is : (k : ℕ) → power (shift_field r) 2 k ≡ scaled r k 1
  unfolding scaled
  power_is zero = refl
  power_is (suc k) =
      let b : ℕ = scaled r k 1 in
      let h : b < 2 ^ r = powers.power_lt r lo hi k in
      let two : symbol r 2 ≡ double r 1 = symbol_inside r 2 (omega (arith, powers.order_low r lo hi)) ∙ sym (powers.two_is r lo hi) in
      ap₂ (multiplied r) two (ap (symbol r) (power_is k) ∙ symbol_inside r b h)
      ∙ product_double r lo hi 1 b (omega (arith, powers.order_low r lo hi)) ∙ ap (double r) (product_one_left r b h)

  all_powers : (a : ℕ) → 0 < a → a < 2 ^ r → (k : ℕ) × (k < 2 ^ r - 1) × (power (shift_field r) 2 k ≡ a)
  all_powers a l h =
      let m : (k : ℕ) × (k < 2 ^ r - 1) × (scaled r k 1 ≡ a) = reached r lo hi a l h in
      (m.0, m.1, power_is m.0 ∙ m.2)

  pub shift_lawful : Lawful (shift_field r)
  shift_lawful = record {
    order_low = powers.order_low r lo hi;
    order_high = powers.order_high r lo hi;
    generator_below = omega (arith, powers.order_low r lo hi);
    sum_below = sum_in;
    product_below = product_in;
    inverse_below = λ a. powers.raised_lt r lo hi (symbol r a) (2 ^ r - 2) (symbol_lt r a);
    sum_outside = λ a b h. ap (λ (x : ℕ). bit_xor x (symbol r b)) (outside_is_zero r a h);
    product_outside = λ a b h. ap (λ (x : ℕ). multiplied r x (symbol r b)) (outside_is_zero r a h);
    inverse_outside = λ a h. ap (λ (x : ℕ). raised r x (2 ^ r - 2)) (symbol_outside r a h) ∙ powers.raised_zero r lo hi;
    inverse_zero = ap (λ (x : ℕ). raised r x (2 ^ r - 2)) (symbol_inside r 0 (pow_pos r)) ∙ powers.raised_zero r lo hi;
    sum_comm = λ a b. xor_comm (symbol r a) (symbol r b);
    sum_assoc = λ a b c.
        ap (λ (x : ℕ). bit_xor x (symbol r c)) (symbol_inside r (bit_xor (symbol r a) (symbol r b)) (sum_in a b))
        ∙ xor_assoc (symbol r a) (symbol r b) (symbol r c)
        ∙ ap (λ (x : ℕ). bit_xor (symbol r a) x) (sym (symbol_inside r (bit_xor (symbol r b) (symbol r c)) (sum_in b c)));
    sum_zero = λ a h. ap (λ (x : ℕ). bit_xor x (symbol r a)) (symbol_inside r 0 (pow_pos r)) ∙ symbol_inside r a h;
    product_comm = λ a b. powers.product_comm r lo hi (symbol r a) (symbol r b) (symbol_lt r a) (symbol_lt r b);
    product_assoc = λ a b c.
        ap (λ (x : ℕ). multiplied r x (symbol r c)) (symbol_inside r (multiplied r (symbol r a) (symbol r b)) (product_in a b))
        ∙ powers.product_assoc r lo hi (symbol r a) (symbol r b) (symbol r c) (symbol_lt r a) (symbol_lt r b) (symbol_lt r c)
        ∙ ap (λ (x : ℕ). multiplied r (symbol r a) x) (sym (symbol_inside r (multiplied r (symbol r b) (symbol r c)) (product_in b c)));
    product_one = λ a h.
        ap₂ (multiplied r) (symbol_inside r 1 (omega (arith, powers.order_low r lo hi))) (symbol_inside r a h) ∙ product_one_left r a h;
    product_sum = λ a b c.
        ap (multiplied r (symbol r a)) (symbol_inside r (bit_xor (symbol r b) (symbol r c)) (sum_in b c))
        ∙ product_xor r (symbol r a) (symbol r b) (symbol r c)
        ∙ ap₂ bit_xor (sym (symbol_inside r (multiplied r (symbol r a) (symbol r b)) (product_in a b)))
        (sym (symbol_inside r (multiplied r (symbol r a) (symbol r c)) (product_in a c)));
    product_inverse = λ a l h.
        ap₂ (multiplied r) (symbol_inside r a h)
        (symbol_inside r (raised r (symbol r a) (2 ^ r - 2)) (powers.raised_lt r lo hi (symbol r a) (2 ^ r - 2) (symbol_lt r a))
        ∙ ap (λ (x : ℕ). raised r x (2 ^ r - 2)) (symbol_inside r a h))
        ∙ powers.product_inverse r lo hi a l h;
    powers_nonzero = λ k. subst (λ (x : ℕ). 0 < x) (sym (power_is k)) (powers.power_nonzero r lo hi k);
    powers_all = all_powers;
    powers_once = λ i j hi' hj e. powers.powers_once r lo hi i j hi' hj (sym (power_is i) ∙ e ∙ power_is j);
  }

  pub shift_binary : CharacteristicTwo (shift_field r)
  shift_binary = record { order_power = (r, refl); sum_self = λ a. xor_self (symbol r a) }

-- the field that the table field computes is that of degree 9
pub table_lawful : Lawful (shift_field 9)
table_lawful = shift_lawful 9 (omega arith) (omega arith)

pub table_binary : CharacteristicTwo (shift_field 9)
table_binary = shift_binary 9 (omega arith) (omega arith)
