-- Times x, modulo the polynomial, for degrees 2 to 9.
use Rattle.std.specs.Prelude.{◌≡◌, ℕ, zero, suc, ◌+◌, ◌*◌, ◌/◌, ◌%◌, ◌^◌, ◌<◌, ◌≤◌, bit_xor}
use Rattle.std.proofs.Math.Path.{refl, ap}
use Rattle.std.proofs.Common.{◌∙◌, arith, pow-suc, zero-add, suc-add, div-add-mod', mod-lt, zero-mul, pow_pos}
use Rattle.std.proofs.Math.Nat.{div-eq_of_lt, zero-div}
use Rattle.std.specs.Int.Bits.{xor_zero_r}
use Rattle.std.proofs.Math.Pow.{pow-lt}
use Rattle.field.specs.Shift.{polynomial, pick, xors, double, scaled}
use Rattle.std.proofs.lemmas.Nat.{div_below, xor_shr}
use Rattle.field.specs.Xors.{xor_middle, xor_double, pick_xor, xors_lt}

-- what is to be shown of a degree from 2 to 9, degree by degree
pub degrees : (P : ℕ → Type 0) → P 2 → P 3 → P 4 → P 5 → P 6 → P 7 → P 8 → P 9 → (r : ℕ) → 2 ≤ r → r ≤ 9 → P r
degrees P p2 p3 p4 p5 p6 p7 p8 p9 zero lo hi = absurd (omega arith)
degrees P p2 p3 p4 p5 p6 p7 p8 p9 (suc zero) lo hi = absurd (omega arith)
degrees P p2 p3 p4 p5 p6 p7 p8 p9 (suc (suc zero)) lo hi = p2
degrees P p2 p3 p4 p5 p6 p7 p8 p9 (suc (suc (suc zero))) lo hi = p3
degrees P p2 p3 p4 p5 p6 p7 p8 p9 (suc (suc (suc (suc zero)))) lo hi = p4
degrees P p2 p3 p4 p5 p6 p7 p8 p9 (suc (suc (suc (suc (suc zero))))) lo hi = p5
degrees P p2 p3 p4 p5 p6 p7 p8 p9 (suc (suc (suc (suc (suc (suc zero)))))) lo hi = p6
degrees P p2 p3 p4 p5 p6 p7 p8 p9 (suc (suc (suc (suc (suc (suc (suc zero))))))) lo hi = p7
degrees P p2 p3 p4 p5 p6 p7 p8 p9 (suc (suc (suc (suc (suc (suc (suc (suc zero)))))))) lo hi = p8
degrees P p2 p3 p4 p5 p6 p7 p8 p9 (suc (suc (suc (suc (suc (suc (suc (suc (suc zero))))))))) lo hi = p9
degrees P p2 p3 p4 p5 p6 p7 p8 p9 (suc (suc (suc (suc (suc (suc (suc (suc (suc (suc n)))))))))) lo hi = absurd (omega arith)

-- the polynomial has degree r
pub polynomial_degree : (r : ℕ) → 2 ≤ r → r ≤ 9 → polynomial r / 2 ^ r ≡ 1
polynomial_degree = degrees (λ (r : ℕ). polynomial r / 2 ^ r ≡ 1) refl refl refl refl refl refl refl refl

pub small_from_quotient : (n k : ℕ) → 0 < k → n / k ≡ 0 → n < k
small_from_quotient n k h e =
    let d : n / k * k + n % k ≡ n = div-add-mod' n k in
    let z : n / k * k ≡ 0 = ap (λ (x : ℕ). x * k) e ∙ zero-mul k in
    omega (arith, mod-lt n h)

pub top_lt : (r a : ℕ) → a < 2 ^ r → 2 * a / 2 ^ r < 2
top_lt r a h = div_below (2 * a) (2 ^ r) 2 (pow_pos r) (omega arith)

pub double_small : (r a : ℕ) → 2 * a < 2 ^ r → double r a ≡ 2 * a
unfolding double
double_small r a h =
    ap (λ (t : ℕ). bit_xor (2 * a) (pick t (polynomial r))) (div-eq_of_lt h) ∙ xor_zero_r (2 * a)

pub double_zero : (r : ℕ) → double r 0 ≡ 0
double_zero r = double_small r 0 (pow_pos r)

pub double_xor : (r a b : ℕ) → a < 2 ^ r → b < 2 ^ r → double r (bit_xor a b) ≡ bit_xor (double r a) (double r b)
unfolding double
double_xor r a b ha hb =
    let p : ℕ = polynomial r in
    let e : 2 * bit_xor a b ≡ bit_xor (2 * a) (2 * b) = xor_double a b in
    let t : bit_xor (2 * a) (2 * b) / 2 ^ r ≡ bit_xor (2 * a / 2 ^ r) (2 * b / 2 ^ r) = xor_shr (2 * a) (2 * b) r in
    ap (λ (x : ℕ). bit_xor x (pick (x / 2 ^ r) p)) e
    ∙ ap (λ (x : ℕ). bit_xor (bit_xor (2 * a) (2 * b)) (pick x p)) t
    ∙ ap (λ (x : ℕ). bit_xor (bit_xor (2 * a) (2 * b)) x) (pick_xor (2 * a / 2 ^ r) (2 * b / 2 ^ r) p (top_lt r a ha) (top_lt r b hb))
    ∙ xor_middle (2 * a) (2 * b) (pick (2 * a / 2 ^ r) p) (pick (2 * b / 2 ^ r) p)

pub double_pick : (r m a : ℕ) → double r (pick m a) ≡ pick m (double r a)
double_pick r zero a = double_zero r
double_pick r (suc m) a = refl

cancelled : (t p k : ℕ) → t < 2 → p / k ≡ 1 → bit_xor t (pick t p / k) ≡ 0
cancelled zero p k h e = zero-div k
cancelled (suc zero) p k h e = ap (λ (x : ℕ). bit_xor 1 x) e
cancelled (suc (suc t)) p k h e = absurd (omega arith)

module _ (r : ℕ) (lo : 2 ≤ r) (hi : r ≤ 9) where
  pub double_lt : (a : ℕ) → a < 2 ^ r → double r a < 2 ^ r
  unfolding double
  double_lt a h =
      small_from_quotient (double r a) (2 ^ r) (pow_pos r)
      (xor_shr (2 * a) (pick (2 * a / 2 ^ r) (polynomial r)) r
      ∙ cancelled (2 * a / 2 ^ r) (polynomial r) (2 ^ r) (top_lt r a h) (polynomial_degree r lo hi))

  pub scaled_lt : (i a : ℕ) → a < 2 ^ r → scaled r i a < 2 ^ r
  unfolding scaled
  scaled_lt zero a h = h
  scaled_lt (suc i) a h = double_lt (scaled r i a) (scaled_lt i a h)

  pub scaled_xor : (i a b : ℕ) → a < 2 ^ r → b < 2 ^ r → scaled r i (bit_xor a b) ≡ bit_xor (scaled r i a) (scaled r i b)
  unfolding scaled
  scaled_xor zero a b ha hb = refl
  scaled_xor (suc i) a b ha hb =
      ap (double r) (scaled_xor i a b ha hb) ∙ double_xor r (scaled r i a) (scaled r i b) (scaled_lt i a ha) (scaled_lt i b hb)

  pub double_xors : (n : ℕ) (t : ℕ → ℕ) → ((i : ℕ) → i < n → t i < 2 ^ r) → double r (xors n t) ≡ xors n (λ i. double r (t i))
  unfolding xors
  double_xors zero t h = double_zero r
  double_xors (suc n) t h =
      double_xor r (xors n t) (t n) (xors_lt r n t (λ i l. h i (omega arith))) (h n (omega arith))
      ∙ ap (λ (x : ℕ). bit_xor x (double r (t n))) (double_xors n t (λ i l. h i (omega arith)))

pub scaled_zero : (r i : ℕ) → scaled r i 0 ≡ 0
unfolding scaled
scaled_zero r zero = refl
scaled_zero r (suc i) = ap (double r) (scaled_zero r i) ∙ double_zero r

pub scaled_double : (r i a : ℕ) → scaled r i (double r a) ≡ double r (scaled r i a)
unfolding scaled
scaled_double r zero a = refl
scaled_double r (suc i) a = ap (double r) (scaled_double r i a)

pub scaled_add : (r i j a : ℕ) → scaled r (i + j) a ≡ scaled r i (scaled r j a)
unfolding scaled
scaled_add r zero j a = ap (λ (n : ℕ). scaled r n a) (zero-add j)
scaled_add r (suc i) j a = ap (λ (n : ℕ). scaled r n a) (suc-add i j) ∙ ap (double r) (scaled_add r i j a)

-- no reduction happens below x^r
pub scaled_one : (r i : ℕ) → i < r → scaled r i 1 ≡ 2 ^ i
unfolding scaled
scaled_one r zero h = refl
scaled_one r (suc i) h =
    let e : 2 ^ suc i ≡ 2 ^ i * 2 = pow-suc 2 i in
    let l : 2 ^ suc i < 2 ^ r = pow-lt h in
    ap (double r) (scaled_one r i (omega arith)) ∙ double_small r (2 ^ i) (omega arith) ∙ omega arith
