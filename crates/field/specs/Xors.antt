-- Exclusive or as the sum of polynomials over the field of two elements.
use Rattle.std.specs.Prelude.{◌≡◌, ℕ, zero, suc, ◌+◌, ◌*◌, ◌/◌, ◌%◌, ◌^◌, ◌<◌, bit_xor, refl}
use Rattle.std.proofs.Common.{sym, ap, ◌∙◌, arith, mod-lt, one-add, pow_pos}
use Rattle.std.specs.Int.Bits.{xor_assoc, xor_self, xor_zero_r, xor_shifted}
use Rattle.std.proofs.lemmas.Nat.{xor_comm, xor_lt, xor_shr, xor_mod, xor_block, mod-pow-add}
use Rattle.field.specs.Shift.{pick, xors}

pub xor_middle : (a b c d : ℕ) → bit_xor (bit_xor a b) (bit_xor c d) ≡ bit_xor (bit_xor a c) (bit_xor b d)
xor_middle a b c d =
    cc (xor_assoc a b (bit_xor c d), xor_assoc b c d, xor_comm b c, xor_assoc c b d, xor_assoc a c (bit_xor b d))

pub xor_double : (a b : ℕ) → 2 * bit_xor a b ≡ bit_xor (2 * a) (2 * b)
xor_double a b =
    let e : bit_xor (a * 2 ^ 1 + 0) (b * 2 ^ 1 + 0) ≡ bit_xor a b * 2 ^ 1 + bit_xor 0 0 = xor_block 1 a b 0 0 (omega arith) (omega arith) in
    let l : a * 2 ^ 1 + 0 ≡ 2 * a = omega arith in
    let m : b * 2 ^ 1 + 0 ≡ 2 * b = omega arith in
    let n : bit_xor a b * 2 ^ 1 + bit_xor 0 0 ≡ 2 * bit_xor a b = omega arith in
    cc

pub pick_zero : (m : ℕ) → pick m 0 ≡ 0
pick_zero zero = refl
pick_zero (suc m) = refl

pub pick_lt : (m a n : ℕ) → a < n → pick m a < n
pick_lt zero a n h = omega arith
pick_lt (suc m) a n h = h

pub pick_xor : (m n a : ℕ) → m < 2 → n < 2 → pick (bit_xor m n) a ≡ bit_xor (pick m a) (pick n a)
pick_xor zero n a hm hn = refl
pick_xor (suc zero) zero a hm hn = sym (xor_zero_r a)
pick_xor (suc zero) (suc zero) a hm hn = sym (xor_self a)
pick_xor (suc zero) (suc (suc n)) a hm hn = absurd (omega arith)
pick_xor (suc (suc m)) n a hm hn = absurd (omega arith)

pub digit_lt : (n : ℕ) → n % 2 < 2
digit_lt n = omega arith

pub digit_xor : (b c i : ℕ) → bit_xor b c / 2 ^ i % 2 ≡ bit_xor (b / 2 ^ i % 2) (c / 2 ^ i % 2)
digit_xor b c i = ap (λ (n : ℕ). n % 2) (xor_shr b c i) ∙ xor_mod (b / 2 ^ i) (c / 2 ^ i) 1

-- sums of n polynomials

pub xors_same : (n : ℕ) (s t : ℕ → ℕ) → ((i : ℕ) → i < n → s i ≡ t i) → xors n s ≡ xors n t
unfolding xors
xors_same zero s t h = refl
xors_same (suc n) s t h =
    let e : xors n s ≡ xors n t = xors_same n s t (λ i l. h i (omega arith)) in
    let k : s n ≡ t n = h n (omega arith) in
    cc

pub xors_lt : (k n : ℕ) (t : ℕ → ℕ) → ((i : ℕ) → i < n → t i < 2 ^ k) → xors n t < 2 ^ k
unfolding xors
xors_lt k zero t h = pow_pos k
xors_lt k (suc n) t h = xor_lt k (xors n t) (t n) (xors_lt k n t (λ i l. h i (omega arith))) (h n (omega arith))

pub xors_xor : (n : ℕ) (s t : ℕ → ℕ) → xors n (λ i. bit_xor (s i) (t i)) ≡ bit_xor (xors n s) (xors n t)
unfolding xors
xors_xor zero s t = refl
xors_xor (suc n) s t =
    ap (λ (x : ℕ). bit_xor x (bit_xor (s n) (t n))) (xors_xor n s t) ∙ xor_middle (xors n s) (xors n t) (s n) (t n)

pub xors_zero : (n : ℕ) → xors n (λ i. 0) ≡ 0
unfolding xors
xors_zero zero = refl
xors_zero (suc n) = ap (λ (x : ℕ). bit_xor x 0) (xors_zero n)

bit_more : (d n x : ℕ) → d < 2 → x < 2 ^ n → bit_xor x (pick d (2 ^ n)) ≡ d * 2 ^ n + x
bit_more zero n x hd l = xor_zero_r x ∙ omega arith
bit_more (suc zero) n x hd l =
    let e : bit_xor (1 * 2 ^ n) x ≡ 1 * 2 ^ n + x = xor_shifted 1 n x l in
    let o : 1 * 2 ^ n ≡ 2 ^ n = omega arith in
    cc (xor_comm x (2 ^ n))
bit_more (suc (suc d)) n x hd l = absurd (omega arith)

-- a number is the sum of its bits
pub xors_bits : (n b : ℕ) → xors n (λ i. pick (b / 2 ^ i % 2) (2 ^ i)) ≡ b % 2 ^ n
unfolding xors
xors_bits zero b = omega arith
xors_bits (suc n) b =
    let e : b % 2 ^ (1 + n) ≡ (b / 2 ^ n % 2 ^ 1) * 2 ^ n + b % 2 ^ n = mod-pow-add b 1 n in
    let l : b % 2 ^ n < 2 ^ n = mod-lt b (pow_pos n) in
    ap (λ (x : ℕ). bit_xor x (pick (b / 2 ^ n % 2) (2 ^ n))) (xors_bits n b) ∙ bit_more (b / 2 ^ n % 2) n (b % 2 ^ n) (digit_lt (b / 2 ^ n)) l
    ∙ sym e ∙ ap (λ (k : ℕ). b % 2 ^ k) (one-add n)
