-- A number read digit by digit.
use Rattle.std.proofs.Common.{◌≡◌, ℕ, zero, suc, ◌+◌, ◌-◌, ◌*◌, ◌^◌, ◌<◌, min, true, false, ◌&&◌, leb, List, [], ◌∷◌, ◌++◌, length, get_or, take, sym, refl, ap, ◌∙◌, arith}
use Rattle.std.proofs.lemmas.List.{take_more}
use Rattle.std.proofs.lemmas.Bool.{and_parts, and_from, and_left, and_right}
use Rattle.guldremor.specs.Words.{digits, decimal}

digits_push : (bs : List ℕ) (b : ℕ) → digits bs ≡ true → (leb 48 b && leb b 57) ≡ true → digits (bs ++ b ∷ []) ≡ true
digits_push [] b h g = and_from (leb 48 b && leb b 57) true g refl
digits_push (x ∷ bs) b h g =
    let p = and_parts (leb 48 x && leb x 57) (digits bs) h in
    and_from (leb 48 x && leb x 57) (digits (bs ++ b ∷ [])) p.0 (digits_push bs b p.1 g)

decimal_push : (n : ℕ) (bs : List ℕ) (b : ℕ) → decimal n (bs ++ b ∷ []) ≡ 10 * decimal n bs + (b - 48)
decimal_push n [] b = refl
decimal_push n (x ∷ bs) b = decimal_push (10 * n + (x - 48)) bs b

pub digits_more : (bs : List ℕ) (i : ℕ) → i < length bs → digits (take i bs) ≡ true → (leb 48 (get_or bs i 0) && leb (get_or bs i 0) 57) ≡ true
    → digits (take (i + 1) bs) ≡ true
digits_more bs i h d g = ap digits (take_more bs i 0 h) ∙ digits_push (take i bs) (get_or bs i 0) d g

capped : (n d v : ℕ) → v ≡ min n (2 ^ 64 - 1) → min (10 * v + d) (2 ^ 64 - 1) ≡ min (10 * n + d) (2 ^ 64 - 1)
capped n d v e = omega arith

pub value_more : (bs : List ℕ) (i v r : ℕ) → i < length bs → v ≡ min (decimal 0 (take i bs)) (2 ^ 64 - 1)
    → r ≡ min (10 * v + (get_or bs i 0 - 48)) (2 ^ 64 - 1) → r ≡ min (decimal 0 (take (i + 1) bs)) (2 ^ 64 - 1)
value_more bs i v r h e g =
    g ∙ capped (decimal 0 (take i bs)) (get_or bs i 0 - 48) v e
    ∙ ap (λ (n : ℕ). min n (2 ^ 64 - 1)) (sym (ap (decimal 0) (take_more bs i 0 h) ∙ decimal_push 0 (take i bs) (get_or bs i 0)))

pub no_digit : (bs : List ℕ) (i : ℕ) → i < length bs → (leb 48 (get_or bs i 0) && leb (get_or bs i 0) 57) ≡ false → digits bs ≡ false
no_digit [] i h w = absurd (omega arith)
no_digit (b ∷ bs) zero h w = and_left (leb 48 b && leb b 57) (digits bs) w
no_digit (b ∷ bs) (suc i) h w = and_right (leb 48 b && leb b 57) (digits bs) (no_digit bs i (omega arith) w)
