-- Numbers as a script writes them: decimal digits, in ASCII.
use Rattle.std.specs.Prelude.{ℕ, ◌+◌, ◌-◌, ◌*◌, ◌^◌, min, Bool, true, not, ◌&&◌, List, [], ◌∷◌, length, ◌==◌, nat_le}

-- every byte is a digit
abbrev pub digits : List ℕ → Bool
digits [] = true
digits (b ∷ bs) = (nat_le 48 b && nat_le b 57) && digits bs

-- a number: one digit or more
abbrev pub numeral : List ℕ → Bool
numeral bs = not (length bs == 0) && digits bs

-- the value of digits that come after a number n
abbrev pub decimal : ℕ → List ℕ → ℕ
decimal n [] = n
decimal n (b ∷ bs) = decimal (10 * n + (b - 48)) bs

-- the value, or the largest number of 64 bits, which is past every limit of the library
abbrev pub value : List ℕ → ℕ
value bs = min (decimal 0 bs) (2 ^ 64 - 1)
