-- The field of 2^r symbols, r from 2 to 9. Bit i of a symbol is the coefficient of x^i in a polynomial over the field of two
-- elements. The sum is the sum of polynomials; the product is their product modulo a primitive polynomial of degree r.
use Rattle.std.specs.Prelude.{ℕ, zero, suc, ◌-◌, ◌*◌, ◌/◌, ◌%◌, ◌^◌, cond, List, [], ◌∷◌, bit_xor, nat_lt, slice_index}
use Rattle.field.specs.Meaning.{Meaning}

-- the primitive polynomials of degree 2 to 9
abbrev pub polynomials : List ℕ
polynomials = 7 ∷ 11 ∷ 19 ∷ 37 ∷ 67 ∷ 137 ∷ 285 ∷ 529 ∷ []

abbrev pub polynomial : ℕ → ℕ
polynomial r = slice_index polynomials (r - 2)

-- a where the bit is 1, 0 where it is 0
abbrev pub pick : ℕ → ℕ → ℕ
pick zero a = 0
pick (suc n) a = a

-- t 0 + t 1 + .. + t (n - 1), as polynomials
unfoldable pub xors : ℕ → (ℕ → ℕ) → ℕ
xors zero t = 0
xors (suc n) t = bit_xor (xors n t) (t n)

-- x times a, modulo the polynomial
unfoldable pub double : ℕ → ℕ → ℕ
double r a = bit_xor (2 * a) (pick (2 * a / 2 ^ r) (polynomial r))

-- x^i times a, modulo the polynomial
unfoldable pub scaled : ℕ → ℕ → ℕ → ℕ
scaled r zero a = a
scaled r (suc i) a = double r (scaled r i a)

-- b times a: the sum of x^i times a over the bits i that are 1 in b
unfoldable pub multiplied : ℕ → ℕ → ℕ → ℕ
multiplied r a b = xors r (λ i. pick (b / 2 ^ i % 2) (scaled r i a))

unfoldable pub raised : ℕ → ℕ → ℕ → ℕ
raised r a zero = 1
raised r a (suc k) = multiplied r a (raised r a k)

-- an operand: 0 where it is no symbol
abbrev pub symbol : ℕ → ℕ → ℕ
symbol r a = cond (nat_lt a (2 ^ r)) a 0

-- the field; its generator is x, and the inverse of a is a^(q - 2)
abbrev pub shift_field : ℕ → Meaning
shift_field r = record {
  q = 2 ^ r;
  g = 2;
  sum = λ a b. bit_xor (symbol r a) (symbol r b);
  product = λ a b. multiplied r (symbol r a) (symbol r b);
  inverse = λ a. raised r (symbol r a) (2 ^ r - 2);
}
