-- Finite sums over a field.
use Rattle.std.specs.Prelude.{ℕ, zero, suc}
use Rattle.field.specs.Meaning.{Meaning}

-- t 0 + t 1 + .. + t (n - 1)
abbrev pub total : Meaning → ℕ → (ℕ → ℕ) → ℕ
total f zero t = 0
total f (suc n) t = f.sum (total f n t) (t n)
