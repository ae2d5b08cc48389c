-- What a call over a field and a shape ensures, said of the numbers that C gives.
use Rattle.std.proofs.Common.{◌≡◌, ℕ, IfOk, Ok, Err, Result, sym, ◌∙◌, subst, arith, MatchResult}
use Rattle.refusal.specs.declared.Refusal.{Refusal}
use Rattle.refusal.specs.Number.{number}
use Rattle.field.specs.Meaning.{Meaning}

-- the field and the numbers of a shape are those that the code was made of
pub of_code : (P : Meaning → ℕ → ℕ → ℕ → Type 0) {f g : Meaning} {e rows columns size height width : ℕ} → f ≡ g
    → (e ≡ size) × (rows ≡ height) × (columns ≡ width) → P f e rows columns → P g size height width
of_code P {f} {g} {e} {rows} {columns} {size} {height} {width} ef same p =
    subst (λ (n : ℕ). P g size height n) same.2 (subst (λ (n : ℕ). P g size n columns) same.1
    (subst (λ (n : ℕ). P g n rows columns) same.0 (subst (λ (m : Meaning). P m e rows columns) ef p)))

number_positive : (x : Refusal) → number x ≡ 0 → ⊥
number_positive x h = grind arith

-- the answer 0 says that the call was accepted
pub accepted : (r : Result Unit Refusal) (n : ℕ) (P : Type 0) → MatchResult r (λ _. n ≡ 0) (λ x. n ≡ number x) → IfOk r (λ _. P) → n ≡ 0 → P
accepted (Ok u) n P a m z = m
accepted (Err x) n P a m z = absurd (number_positive x (sym a ∙ z))
