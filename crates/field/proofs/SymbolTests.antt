-- The test for symbols, by index and by how many pass.
use Rattle.std.proofs.Common.{◌≡◌, ℕ, zero, suc, ◌+◌, ◌<◌, ◌≤◌, Bool, true, false, ◌&&◌, cond, eqb, ltb, inl, inr, List, [], ◌∷◌, take, length, get_or, refl, ap, ◌∙◌, arith}
use Rattle.std.proofs.Math.Dec.{eqb-suc-suc, eqb-zero-suc}
use Rattle.std.proofs.lemmas.Bool.Decides.{leb_tells}
use Rattle.std.proofs.lemmas.Bool.{and_parts, and_from, ltb-true, lt-ltb}
use Rattle.std.specs.List.{prefix_len}
use Rattle.field.specs.Symbols.{symbols_below}

pub symbols_at : (q : ℕ) (xs : List ℕ) → symbols_below q xs ≡ true → (k : ℕ) → k < length xs → get_or xs k 0 < q
symbols_at q [] h k l = absurd (omega arith)
symbols_at q (x ∷ xs) h zero l = ltb-true x q (and_parts (ltb x q) (symbols_below q xs) h).0
symbols_at q (x ∷ xs) h (suc k) l = symbols_at q xs (and_parts (ltb x q) (symbols_below q xs) h).1 k (omega arith)

pub symbols_from : (q : ℕ) (xs : List ℕ) → ((k : ℕ) → k < length xs → get_or xs k 0 < q) → symbols_below q xs ≡ true
symbols_from q [] h = refl
symbols_from q (x ∷ xs) h = and_from (ltb x q) (symbols_below q xs) (lt-ltb x q (h 0 (omega arith))) (symbols_from q xs (λ k l. h (suc k) (omega arith)))

-- where the test fails, some number is no symbol
pub symbols_fail : (q : ℕ) (xs : List ℕ) → symbols_below q xs ≡ false → (k : ℕ) × (k < length xs) × (q ≤ get_or xs k 0)
symbols_fail q [] h = cc
symbols_fail q (x ∷ xs) h = elim (leb_tells (suc x) q) [
  | inl w ↦
      let t : symbols_below q xs ≡ false = rw w.0 at h in
      let r = symbols_fail q xs t in
      (suc r.0, omega (arith, r.1), r.2)
  | inr w ↦ (0, omega arith, omega arith)
]

-- one number more, and the n after it that pass; t is whether it passes itself
counted : (n x : ℕ) (xs : List ℕ) (t all : Bool) → eqb (length (take n xs)) (length xs) ≡ all
    → eqb (length (take (cond t (1 + n) 0) (x ∷ xs))) (suc (length xs)) ≡ (t && all)
counted n x xs true all e =
    let more : 1 + n ≡ suc n = omega arith in
    ap (λ (k : ℕ). eqb (length (take k (x ∷ xs))) (suc (length xs))) more ∙ eqb-suc-suc (length (take n xs)) (length xs) ∙ e
counted n x xs false all e = eqb-zero-suc (length xs)

-- every number is a symbol if as many pass from the front on as there are
pub symbols_counted : (q : ℕ) (xs : List ℕ) → eqb (length (take (prefix_len (λ x. ltb x q) xs) xs)) (length xs) ≡ symbols_below q xs
symbols_counted q [] = refl
symbols_counted q (x ∷ xs) = counted (prefix_len (λ x. ltb x q) xs) x xs (ltb x q) (symbols_below q xs) (symbols_counted q xs)
