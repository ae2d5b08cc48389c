-- One computed walk through the powers of x, for each degree: x^(q-1) = 1, no lower power is 1, and every nonzero symbol is met.
use Rattle.std.specs.Prelude.{◌≡◌, ℕ, zero, suc, ◌-◌, ◌^◌, ◌<◌, ◌≤◌, Bool, true, false, not, ◌&&◌, List, [], ◌∷◌, ◌==◌, ◌≢◌, refl}
use Rattle.std.proofs.Common.{sym, ap, ◌∙◌, ⊎_elim, arith}
use Rattle.std.proofs.lemmas.Bool.{and_parts, cases_eq, not-true, eqb-true, eqb-false}
use Rattle.field.specs.Shift.{double, scaled}
use Rattle.field.specs.Doubles.{degrees, scaled_double}

-- none of c, x c, .., x^(n-1) c is 1
unfoldable pub avoids_one : ℕ → ℕ → ℕ → Bool
avoids_one r zero c = true
avoids_one r (suc n) c = not (c == 1) && avoids_one r n (double r c)

pub avoids : (r n c : ℕ) → avoids_one r n c ≡ true → (k : ℕ) → k < n → scaled r k c ≢ 1
unfolding avoids_one scaled
avoids r zero c h k l e = omega arith
avoids r (suc n) c h zero l e = eqb-false c 1 (not-true (c == 1) (and_parts (not (c == 1)) (avoids_one r n (double r c)) h).0) e
avoids r (suc n) c h (suc k) l e =
    avoids r n (double r c) (and_parts (not (c == 1)) (avoids_one r n (double r c)) h).1 k (omega arith) (scaled_double r k c ∙ e)

-- c, x c, .., x^(n-1) c
unfoldable pub walk : ℕ → ℕ → ℕ → List ℕ
walk r zero c = []
walk r (suc n) c = c ∷ walk r n (double r c)

unfoldable pub among : List ℕ → ℕ → Bool
among [] a = false
among (c ∷ cs) a = elim (c == a) [ true ↦ true | false ↦ among cs a ]

met : (r n c a : ℕ) (b : Bool) → (b ≡ true → c ≡ a)
    → (among (walk r n (double r c)) a ≡ true → (k : ℕ) × (k < n) × (scaled r k (double r c) ≡ a))
    → (elim b [ true ↦ true | false ↦ among (walk r n (double r c)) a ]) ≡ true → (k : ℕ) × (k < suc n) × (scaled r k c ≡ a)
unfolding scaled
met r n c a true here later h = (0, omega arith, here refl)
met r n c a false here later h =
    let m : (k : ℕ) × (k < n) × (scaled r k (double r c) ≡ a) = later h in
    (suc m.0, omega arith, sym (scaled_double r m.0 c) ∙ m.2)

among_walk : (r n c a : ℕ) → among (walk r n c) a ≡ true → (k : ℕ) × (k < n) × (scaled r k c ≡ a)
unfolding among walk
among_walk r zero c a h = let z : ◌≡◌ {A = ℕ} 0 1 = cc in absurd (omega arith)
among_walk r (suc n) c a h = met r n c a (c == a) (eqb-true c a) (λ m. among_walk r n (double r c) a m) h

-- the numbers 1 to n are all in the list
unfoldable pub covers : List ℕ → ℕ → Bool
covers cs zero = true
covers cs (suc n) = among cs (suc n) && covers cs n

covered : (cs : List ℕ) (n : ℕ) → covers cs n ≡ true → (a : ℕ) → 0 < a → a ≤ n → among cs a ≡ true
unfolding covers
covered cs zero h a lo hi = absurd (omega arith)
covered cs (suc n) h a lo hi =
    let p : (among cs (suc n) ≡ true) × (covers cs n ≡ true) = and_parts (among cs (suc n)) (covers cs n) h in
    ⊎_elim (λ (e : a ≡ suc n). ap (among cs) e ∙ p.0) (λ (ne : a ≡ suc n → ⊥). covered cs n p.1 a lo (omega arith)) (cases_eq a (suc n))

abbrev Walked : ℕ → Type 0
Walked r = (scaled r (2 ^ r - 1) 1 ≡ 1) × (avoids_one r (2 ^ r - 2) 2 ≡ true) × (covers (walk r (2 ^ r - 1) 1) (2 ^ r - 1) ≡ true)

walked : (r : ℕ) → 2 ≤ r → r ≤ 9 → Walked r
unfolding scaled double avoids_one walk among covers
walked = degrees Walked (refl, refl, refl) (refl, refl, refl) (refl, refl, refl) (refl, refl, refl)
    (refl, refl, refl) (refl, refl, refl) (refl, refl, refl) (refl, refl, refl)

module _ (r : ℕ) (lo : 2 ≤ r) (hi : r ≤ 9) where
  pub turn : scaled r (2 ^ r - 1) 1 ≡ 1
  turn = (walked r lo hi).0

  pub no_earlier_turn : (k : ℕ) → k < 2 ^ r - 2 → scaled r k 2 ≢ 1
  no_earlier_turn = avoids r (2 ^ r - 2) 2 (walked r lo hi).1

  pub reached : (a : ℕ) → 0 < a → a < 2 ^ r → (k : ℕ) × (k < 2 ^ r - 1) × (scaled r k 1 ≡ a)
  reached a l h = among_walk r (2 ^ r - 1) 1 a (covered (walk r (2 ^ r - 1) 1) (2 ^ r - 1) (walked r lo hi).2 a l (omega arith))
