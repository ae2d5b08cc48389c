-- A matrix has one reduced row echelon form. By induction on the column: the columns before it determine it.
use Rattle.std.proofs.Common.{◌≡◌, ℕ, zero, suc, ◌<◌, ◌≤◌, true, false, cond, eqb, sym, refl, ap, ◌∙◌, ap₂, ⊎_elim, arith}
use Rattle.std.proofs.lemmas.Bool.{eq-eqb, ne_eqb, cond-true, cond-false, cond_both, cases_lt, cases_eq, cases_order, cases_Bool}
use Rattle.field.specs.Meaning.{Meaning, Lawful, CharacteristicTwo}
use Rattle.field.specs.Sums.{total}
use Rattle.algebra.specs.Matrices.{Null, SameNull, Echelon, Reduced, ReducedFormIsUnique, lead_row, free}
use Rattle.algebra.specs.Solutions.{free_part, solved}
use Rattle.algebra.proofs.Powers.{one_below, product_zero, product_one_right}
use Rattle.algebra.proofs.Sums.{sum_zero_right, total_same, total_zero, total_cut}
use Rattle.algebra.proofs.Leads.{lead_of}
use Rattle.algebra.proofs.Nulls.{same_null_turn, same_null_join}
use Rattle.algebra.proofs.Solves.{product_from_zero, solved_free, solved_taken, solved_below, solved_null}

-- the two matrices agree in the first k columns
abbrev Agree : ℕ → (ℕ → ℕ → ℕ) → (ℕ → ℕ → ℕ) → ℕ → Type 0
Agree rows r s k = (i j : ℕ) → i < rows → j < k → r i j ≡ s i j

-- the vector that is 1 in column k alone
abbrev unit : ℕ → ℕ → ℕ
unit k j = cond (eqb j k) 1 0

unit_here : (k : ℕ) → unit k k ≡ 1
unit_here k = cond-true (eqb k k) 1 0 (eq-eqb k k refl)

unit_elsewhere : (k j : ℕ) → (j ≡ k → ⊥) → unit k j ≡ 0
unit_elsewhere k j apart = cond-false (eqb j k) 1 0 (ne_eqb j k apart)

module _ (f : Meaning) (w : Lawful f) where
  unit_below : (k j : ℕ) → unit k j < f.q
  unit_below k j = cond_both (eqb j k) 1 0 (λ (x : ℕ). x < f.q) (λ t. one_below f w) (λ t. omega (arith, one_below f w))

  -- a number has one opposite
  one_opposite : (x a b : ℕ) → a < f.q → b < f.q → f.sum x a ≡ 0 → f.sum x b ≡ 0 → a ≡ b
  one_opposite x a b ha hb p q =
      cc (w.sum_assoc a x b, w.sum_comm a x, sum_zero_right f w a ha, w.sum_zero b hb)

-- A free column k of r: the solution with 1 there, and 0 in the other free columns, is 0 to the right of k. It is a solution of s too.
module _ (f : Meaning) (w : Lawful f) (rows c : ℕ) (r : ℕ → ℕ → ℕ) (rank : ℕ) (lead : ℕ → ℕ) (e : Echelon rows c r rank lead)
    (k : ℕ) (h : k < c) (y : free rows r k ≡ true) where
  past_zero : (j : ℕ) → k < j → j < c → solved f rows c r (unit k) j ≡ 0
  unfolding free_part
  past_zero j l lc =
      ⊎_elim (λ (t : free rows r j ≡ true).
      solved_free f w rows c r (unit k) j t ∙ unit_elsewhere k j (λ x. omega arith))
      (λ (t : free rows r j ≡ false).
      let i : ℕ = lead_row rows r j in
      let o : (i < rank) × (lead i ≡ j) = lead_of rows c r rank lead e j lc t in
      solved_taken f w rows c r (unit k) j t
      ∙ total_zero f w c (λ g. cond (free rows r g) (f.product (r i g) (unit k g)) 0)
      (λ g a. cond_both (free rows r g) (f.product (r i g) (unit k g)) 0 (λ (x : ℕ). x ≡ 0)
      (λ b. ⊎_elim (λ (x : g ≡ k).
      product_from_zero f w (r i g) (unit k g) (ap (r i) x ∙ e.before i k o.0 (omega (arith, o.1))))
      (λ (x : g ≡ k → ⊥). ap (f.product (r i g)) (unit_elsewhere k g x) ∙ product_zero f w (r i g)) (cases_eq g k))
      (λ b. refl)))
      (cases_Bool (free rows r j))

  -- so it makes column k of any matrix that sends it to 0 the opposite of a sum over the columns before
  column_opposite : (m : ℕ → ℕ → ℕ) → Null f rows c m (solved f rows c r (unit k)) → (i : ℕ) → i < rows → m i k < f.q
      → f.sum (total f k (λ j. f.product (m i j) (solved f rows c r (unit k) j))) (m i k) ≡ 0
  column_opposite m z i l below =
      let u : ℕ → ℕ = solved f rows c r (unit k) in
      let t : ℕ → ℕ = λ j. f.product (m i j) (u j) in
      let here : t k ≡ m i k =
      ap (f.product (m i k)) (solved_free f w rows c r (unit k) k y ∙ unit_here k) ∙ product_one_right f w (m i k) below in
      ap (f.sum (total f k t)) (sym here)
      ∙ sym (total_cut f w c (suc k) t h (λ j a b. ap (f.product (m i j)) (past_zero j a b) ∙ product_zero f w (m i j)))
      ∙ z i l

module _ (f : Meaning) (w : Lawful f) (two : CharacteristicTwo f) (rows c : ℕ) where
  free_agrees : (r s : ℕ → ℕ → ℕ) (rank : ℕ) (lead : ℕ → ℕ) → Echelon rows c r rank lead
      → ((i j : ℕ) → i < rows → j < c → r i j < f.q) → ((i j : ℕ) → i < rows → j < c → s i j < f.q) → SameNull f rows c r s
      → (k : ℕ) → k < c → free rows r k ≡ true → Agree rows r s k → (i : ℕ) → i < rows → r i k ≡ s i k
  free_agrees r s rank lead e hr hs nulls k h y agree i l =
      let u : ℕ → ℕ = solved f rows c r (unit k) in
      let z : Null f rows c r u = solved_null f w rows c r rank lead e two (unit k) (unit_below f w k) in
      let same : total f k (λ j. f.product (r i j) (u j)) ≡ total f k (λ j. f.product (s i j) (u j)) =
      total_same f w k (λ j. f.product (r i j) (u j)) (λ j. f.product (s i j) (u j))
      (λ j a. ap (λ (x : ℕ). f.product x (u j)) (agree i j l a)) in
      one_opposite f w (total f k (λ j. f.product (r i j) (u j))) (r i k) (s i k) (hr i k l h) (hs i k l h)
      (column_opposite f w rows c r rank lead e k h y r z i l (hr i k l h))
      (ap (λ (x : ℕ). f.sum x (s i k)) same
      ∙ column_opposite f w rows c r rank lead e k h y s
      (nulls.there u (solved_below f w rows c r (unit k) (unit_below f w k)) z) i l (hs i k l h))

-- A column k that leads in both: in the same row, since a row that led earlier in one form alone would differ from the other's.
module _ (rows c : ℕ) (r s : ℕ → ℕ → ℕ) (rank rank' : ℕ) (lead lead' : ℕ → ℕ)
    (e : Echelon rows c r rank lead) (e' : Echelon rows c s rank' lead') where
  no_earlier : (k : ℕ) → Agree rows r s k → (i g : ℕ) → i < rank → lead i ≡ k → g < rank' → lead' g ≡ k → i < g → ⊥
  no_earlier k agree i g a p b q l =
      let left : lead' i < k = omega (arith, e'.rising i g l b) in
      omega (arith, e.before i (lead' i) a (omega arith), agree i (lead' i) (omega (arith, e.within)) left, e'.one i (omega arith))

  -- a form has no more rows that are not zero than another that agrees with it
  rank_at_most : Agree rows r s c → rank ≤ rank'
  rank_at_most agree =
      ⊎_elim (λ (l : rank' < rank).
      let i : ℕ = rank' in
      let h : i < rows = omega (arith, e.within) in
      absurd (omega (arith, e.one i l, agree i (lead i) h (e.column i l), e'.zeros i (lead i) (omega arith) h (e.column i l))))
      (λ (l : rank ≤ rank'). l) (cases_lt rank' rank)

module _ (rows c : ℕ) (r s : ℕ → ℕ → ℕ) (rank rank' : ℕ) (lead lead' : ℕ → ℕ)
    (e : Echelon rows c r rank lead) (e' : Echelon rows c s rank' lead') where
  leads_agree : (k : ℕ) → k < c → free rows r k ≡ false → free rows s k ≡ false → Agree rows r s k
      → (i : ℕ) → i < rows → r i k ≡ s i k
  leads_agree k h x y agree i l =
      let g : ℕ = lead_row rows r k in
      let g' : ℕ = lead_row rows s k in
      let o : (g < rank) × (lead g ≡ k) = lead_of rows c r rank lead e k h x in
      let o' : (g' < rank') × (lead' g' ≡ k) = lead_of rows c s rank' lead' e' k h y in
      let flip : Agree rows s r k = λ a b p q. sym (agree a b p q) in
      let same : g ≡ g' =
      ⊎_elim (λ (p : g ≡ g'). p)
      (λ p. absurd (⊎_elim
      (λ (q : g < g'). no_earlier rows c r s rank rank' lead lead' e e' k agree g g' o.0 o.1 o'.0 o'.1 q)
      (λ (q : g' < g). no_earlier rows c s r rank' rank lead' lead e' e k flip g' g o'.0 o'.1 o.0 o.1 q) p))
      (cases_order g g') in
      ⊎_elim (λ (p : i ≡ g).
      ap₂ r p (sym o.1) ∙ e.one g o.0 ∙ sym (ap₂ s (p ∙ same) (sym o'.1) ∙ e'.one g' o'.0))
      (λ (p : i ≡ g → ⊥).
      ap (r i) (sym o.1) ∙ e.alone i g l o.0 p
      ∙ sym (ap (s i) (sym o'.1) ∙ e'.alone i g' l o'.0 (λ (q : i ≡ g'). p (q ∙ sym same))))
      (cases_eq i g)

module _ (f : Meaning) (w : Lawful f) (two : CharacteristicTwo f) (rows c : ℕ) (b r s : ℕ → ℕ → ℕ) (rank rank' : ℕ)
    (d : Reduced f rows c b r rank) (d' : Reduced f rows c b s rank') where
  same_null : SameNull f rows c r s
  same_null = same_null_join f rows c r b s (same_null_turn f rows c b r d.nulls) d'.nulls

  agree_next : (k : ℕ) → k < c → Agree rows r s k → (i : ℕ) → i < rows → r i k ≡ s i k
  agree_next k h agree i l =
      ⊎_elim (λ (x : free rows r k ≡ true).
      free_agrees f w two rows c r s rank d.shape.0 d.shape.1 d.symbols d'.symbols same_null k h x agree i l)
      (λ (x : free rows r k ≡ false).
      ⊎_elim (λ (y : free rows s k ≡ true).
      sym (free_agrees f w two rows c s r rank' d'.shape.0 d'.shape.1 d'.symbols d.symbols
      (same_null_turn f rows c r s same_null) k h y (λ a g p q. sym (agree a g p q)) i l))
      (λ (y : free rows s k ≡ false).
      leads_agree rows c r s rank rank' d.shape.0 d'.shape.0 d.shape.1 d'.shape.1 k h x y agree i l)
      (cases_Bool (free rows s k)))
      (cases_Bool (free rows r k))

  agree_all : (k : ℕ) → k ≤ c → Agree rows r s k
  agree_all zero h i j l a = absurd (omega arith)
  agree_all (suc k) h i j l a =
      let agree : Agree rows r s k = agree_all k (omega arith) in
      ⊎_elim (λ (x : j < k). agree i j l x)
      (λ (x : k ≤ j).
      let same : j ≡ k = omega arith in
      ap (r i) same ∙ agree_next k h agree i l ∙ ap (s i) (sym same)) (cases_lt j k)

pub reduced_form_is_unique_lem : ReducedFormIsUnique
reduced_form_is_unique_lem f w two rows c b r s rank rank' d d' =
    let agree : Agree rows r s c = agree_all f w two rows c b r s rank rank' d d' c (omega arith) in
    let most : rank ≤ rank' =
    rank_at_most rows c r s rank rank' d.shape.0 d'.shape.0 d.shape.1 d'.shape.1 agree in
    let least : rank' ≤ rank =
    rank_at_most rows c s r rank' rank d'.shape.0 d.shape.0 d'.shape.1 d.shape.1 (λ i j l a. sym (agree i j l a)) in
    (omega arith, agree)
