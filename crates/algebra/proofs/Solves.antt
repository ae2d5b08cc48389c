-- The solutions by the free columns of the echelon form.
use Rattle.std.proofs.Common.{◌≡◌, ℕ, ◌+◌, ◌<◌, ◌≤◌, Bool, true, false, cond, List, length, get_or, sym, ap, ◌∙◌, ap₂, ⊎_elim, zero-add, arith}
use Rattle.std.proofs.lemmas.List.{take_all}
use Rattle.std.proofs.lemmas.Bool.{cond-true, cond-false, cond_both, cases_lt, cases_Bool}
use Rattle.field.specs.Meaning.{Meaning, Lawful, CharacteristicTwo}
use Rattle.field.specs.Sums.{total}
use Rattle.algebra.specs.Matrices.{Null, Echelon, lead_row, free, count}
use Rattle.algebra.specs.Solutions.{free_part, solved, filled, gathered, ReducedFormSolves}
use Rattle.algebra.proofs.Powers.{product_zero}
use Rattle.algebra.proofs.Sums.{sum_zero_right, total_below, total_same, total_zero, total_one, total_sum, same_from_sum}
use Rattle.algebra.proofs.Leads.{lead_row_back, lead_not_free, lead_of}
use Rattle.algebra.proofs.Gathers.{cond_where, gathered_at, gathered_same, gathered_back}

-- Of any matrix.
module _ (f : Meaning) (w : Lawful f) (rows c : ℕ) (m : ℕ → ℕ → ℕ) where
  free_part_same : (i : ℕ) (u v : ℕ → ℕ) → ((h : ℕ) → h < c → free rows m h ≡ true → u h ≡ v h)
      → free_part f rows c m i u ≡ free_part f rows c m i v
  unfolding free_part
  free_part_same i u v same =
      total_same f w c (λ h. cond (free rows m h) (f.product (m i h) (u h)) 0)
      (λ h. cond (free rows m h) (f.product (m i h) (v h)) 0)
      (λ h l. cond_where (free rows m h) (f.product (m i h) (u h)) (f.product (m i h) (v h)) 0
      (λ t. ap (f.product (m i h)) (same h l t)))

  pub solved_free : (v : ℕ → ℕ) (j : ℕ) → free rows m j ≡ true → solved f rows c m v j ≡ v j
  unfolding solved
  solved_free v j t = cond-true (free rows m j) (v j) (free_part f rows c m (lead_row rows m j) v) t

  pub solved_taken : (v : ℕ → ℕ) (j : ℕ) → free rows m j ≡ false
      → solved f rows c m v j ≡ free_part f rows c m (lead_row rows m j) v
  unfolding solved
  solved_taken v j t = cond-false (free rows m j) (v j) (free_part f rows c m (lead_row rows m j) v) t

  pub solved_below : (v : ℕ → ℕ) → ((j : ℕ) → v j < f.q) → (j : ℕ) → solved f rows c m v j < f.q
  unfolding solved free_part
  solved_below v below j =
      cond_both (free rows m j) (v j) (free_part f rows c m (lead_row rows m j) v) (λ (x : ℕ). x < f.q) (λ t. below j)
      (λ t. total_below f w c (λ h. cond (free rows m h) (f.product (m (lead_row rows m j) h) (v h)) 0))

  pub solved_same : (u v : ℕ → ℕ) → ((h : ℕ) → h < c → free rows m h ≡ true → u h ≡ v h)
      → (j : ℕ) → j < c → solved f rows c m u j ≡ solved f rows c m v j
  solved_same u v same j l =
      ⊎_elim (λ (t : free rows m j ≡ true). solved_free u j t ∙ same j l t ∙ sym (solved_free v j t))
      (λ (t : free rows m j ≡ false).
      solved_taken u j t ∙ free_part_same (lead_row rows m j) u v same ∙ sym (solved_taken v j t)) (cases_Bool (free rows m j))

module _ (f : Meaning) (w : Lawful f) where
  halves : (b : Bool) (x : ℕ) → x < f.q → x ≡ f.sum (cond b x 0) (cond b 0 x)
  halves true x h = sym (sum_zero_right f w x h)
  halves false x h = sym (w.sum_zero x h)

  pub product_from_zero : (a b : ℕ) → a ≡ 0 → f.product a b ≡ 0
  product_from_zero a b e = ap (λ (x : ℕ). f.product x b) e ∙ w.product_comm 0 b ∙ product_zero f w b

-- Of a matrix in reduced row echelon form.
module _ (f : Meaning) (w : Lawful f) (rows c : ℕ) (m : ℕ → ℕ → ℕ) (rank : ℕ) (lead : ℕ → ℕ) (e : Echelon rows c m rank lead) where
  solved_lead : (v : ℕ → ℕ) (i : ℕ) → i < rank → solved f rows c m v (lead i) ≡ free_part f rows c m i v
  solved_lead v i l =
      solved_taken f w rows c m v (lead i) (lead_not_free rows c m rank lead e i l)
      ∙ ap (λ (k : ℕ). free_part f rows c m k v) (lead_row_back rows c m rank lead e i l)

  -- a row's product with v is its free part and the entry of v in its leading column
  row_parts : (v : ℕ → ℕ) → ((j : ℕ) → v j < f.q) → (i : ℕ) → i < rank
      → total f c (λ j. f.product (m i j) (v j)) ≡ f.sum (free_part f rows c m i v) (v (lead i))
  unfolding free_part
  row_parts v below i l =
      let t : ℕ → ℕ = λ j. f.product (m i j) (v j) in
      let p : ℕ → Bool = free rows m in
      let here : cond (p (lead i)) 0 (t (lead i)) ≡ v (lead i) =
      cond-false (p (lead i)) 0 (t (lead i)) (lead_not_free rows c m rank lead e i l)
      ∙ ap (λ (x : ℕ). f.product x (v (lead i))) (e.one i l) ∙ w.product_one (v (lead i)) (below (lead i)) in
      let others : (j : ℕ) → j < c → (j ≡ lead i → ⊥) → cond (p j) 0 (t j) ≡ 0 =
      λ j h apart.
      ⊎_elim (λ (y : p j ≡ true). cond-true (p j) 0 (t j) y)
      (λ (y : p j ≡ false).
      let k : ℕ = lead_row rows m j in
      let o : (k < rank) × (lead k ≡ j) = lead_of rows c m rank lead e j h y in
      let z : m i (lead k) ≡ 0 =
      e.alone i k (omega (arith, e.within)) o.0 (λ (x : i ≡ k). apart (sym (ap lead x ∙ o.1))) in
      cond-false (p j) 0 (t j) y ∙ product_from_zero f w (m i j) (v j) (ap (m i) (sym o.1) ∙ z))
      (cases_Bool (p j)) in
      total_same f w c t (λ j. f.sum (cond (p j) (t j) 0) (cond (p j) 0 (t j)))
      (λ j h. halves f w (p j) (t j) (w.product_below (m i j) (v j)))
      ∙ total_sum f w c (λ j. cond (p j) (t j) 0) (λ j. cond (p j) 0 (t j))
      ∙ ap (f.sum (total f c (λ j. cond (p j) (t j) 0)))
      (total_one f w c (lead i) (λ j. cond (p j) 0 (t j)) (e.column i l) (omega (arith, here, below (lead i))) others ∙ here)

  row_zero : (v : ℕ → ℕ) (i : ℕ) → rank ≤ i → i < rows → total f c (λ j. f.product (m i j) (v j)) ≡ 0
  row_zero v i a l =
      total_zero f w c (λ j. f.product (m i j) (v j)) (λ j h. product_from_zero f w (m i j) (v j) (e.zeros i j a l h))

  -- What needs that a + a = 0.
  module _ (two : CharacteristicTwo f) where
    pub solved_null : (v : ℕ → ℕ) → ((j : ℕ) → v j < f.q) → Null f rows c m (solved f rows c m v)
    solved_null v below i l =
        let u : ℕ → ℕ = solved f rows c m v in
        ⊎_elim (λ (s : i < rank).
        row_parts u (solved_below f w rows c m v below) i s
        ∙ ap₂ f.sum (free_part_same f w rows c m i u v (λ h k t. solved_free f w rows c m v h t)) (solved_lead v i s)
        ∙ two.sum_self (free_part f rows c m i v))
        (λ (s : rank ≤ i). row_zero u i s l) (cases_lt i rank)

    pub null_solved : (v : ℕ → ℕ) → ((j : ℕ) → v j < f.q) → Null f rows c m v → (j : ℕ) → j < c → v j ≡ solved f rows c m v j
    unfolding free_part
    null_solved v below z j h =
        ⊎_elim (λ (t : free rows m j ≡ true). sym (solved_free f w rows c m v j t))
        (λ (t : free rows m j ≡ false).
        let i : ℕ = lead_row rows m j in
        let o : (i < rank) × (lead i ≡ j) = lead_of rows c m rank lead e j h t in
        let part : ℕ = free_part f rows c m i v in
        let same : part ≡ v (lead i) =
        same_from_sum f w two part (v (lead i)) (total_below f w c (λ k. cond (free rows m k) (f.product (m i k) (v k)) 0))
        (below (lead i)) (sym (row_parts v below i o.0) ∙ z i (omega (arith, o.0, e.within))) in
        ap v (sym o.1) ∙ sym same ∙ sym (solved_taken f w rows c m v j t))
        (cases_Bool (free rows m j))

-- the free entries of a filled vector are what it was filled from
pub filled_back : (f : Meaning) → Lawful f → (rows c : ℕ) (m : ℕ → ℕ → ℕ) (xs : List ℕ) → length xs ≡ count c (free rows m)
    → gathered c (free rows m) (filled f rows c m (λ k. get_or xs k 0)) ≡ xs
filled_back f w rows c m xs e =
    let p : ℕ → Bool = free rows m in
    gathered_same p (filled f rows c m (λ k. get_or xs k 0)) (λ j. get_or xs (0 + count j p) 0) c
    (λ j l t. solved_free f w rows c m (λ h. get_or xs (count h p) 0) j t ∙ ap (λ (k : ℕ). get_or xs k 0) (sym (zero-add (count j p))))
    ∙ gathered_back p xs 0 c (omega arith) ∙ take_all (count c p) xs (omega arith)

pub reduced_form_solves_lem : ReducedFormSolves
reduced_form_solves_lem f w two rows c rank b r d =
    let lead : ℕ → ℕ = d.shape.0 in
    let e : Echelon rows c r rank lead = d.shape.1 in
    let p : ℕ → Bool = free rows r in
    record {
      null = λ x below.
          let v : ℕ → ℕ = λ j. x (count j p) in
          let under : (j : ℕ) → v j < f.q = λ j. below (count j p) in
          d.nulls.back (filled f rows c r x) (solved_below f w rows c r v under) (solved_null f w rows c r rank lead e two v under);
      back = filled_back f w rows c r;
      all = λ v below z j l.
          null_solved f w rows c r rank lead e two v below (d.nulls.there v below z) j l
          ∙ solved_same f w rows c r v (λ h. get_or (gathered c p v) (count h p) 0) (λ h k t. sym (gathered_at p v c h k t)) j l;
    }
