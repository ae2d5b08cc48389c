-- Message symbols read from the free columns, one after the other.
use Rattle.std.proofs.Common.{◌≡◌, ℕ, suc, ◌+◌, ◌-◌, ◌<◌, ◌≤◌, Bool, true, false, List, [], ◌∷◌, ◌++◌, length, get_or, take, drop, set, sym, ap, ◌∙◌, ap₂, add-one, arith}
use borrow.Rule.Slice.PartMut.{put_mid, post_of}
use Rattle.std.proofs.lemmas.List.{append_assoc, append-nil, set_at, take_at, drop_at, drop-drop, drop_more, drop_all, length-drop}
use Rattle.std.proofs.lemmas.Bool.{cond-true, cond-false}
use Rattle.algebra.specs.Matrices.{count}
use Rattle.algebra.specs.Solutions.{gathered, offset, collected}
use Rattle.algebra.proofs.Counts.{count_true, count_false}
use Rattle.algebra.proofs.Gathers.{count_below, gathered_length, offset_grows, collected_length}

-- the front of a buffer holds the symbols of the free columns below j, and the rest is as it was
abbrev pub ReadTo : (ℕ → Bool) → (ℕ → ℕ) → List ℕ → List ℕ → ℕ → ℕ → Type 0
ReadTo p v before after j k = (k ≡ count j p) × (after ≡ gathered j p v ++ drop (count j p) before)

module _ (p : ℕ → Bool) (v : ℕ → ℕ) (before after : List ℕ) (j k : ℕ) (r : ReadTo p v before after j k) where
  pub read_free_lem : (k' : ℕ) → p j ≡ true → k < length before → k' ≡ k + 1 → ReadTo p v before (set after k (v j)) (j + 1) k'
  read_free_lem k' t room e =
      let more : count (j + 1) p ≡ k + 1 = ap (λ (n : ℕ). count n p) (add-one j) ∙ count_true p j t ∙ sym (add-one (count j p)) ∙ ap (λ (n : ℕ). n + 1) (sym r.0) in
      let split : after ≡ gathered j p v ++ (get_or before k 0 ∷ drop (k + 1) before) =
      r.1 ∙ ap (λ (xs : List ℕ). gathered j p v ++ xs) (ap (λ (n : ℕ). drop n before) (sym r.0) ∙ drop_more before k 0 room) in (
        e ∙ sym more,
        ap (λ (xs : List ℕ). set xs k (v j)) split
            ∙ set_at (gathered j p v) (get_or before k 0) (drop (k + 1) before) (v j) k (gathered_length p v j ∙ sym r.0)
            ∙ sym (append_assoc (gathered j p v) (v j ∷ []) (drop (k + 1) before))
            ∙ ap₂ (λ (xs ys : List ℕ). xs ++ ys)
            (ap (λ (xs : List ℕ). gathered j p v ++ xs) (sym (cond-true (p j) (v j ∷ []) [] t)) ∙ ap (λ (n : ℕ). gathered n p v) (sym (add-one j)))
            (ap (λ (n : ℕ). drop n before) (sym more)),
      )

  pub read_taken : (k' : ℕ) → p j ≡ false → k' ≡ k → ReadTo p v before after (j + 1) k'
  read_taken k' t e =
      let same : count (j + 1) p ≡ count j p = ap (λ (n : ℕ). count n p) (add-one j) ∙ count_false p j t in (
        e ∙ r.0 ∙ sym same,
        r.1
            ∙ ap₂ (λ (xs ys : List ℕ). xs ++ ys)
            (sym (append-nil (gathered j p v)) ∙ ap (λ (xs : List ℕ). gathered j p v ++ xs) (sym (cond-false (p j) (v j ∷ []) [] t))
            ∙ ap (λ (n : ℕ). gathered n p v) (sym (add-one j)))
            (ap (λ (n : ℕ). drop n before) (sym same)),
      )

-- there is room for the symbol of the next free column
pub read_room : (n j k room : ℕ) (p : ℕ → Bool) → j < n → p j ≡ true → k ≡ count j p → count n p ≤ room → k < room
read_room n j k room p l t ek s = omega (arith, count_below p j n l t)

-- the front of a buffer holds what was read from the blocks before t, and the rest is as it was
abbrev pub CollectedTo : ℕ → (ℕ → ℕ → Bool) → (ℕ → ℕ → ℕ) → List ℕ → List ℕ → ℕ → ℕ → Type 0
CollectedTo c p v before after t first = (first ≡ offset c p t) × (after ≡ collected c p v t ++ drop (offset c p t) before)

-- one block more
module _ (c : ℕ) (p : ℕ → ℕ → Bool) (v : ℕ → ℕ → ℕ) (before out : List ℕ) (t first : ℕ) (h : CollectedTo c p v before out t first) where
  pub collect_room : (e room : ℕ) → t < e → offset c p e ≤ room → first + count c (p t) ≤ room
  collect_room e room l s = omega (arith, h.0, offset_grows c p (suc t) e l)

  front : take first out ≡ collected c p v t
  front = ap (take first) h.1 ∙ take_at (collected c p v t) (drop (offset c p t) before) first (collected_length c p v t ∙ sym h.0)

  rest : drop first out ≡ drop (offset c p t) before
  rest = ap (drop first) h.1 ∙ drop_at (collected c p v t) (drop (offset c p t) before) first (collected_length c p v t ∙ sym h.0)

  pub collect_more : (k : ℕ) (part ys : List ℕ) → part ≡ drop first out → first ≤ length out
      → (k ≡ count c (p t)) × (ys ≡ gathered c (p t) (v t) ++ drop k part)
      → CollectedTo c p v before (put_mid first (length out - first) out ys) (t + 1) (first + k)
  collect_more k part ys ep l r =
      let more : offset c p (t + 1) ≡ offset c p t + k = ap (offset c p) (add-one t) ∙ ap (λ (n : ℕ). offset c p t + n) (sym r.0) in
      let none : post_of first (length out - first) out ≡ [] =
      drop_all (length out - first) (drop first out) (omega (arith, length-drop first out)) in (
        ap (λ (n : ℕ). n + k) h.0 ∙ sym more,
        ap₂ (λ (xs ys : List ℕ). xs ++ ys) front
            (ap (λ (xs : List ℕ). ys ++ xs) none ∙ append-nil ys ∙ r.1
            ∙ ap (λ (xs : List ℕ). gathered c (p t) (v t) ++ xs)
            (ap (drop k) (ep ∙ rest) ∙ drop-drop k (offset c p t) before ∙ ap (λ (n : ℕ). drop n before) (sym more)))
            ∙ sym (append_assoc (collected c p v t) (gathered c (p t) (v t)) (drop (offset c p (t + 1)) before))
            ∙ ap (λ (xs : List ℕ). xs ++ drop (offset c p (t + 1)) before) (ap (collected c p v) (sym (add-one t))),
      )
