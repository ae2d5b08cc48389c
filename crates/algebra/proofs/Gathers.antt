-- The entries in chosen columns, as a list: its length, what stands where, and the way back.
use Rattle.std.proofs.Common.{◌≡◌, ℕ, zero, suc, ◌+◌, ◌-◌, ◌<◌, ◌≤◌, Bool, true, false, cond, List, [], ◌∷◌, ◌++◌, length, get_or, take, drop, sym, refl, ap, ◌∙◌, subst, ap₂, ⊎_elim, add-one, arith, take-add}
use Rattle.std.proofs.lemmas.List.{append-nil, length-append, length_push, length-drop, get_or_append_left, get_or-append_right, get_or-append-add, get_or_push, get_or-drop, take_more}
use Rattle.std.proofs.lemmas.Bool.{cond-true, cond-false, cond_both, cases_lt, cases_Bool}
use Rattle.algebra.specs.Matrices.{count}
use Rattle.algebra.specs.Solutions.{gathered, offset, collected}
use Rattle.algebra.proofs.Counts.{count_true, count_false}

pub cond_where : {A : Type 0} (b : Bool) (x y z : A) → (b ≡ true → x ≡ y) → cond b x z ≡ cond b y z
cond_where true x y z h = h refl
cond_where false x y z h = refl

getD_append_below : (q : ℕ) (xs ys : List ℕ) → ((k : ℕ) → get_or xs k 0 < q) → ((k : ℕ) → get_or ys k 0 < q)
    → (k : ℕ) → get_or (xs ++ ys) k 0 < q
getD_append_below q xs ys hx hy k =
    ⊎_elim (λ (l : k < length xs). omega (arith, get_or_append_left xs ys 0 k l, hx k))
    (λ (l : length xs ≤ k). omega (arith, get_or-append_right xs ys (length xs) k 0 refl l, hy (k - length xs)))
    (cases_lt k (length xs))

getD_one_below : (q x : ℕ) → 0 < q → x < q → (k : ℕ) → get_or (x ∷ []) k 0 < q
getD_one_below q x pos h zero = h
getD_one_below q x pos h (suc k) = pos

-- The entries of one block.
module _ (p : ℕ → Bool) where
  count_grows : (n k : ℕ) → n ≤ k → count n p ≤ count k p
  count_grows n zero l = let e : n ≡ 0 = omega arith in omega (arith, ap (λ (x : ℕ). count x p) e)
  count_grows n (suc k) l =
      ⊎_elim (λ (s : n < suc k).
      let h : count n p ≤ count k p = count_grows n k (omega arith) in
      ⊎_elim (λ (t : p k ≡ true). omega (arith, count_true p k t)) (λ (t : p k ≡ false). omega (arith, count_false p k t))
      (cases_Bool (p k)))
      (λ (s : suc k ≤ n). let e : n ≡ suc k = omega arith in omega (arith, ap (λ (x : ℕ). count x p) e)) (cases_lt n (suc k))

  pub count_below : (n k : ℕ) → n < k → p n ≡ true → count n p < count k p
  count_below n k l t = omega (arith, count_grows (suc n) k l, count_true p n t)

  module _ (v : ℕ → ℕ) where
    gathered_true : (c : ℕ) → p c ≡ true → gathered (suc c) p v ≡ gathered c p v ++ v c ∷ []
    gathered_true c t = ap (λ (r : List ℕ). gathered c p v ++ r) (cond-true (p c) (v c ∷ []) [] t)

    gathered_false : (c : ℕ) → p c ≡ false → gathered (suc c) p v ≡ gathered c p v
    gathered_false c t =
        ap (λ (r : List ℕ). gathered c p v ++ r) (cond-false (p c) (v c ∷ []) [] t) ∙ append-nil (gathered c p v)

    pub gathered_length : (c : ℕ) → length (gathered c p v) ≡ count c p
    gathered_length zero = refl
    gathered_length (suc c) =
        ⊎_elim (λ (t : p c ≡ true).
        ap length (gathered_true c t) ∙ length_push (gathered c p v) (v c)
        ∙ omega (arith, gathered_length c, count_true p c t))
        (λ (t : p c ≡ false). ap length (gathered_false c t) ∙ gathered_length c ∙ sym (count_false p c t)) (cases_Bool (p c))

    pub gathered_at : (c j : ℕ) → j < c → p j ≡ true → get_or (gathered c p v) (count j p) 0 ≡ v j
    gathered_at zero j l t = absurd (omega arith)
    gathered_at (suc c) j l t =
        ⊎_elim (λ (s : j < c).
        get_or_append_left (gathered c p v) (cond (p c) (v c ∷ []) []) 0 (count j p)
        (omega (arith, gathered_length c, count_below j c s t))
        ∙ gathered_at c j s t)
        (λ (s : c ≤ j).
        let e : j ≡ c = omega arith in
        ap (λ (x : ℕ). get_or (gathered (suc c) p v) (count x p) 0) e
        ∙ ap (λ (r : List ℕ). get_or r (count c p) 0) (gathered_true c (ap p (sym e) ∙ t))
        ∙ get_or_push (gathered c p v) (v c) 0 (count c p) (gathered_length c) ∙ ap v (sym e))
        (cases_lt j c)

    pub gathered_below : (q : ℕ) → 0 < q → (c : ℕ) → ((j : ℕ) → j < c → p j ≡ true → v j < q)
        → (k : ℕ) → get_or (gathered c p v) k 0 < q
    gathered_below q pos zero h k = pos
    gathered_below q pos (suc c) h k =
        getD_append_below q (gathered c p v) (cond (p c) (v c ∷ []) [])
        (gathered_below q pos c (λ j l t. h j (omega arith) t))
        (cond_both (p c) (v c ∷ []) [] (λ (r : List ℕ). (i : ℕ) → get_or r i 0 < q)
        (λ t. getD_one_below q (v c) pos (h c (omega arith) t)) (λ t i. pos)) k

  pub gathered_same : (u v : ℕ → ℕ) (c : ℕ) → ((j : ℕ) → j < c → p j ≡ true → u j ≡ v j) → gathered c p u ≡ gathered c p v
  gathered_same u v zero h = refl
  gathered_same u v (suc c) h =
      ap₂ ◌++◌ (gathered_same u v c (λ j l t. h j (omega arith) t))
      (cond_where (p c) (u c ∷ []) (v c ∷ []) [] (λ t. ap (λ (x : ℕ). x ∷ []) (h c (omega arith) t)))

  -- what is placed from entry s of a list on is read back as that part of the list
  pub gathered_back : (xs : List ℕ) (s c : ℕ) → s + count c p ≤ length xs
      → gathered c p (λ j. get_or xs (s + count j p) 0) ≡ take (count c p) (drop s xs)
  gathered_back xs s zero h = refl
  gathered_back xs s (suc c) h =
      let v : ℕ → ℕ = λ j. get_or xs (s + count j p) 0 in
      let n : ℕ = count c p in
      ⊎_elim (λ (t : p c ≡ true).
      let more : count (suc c) p ≡ suc n = count_true p c t in
      gathered_true v c t
      ∙ ap₂ (λ (r : List ℕ) (x : ℕ). r ++ x ∷ []) (gathered_back xs s c (omega arith)) (sym (get_or-drop s xs n 0))
      ∙ sym (take_more (drop s xs) n 0 (omega (arith, length-drop s xs)))
      ∙ ap (λ (k : ℕ). take k (drop s xs)) (add-one n ∙ sym more))
      (λ (t : p c ≡ false).
      let same : count (suc c) p ≡ n = count_false p c t in
      gathered_false v c t ∙ gathered_back xs s c (omega arith) ∙ ap (λ (k : ℕ). take k (drop s xs)) (sym same))
      (cases_Bool (p c))

-- The entries of several blocks.
module _ (c : ℕ) (p : ℕ → ℕ → Bool) where
  pub offset_grows : (t n : ℕ) → t ≤ n → offset c p t ≤ offset c p n
  offset_grows t zero l = let e : t ≡ 0 = omega arith in omega (arith, ap (offset c p) e)
  offset_grows t (suc n) l =
      ⊎_elim (λ (s : t < suc n). omega (arith, offset_grows t n (omega arith)))
      (λ (s : suc n ≤ t). let e : t ≡ suc n = omega arith in omega (arith, ap (offset c p) e)) (cases_lt t (suc n))

  module _ (v : ℕ → ℕ → ℕ) where
    pub collected_length : (n : ℕ) → length (collected c p v n) ≡ offset c p n
    collected_length zero = refl
    collected_length (suc n) =
        length-append (collected c p v n) (gathered c (p n) (v n))
        ∙ ap₂ ◌+◌ (collected_length n) (gathered_length (p n) (v n) c)

    collected_last : (n j : ℕ) → j < c → p n j ≡ true → get_or (collected c p v (suc n)) (offset c p n + count j (p n)) 0 ≡ v n j
    collected_last n j l t =
        ap (λ (x : ℕ). get_or (collected c p v (suc n)) (x + count j (p n)) 0) (sym (collected_length n))
        ∙ get_or-append-add (collected c p v n) (gathered c (p n) (v n)) (count j (p n)) 0 ∙ gathered_at (p n) (v n) c j l t

    pub collected_at : (n t j : ℕ) → t < n → j < c → p t j ≡ true
        → get_or (collected c p v n) (offset c p t + count j (p t)) 0 ≡ v t j
    collected_at zero t j l h y = absurd (omega arith)
    collected_at (suc n) t j l h y =
        ⊎_elim (λ (s : t < n).
        get_or_append_left (collected c p v n) (gathered c (p n) (v n)) 0 (offset c p t + count j (p t))
        (omega (arith, collected_length n, offset_grows (suc t) n s, count_below (p t) j c h y))
        ∙ collected_at n t j s h y)
        (λ (s : n ≤ t).
        let e : n ≡ t = omega arith in
        subst (λ (x : ℕ). p x j ≡ true → get_or (collected c p v (suc n)) (offset c p x + count j (p x)) 0 ≡ v x j) e
        (collected_last n j h) y)
        (cases_lt t n)

    pub collected_below : (q : ℕ) → 0 < q → (n : ℕ) → ((t j : ℕ) → t < n → j < c → p t j ≡ true → v t j < q)
        → (k : ℕ) → get_or (collected c p v n) k 0 < q
    collected_below q pos zero h k = pos
    collected_below q pos (suc n) h k =
        getD_append_below q (collected c p v n) (gathered c (p n) (v n))
        (collected_below q pos n (λ t j l a y. h t j (omega arith) a y))
        (gathered_below (p n) (v n) q pos c (λ j a y. h n j (omega arith) a y)) k

  pub collected_same : (u v : ℕ → ℕ → ℕ) (n : ℕ) → ((t j : ℕ) → t < n → j < c → p t j ≡ true → u t j ≡ v t j)
      → collected c p u n ≡ collected c p v n
  collected_same u v zero h = refl
  collected_same u v (suc n) h =
      ap₂ ◌++◌ (collected_same u v n (λ t j l a y. h t j (omega arith) a y))
      (gathered_same (p n) (u n) (v n) c (λ j a y. h n j (omega arith) a y))

  pub collected_back : (xs : List ℕ) (n : ℕ) → offset c p n ≤ length xs
      → collected c p (λ t j. get_or xs (offset c p t + count j (p t)) 0) n ≡ take (offset c p n) xs
  collected_back xs zero h = refl
  collected_back xs (suc n) h =
      ap₂ ◌++◌ (collected_back xs n (omega arith)) (gathered_back (p n) xs (offset c p n) c (omega arith))
      ∙ sym (take-add (offset c p n) (count c (p n)) xs)
