-- The places of a block, and the row operations up to a column.
use Rattle.std.proofs.Common.{◌≡◌, ℕ, suc, ◌+◌, ◌-◌, ◌*◌, ◌/◌, ◌%◌, ◌<◌, ◌≤◌, List, length, get_or, set, take, drop, sym, ap, ◌∙◌, subst, ap₂, length-take-le, length-drop, length-append, ⊎_elim, ◌⊎◌, inl, inr, ◌++◌, suc-mul, arith, rules}
use Rattle.std.proofs.Math.ListN.{get_or-append}
use borrow.Rule.Slice.PartMut.{put_mid}
use Rattle.std.proofs.lemmas.Bool.{cases_eq, cases_lt}
use Rattle.std.proofs.lemmas.List.{places, get_or-set_same, get_or-set_other, get_or-take, get_or-drop, get_or-append-add}
use Rattle.std.proofs.lemmas.Nat.{mul-le, div-mul-add, mod-mul-add}
use Rattle.field.specs.Meaning.{Meaning, Lawful}
use Rattle.algebra.specs.Matrices.{RowIs, Swapped}
use Rattle.reduction.specs.Blocks.{at}

-- row a is t before column k, and all else is as it was
pub record RowTo (rows c : ℕ) (m n : ℕ → ℕ → ℕ) (a : ℕ) (t : ℕ → ℕ) (k : ℕ) : Type 0 where
  pub done : (j : ℕ) → j < k → n a j ≡ t j
  pub rest : (j : ℕ) → k ≤ j → j < c → n a j ≡ m a j
  pub others : (i j : ℕ) → i < rows → j < c → (i ≡ a → ⊥) → n i j ≡ m i j

-- row a ends within the block
pub row_end : (rows c a : ℕ) → a < rows → a * c + c ≤ rows * c
row_end rows c a l = omega (arith, suc-mul a c, mul-le (suc a) c rows c l (omega arith))

module _ (c : ℕ) (xs : List ℕ) (a k x : ℕ) where
  at_set_row : (i j : ℕ) → j < c → k < c → (i ≡ a → ⊥) → at c (set xs (a * c + k) x) i j ≡ at c xs i j
  at_set_row i j lj lk d =
      get_or-set_other xs (a * c + k) (i * c + j) x 0
      (λ e. d (sym (div-mul-add i c j lj) ∙ ap (λ (p : ℕ). p / c) e ∙ div-mul-add a c k lk))

  at_set_column : (i j : ℕ) → j < c → k < c → (j ≡ k → ⊥) → at c (set xs (a * c + k) x) i j ≡ at c xs i j
  at_set_column i j lj lk d =
      get_or-set_other xs (a * c + k) (i * c + j) x 0
      (λ e. d (sym (mod-mul-add i c j lj) ∙ ap (λ (p : ℕ). p % c) e ∙ mod-mul-add a c k lk))

-- what stands k places after the start of row a
at_start : (c : ℕ) (xs : List ℕ) (a k start : ℕ) → start ≡ a * c + 0 → get_or xs (start + k) 0 ≡ at c xs a k
at_start c xs a k start e = let same : start + k ≡ a * c + k = omega arith in ap (λ (p : ℕ). get_or xs p 0) same

module _ (rows c : ℕ) (m : ℕ → ℕ → ℕ) (xs : List ℕ) (sized : length xs ≡ rows * c) where
  row_more : (a : ℕ) (t : ℕ → ℕ) (k x : ℕ) → k < c → a * c + k < length xs → x ≡ t k
      → RowTo rows c m (at c xs) a t k → RowTo rows c m (at c (set xs (a * c + k) x)) a t (k + 1)
  row_more a t k x lk la e r = search (rules, at_set_row, at_set_column)

  -- one more column of row a, which begins at `start`
  row_next : (a : ℕ) (t : ℕ → ℕ) (k x start : ℕ) → a < rows → k < c → start ≡ a * c + 0 → x ≡ t k
      → RowTo rows c m (at c xs) a t k → RowTo rows c m (at c (set xs (start + k) x)) a t (k + 1)
  row_next a t k x start la lk s e r =
      let same : a * c + k ≡ start + k = omega arith in
      subst (λ (p : ℕ). RowTo rows c m (at c (set xs p x)) a t (k + 1)) same
      (row_more a t k x lk (omega (arith, row_end rows c a la)) e r)

  -- of row a with a multiple of row h, which begins at `added`
  pub add_next : (f : Meaning) → Lawful f → (a h by k x y start added : ℕ) → a < rows → h < rows → (h ≡ a → ⊥) → k < c
      → start ≡ a * c + 0 → added ≡ h * c + 0 → x ≡ f.sum (get_or xs (start + k) 0) y → y ≡ f.product (get_or xs (added + k) 0) by
      → RowTo rows c m (at c xs) a (λ j. f.sum (m a j) (f.product by (m h j))) k
      → RowTo rows c m (at c (set xs (start + k) x)) a (λ j. f.sum (m a j) (f.product by (m h j))) (k + 1)
  add_next f w a h by k x y start added la lh d lk s t ex ey r =
      let read : get_or xs (start + k) 0 ≡ m a k = at_start c xs a k start s ∙ r.rest k (omega arith) lk in
      let other : get_or xs (added + k) 0 ≡ m h k = at_start c xs h k added t ∙ r.others h k lh lk d in
      row_next a (λ j. f.sum (m a j) (f.product by (m h j))) k x start la lk s
      (ex ∙ ap₂ f.sum read (ey ∙ w.product_comm (get_or xs (added + k) 0) by ∙ ap (f.product by) other)) r

-- the first n symbols of xs are mapped by t, and the others are as they were
pub record MapTo (t : ℕ → ℕ) (xs ys : List ℕ) (n : ℕ) : Type 0 where
  pub done : (k : ℕ) → k < n → get_or ys k 0 ≡ t (get_or xs k 0)
  pub rest : (k : ℕ) → n ≤ k → get_or ys k 0 ≡ get_or xs k 0

pub map_next : (t : ℕ → ℕ) (xs ys : List ℕ) (n x : ℕ) → n < length ys → x ≡ t (get_or ys n 0) → MapTo t xs ys n
    → MapTo t xs (set ys n x) (n + 1)
map_next t xs ys n x l e m = record {
  done = λ k h.
      ⊎_elim
      (λ (s : k ≡ n).
      subst (λ (k : ℕ). get_or (set ys n x) k 0 ≡ t (get_or xs k 0)) (sym s)
      (get_or-set_same ys n x 0 l ∙ e ∙ ap t (m.rest n (omega arith))))
      (λ (d : k ≡ n → ⊥). get_or-set_other ys n k x 0 d ∙ m.done k (omega arith)) (cases_eq k n);
  rest = λ k h. get_or-set_other ys n k x 0 (λ s. omega arith) ∙ m.rest k (omega arith);
}

-- row a is the n symbols from `start` on
pub row_part : (c : ℕ) (xs : List ℕ) (a start n : ℕ) → start ≡ a * c + 0 → n ≡ c → (j : ℕ) → j < c
    → get_or (take n (drop start xs)) j 0 ≡ at c xs a j
row_part c xs a start n es en j l =
    let same : start + j ≡ a * c + j = omega arith in
    get_or-take n (drop start xs) j 0 (omega arith) ∙ get_or-drop start xs j 0 ∙ ap (λ (p : ℕ). get_or xs p 0) same

pub row_part_long : (rows c : ℕ) (xs : List ℕ) (a start n : ℕ) → length xs ≡ rows * c → a < rows → start ≡ a * c + 0 → n ≡ c
    → length (take n (drop start xs)) ≡ c
row_part_long rows c xs a start n sized la es en =
    length-take-le n (drop start xs) (omega (arith, length-drop start xs, row_end rows c a la)) ∙ en

-- ys in place of row a, whose part of xs is the n symbols from `start` on
module _ (rows c : ℕ) (xs ys : List ℕ) (a start n : ℕ) (sized : length xs ≡ rows * c) (la : a < rows) (es : start ≡ a * c + 0)
    (en : n ≡ c) (ly : length ys ≡ length (take n (drop start xs))) where
  length_part : length ys ≡ n
  length_part = ly ∙ length-take-le n (drop start xs) (omega (arith, length-drop start xs, row_end rows c a la))

  other_row : (i j : ℕ) → i < rows → j < c → (i ≡ a → ⊥) → (i * c + j < start) ⊎ (start + n ≤ i * c + j)
  other_row i j li lj d =
      ⊎_elim (λ (b : i < a). inl (omega (arith, row_end a c i b)))
      (λ (b : a ≤ i). inr (omega (arith, row_end i c a (omega arith)))) (cases_lt i a)

  pub row_put : (t : ℕ → ℕ) → ((j : ℕ) → j < c → get_or ys j 0 ≡ t j) → RowIs rows c (at c xs) (at c (put_mid start n xs ys)) a t
  row_put t e = record {
    here = λ j l.
        let same : a * c + j ≡ start + j = omega arith in
        let put : get_or (put_mid start n xs ys) (start + j) 0 ≡ get_or ys j 0 = search (rules, places, row_end rows c a la, length_part) in
        ap (λ (p : ℕ). get_or (put_mid start n xs ys) p 0) same ∙ put ∙ e j l;
    others = λ i j li lj d.
        let room : start + n ≤ length xs = omega (arith, row_end rows c a la) in
        ⊎_elim
        (λ (b : i * c + j < start). search (rules, places, length_part))
        (λ (b : start + n ≤ i * c + j). search (rules, places, length_part)) (other_row i j li lj d);
  }

-- xs in two parts, u and v: rows a and h, the k symbols of u from `first` on and the first l of v, are exchanged
module _ (rows c : ℕ) (xs u v ys zs : List ℕ) (a h first second k l : ℕ) (sized : length xs ≡ rows * c) (lh : h < rows) (la : a < h)
    (ea : first ≡ a * c + 0) (eh : second ≡ h * c + 0) (ek : k ≡ c) (el : l ≡ c) (parts : xs ≡ u ++ v) (lu : length u ≡ second)
    (ey : ys ≡ take l v) (ez : zs ≡ take k (drop first u)) where
  above : first + k ≤ second
  above = omega (arith, row_end h c a la)

  room : l ≤ length v
  room = omega (arith, row_end rows c h lh, ap length parts, length-append u v)

  length_ys : length ys ≡ l
  length_ys = ap length ey ∙ length-take-le l v room

  length_zs : length zs ≡ k
  length_zs = ap length ez ∙ length-take-le k (drop first u) (omega (arith, length-drop first u, above))

  abbrev front : List ℕ
  front = put_mid first k u ys

  abbrev back : List ℕ
  back = put_mid 0 l v zs

  length_front : length front ≡ second
  length_front = search (rules, places, above, length_ys, ek, el)

  in_back : (x y : List ℕ) → length x ≡ second → (i : ℕ) → get_or (x ++ y) (second + i) 0 ≡ get_or y i 0
  in_back x y e i = ap (λ (p : ℕ). get_or (x ++ y) (p + i) 0) (sym e) ∙ get_or-append-add x y i 0

  in_front : (x y : List ℕ) → length x ≡ second → (i : ℕ) → i < second → get_or (x ++ y) i 0 ≡ get_or x i 0
  in_front x y e i b = get_or-append x y 0 i (omega arith)

  old_front : (i : ℕ) → i < second → get_or u i 0 ≡ get_or xs i 0
  old_front i b = sym (ap (λ (x : List ℕ). get_or x i 0) parts ∙ in_front u v lu i b)

  old_back : (i : ℕ) → get_or v i 0 ≡ get_or xs (second + i) 0
  old_back i = sym (ap (λ (x : List ℕ). get_or x (second + i) 0) parts ∙ in_back u v lu i)

  new_first : (j : ℕ) → j < c → get_or (front ++ back) (first + j) 0 ≡ get_or xs (second + j) 0
  new_first j lj =
      in_front front back length_front (first + j) (omega (arith, above))
      ∙ search (rules, places, above, length_ys) ∙ ap (λ (x : List ℕ). get_or x j 0) ey ∙ search (rules, places) ∙ old_back j

  new_second : (j : ℕ) → j < c → get_or (front ++ back) (second + j) 0 ≡ get_or xs (first + j) 0
  new_second j lj =
      in_back front back length_front j ∙ search (rules, places, length_zs) ∙ ap (λ (x : List ℕ). get_or x j 0) ez
      ∙ search (rules, places, above) ∙ old_front (first + j) (omega (arith, above))

  kept_front : (i : ℕ) → i < second → (i < first) ⊎ (first + k ≤ i) → get_or (front ++ back) i 0 ≡ get_or xs i 0
  kept_front i b o =
      in_front front back length_front i b
      ∙ ⊎_elim (λ (s : i < first). search (rules, places, above, length_ys))
      (λ (s : first + k ≤ i). search (rules, places, above, length_ys, ek, el)) o ∙ old_front i b

  kept_back : (i : ℕ) → l ≤ i → get_or (front ++ back) (second + i) 0 ≡ get_or xs (second + i) 0
  kept_back i o = in_back front back length_front i ∙ search (rules, places, length_zs, ek, el) ∙ old_back i

  -- row i stands before row h where i is less, and after it where i is more
  row_apart : (i j b start m : ℕ) → start ≡ b * c + 0 → m ≡ c → j < c → (i ≡ b → ⊥) → (i * c + j < start) ⊎ (start + m ≤ i * c + j)
  row_apart i j b start m es em lj d =
      ⊎_elim (λ (s : i < b). inl (omega (arith, row_end b c i s)))
      (λ (s : b ≤ i). inr (omega (arith, row_end i c b (omega arith)))) (cases_lt i b)

  pub parts_swapped : Swapped rows c (at c xs) (at c (front ++ back)) a h
  parts_swapped = record {
    first = λ j lj.
        let p : a * c + j ≡ first + j = omega arith in
        let q : second + j ≡ h * c + j = omega arith in
        ap (λ (i : ℕ). get_or (front ++ back) i 0) p ∙ new_first j lj ∙ ap (λ (i : ℕ). get_or xs i 0) q;
    second = λ j lj.
        let p : h * c + j ≡ second + j = omega arith in
        let q : first + j ≡ a * c + j = omega arith in
        ap (λ (i : ℕ). get_or (front ++ back) i 0) p ∙ new_second j lj ∙ ap (λ (i : ℕ). get_or xs i 0) q;
    others = λ i j li lj da dh.
        ⊎_elim (λ (s : i * c + j < second). kept_front (i * c + j) s (row_apart i j a first k ea ek lj da))
        (λ (s : second + l ≤ i * c + j).
        let p : second + (i * c + j - second) ≡ i * c + j = omega arith in
        subst (λ (x : ℕ). get_or (front ++ back) x 0 ≡ get_or xs x 0) p (kept_back (i * c + j - second) (omega arith)))
        (row_apart i j h second l eh el lj dh);
  }
