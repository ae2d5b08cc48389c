-- A slice written in two parts, and a column read from the middle on and around the end.
use Rattle.std.proofs.Common.{◌≡◌, ℕ, suc, ◌+◌, ◌-◌, ◌*◌, ◌/◌, ◌%◌, ◌<◌, ◌≤◌, List, ◌++◌, length, get_or, take, drop, sym, ap, ◌∙◌, ap₂, ⊎_elim, mod-lt, suc-mul, div-add-mod', arith, rules}
use borrow.Rule.Slice.PartMut.{put_mid, post_of}
use Rattle.std.proofs.lemmas.Nat.{mod-mul-add}
use Rattle.std.proofs.lemmas.List.{places}
use Rattle.std.proofs.lemmas.Bool.{cases_lt}

-- (shift + s) mod e, before and after the end of the column
pub turned_front : (shift e s : ℕ) → s < e - shift % e → (shift + s) % e ≡ shift % e + s
turned_front shift e s h =
    let d : shift / e * e + shift % e ≡ shift = div-add-mod' shift e in
    let l : shift + s ≡ shift / e * e + (shift % e + s) = omega arith in
    ap (λ (n : ℕ). n % e) l ∙ mod-mul-add (shift / e) e (shift % e + s) (omega arith)

pub turned_back : (shift e s : ℕ) → e - shift % e ≤ s → s < e → (shift + s) % e ≡ s - (e - shift % e)
turned_back shift e s h g =
    let p : 0 < e = omega arith in
    let r : shift % e < e = mod-lt shift p in
    let d : shift / e * e + shift % e ≡ shift = div-add-mod' shift e in
    let m : suc (shift / e) * e ≡ shift / e * e + e = suc-mul (shift / e) e in
    let l : shift + s ≡ suc (shift / e) * e + (s - (e - shift % e)) = omega arith in
    ap (λ (n : ℕ). n % e) l ∙ mod-mul-add (suc (shift / e)) e (s - (e - shift % e)) (omega arith)

-- the n elements from `start` on
pub part_length : (start n : ℕ) (xs : List ℕ) → start + n ≤ length xs → length (take (start + n - start) (drop start xs)) ≡ n
part_length start n xs h = search (rules, places)

-- part j of a list that is cut into parts of n
pub part_at : {X : Type 0} (xs : List X) (n j : ℕ) (ys : List X) (d : X) → ys ≡ take n (drop (j * n) xs)
    → (l : ℕ) → l < n → get_or ys l d ≡ get_or xs (j * n + l) d
part_at xs n j ys d e l h = rw e (search (rules, places))

-- a list of n elements, written as its first m elements and then the rest
module _ (n m : ℕ) (xs front back : List ℕ) (lx : length xs ≡ n) (h : m ≤ n) (lf : length front ≡ m) (lb : length back ≡ n - m) where
  pub front_read : (s : ℕ) → s < m → get_or (put_mid m (n - m) (front ++ post_of 0 (m - 0) xs) back) s 0 ≡ get_or front s 0
  front_read s l = search (rules, places)

  pub back_read : (s : ℕ) → m ≤ s → s < n → get_or (put_mid m (n - m) (front ++ post_of 0 (m - 0) xs) back) s 0 ≡ get_or back (s - m) 0
  back_read s l g = search (rules, places)

-- a term added in two parts: the column from `first` on, and then its start
module _ (sum product : ℕ → ℕ → ℕ) (n first m shift by : ℕ) (xs column front back : List ℕ)
    (some : 0 < n) (first-is : first ≡ shift % n) (m-is : m ≡ n - first) (lx : length xs ≡ n) (lc : length column ≡ n)
    (lf : length front ≡ length (take (m - 0) xs))
    (lb : length back ≡ length (take (n - m) (drop m (front ++ post_of 0 (m - 0) xs))))
    (one : (s : ℕ) → s < length (take m (drop first column))
    → get_or front s 0 ≡ sum (get_or (take (m - 0) xs) s 0) (product by (get_or (take m (drop first column)) s 0)))
    (two : (s : ℕ) → s < length (take (first - 0) column)
    → get_or back s 0 ≡ sum (get_or (take (n - m) (drop m (front ++ post_of 0 (m - 0) xs))) s 0) (product by (get_or (take (first - 0) column) s 0)))
  where
    first_lt : first < n
    first_lt = omega (arith, mod-lt shift some)

    m_le : m ≤ n
    m_le = omega arith

    front_length : length front ≡ m
    front_length = lf ∙ search (rules, places)

    back_length : length back ≡ n - m
    back_length = lb ∙ search (rules, places, front_length)

    pub term_added : (s : ℕ) → s < n
        → get_or (put_mid m (n - m) (front ++ post_of 0 (m - 0) xs) back) s 0 ≡ sum (get_or xs s 0) (product by (get_or column ((shift + s) % n) 0))
    term_added s h =
        ⊎_elim
        (λ (l : s < m).
        let t : (shift + s) % n ≡ first + s = turned_front shift n s (omega arith) ∙ ap (λ (x : ℕ). x + s) (sym first-is) in
        let u : s < length (take m (drop first column)) = search (rules, places, first_lt) in
        let v : get_or (take (m - 0) xs) s 0 ≡ get_or xs s 0 = search (rules, places) in
        let w : get_or (take m (drop first column)) s 0 ≡ get_or column (first + s) 0 = search (rules, places) in
        front_read n m xs front back lx m_le front_length back_length s l ∙ one s u
        ∙ ap₂ sum v (ap (product by) (w ∙ ap (λ (x : ℕ). get_or column x 0) (sym t))))
        (λ (l : m ≤ s).
        let t : (shift + s) % n ≡ s - m = turned_back shift n s (omega arith) h ∙ omega arith in
        let u : s - m < length (take (first - 0) column) = search (rules, places, first_lt) in
        let v : get_or (take (n - m) (drop m (front ++ post_of 0 (m - 0) xs))) (s - m) 0 ≡ get_or xs s 0 = search (rules, places, front_length) in
        let w : get_or (take (first - 0) column) (s - m) 0 ≡ get_or column (s - m) 0 = search (rules, places) in
        back_read n m xs front back lx m_le front_length back_length s l h ∙ two (s - m) u
        ∙ ap₂ sum v (ap (product by) (w ∙ ap (λ (x : ℕ). get_or column x 0) (sym t))))
        (cases_lt s m)
