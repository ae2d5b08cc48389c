-- Null spaces, and the row operations that keep them.
use Rattle.std.proofs.Common.{◌≡◌, ℕ, ◌<◌, sym, refl, ap, ◌∙◌, ⊎_elim}
use Rattle.std.proofs.lemmas.Bool.{cases_eq}
use Rattle.field.specs.Meaning.{Meaning, Lawful}
use Rattle.field.specs.Sums.{total}
use Rattle.algebra.specs.Matrices.{Null, SameNull, Swapped, RowIs, SwapKeepsNull, ScalingKeepsNull, AddingKeepsNull}
use Rattle.algebra.proofs.Powers.{product_zero, zero_from_product}
use Rattle.algebra.proofs.Sums.{sum_zero_right, total_below, total_same, total_sum, total_product}

module _ (f : Meaning) (rows c : ℕ) where
  pub same_null_turn : (a b : ℕ → ℕ → ℕ) → SameNull f rows c a b → SameNull f rows c b a
  same_null_turn a b s = record { there = s.back; back = s.there }

  pub same_null_join : (a b d : ℕ → ℕ → ℕ) → SameNull f rows c a b → SameNull f rows c b d → SameNull f rows c a d
  same_null_join a b d s t = record {
    there = λ v h n. t.there v h (s.there v h n);
    back = λ v h n. s.back v h (t.back v h n);
  }

swapped_turn : (rows c : ℕ) (m n : ℕ → ℕ → ℕ) (a h : ℕ) → Swapped rows c m n a h → Swapped rows c n m a h
swapped_turn rows c m n a h s = record {
  first = λ j l. sym (s.second j l);
  second = λ j l. sym (s.first j l);
  others = λ i j k l x y. sym (s.others i j k l x y);
}

row_turn : (rows c : ℕ) (m n : ℕ → ℕ → ℕ) (a : ℕ) (t : ℕ → ℕ) → RowIs rows c m n a t → RowIs rows c n m a (m a)
row_turn rows c m n a t r = record { here = λ j l. refl; others = λ i j k l x. sym (r.others i j k l x) }

module _ (f : Meaning) (w : Lawful f) where
  -- the product of a row with v
  abbrev dot : ℕ → (ℕ → ℕ) → (ℕ → ℕ) → ℕ
  dot c s v = total f c (λ j. f.product (s j) (v j))

  dot_same : (c : ℕ) (s t v : ℕ → ℕ) → ((j : ℕ) → j < c → s j ≡ t j) → dot c s v ≡ dot c t v
  dot_same c s t v h =
      total_same f w c (λ j. f.product (s j) (v j)) (λ j. f.product (t j) (v j)) (λ j l. ap (λ (x : ℕ). f.product x (v j)) (h j l))

  dot_scaled : (c by : ℕ) (t v : ℕ → ℕ) → dot c (λ j. f.product by (t j)) v ≡ f.product by (dot c t v)
  dot_scaled c by t v =
      total_same f w c (λ j. f.product (f.product by (t j)) (v j)) (λ j. f.product by (f.product (t j) (v j)))
      (λ j l. w.product_assoc by (t j) (v j))
      ∙ total_product f w c by (λ j. f.product (t j) (v j))

  product_sum_right : (a b d : ℕ) → f.product (f.sum a b) d ≡ f.sum (f.product a d) (f.product b d)
  product_sum_right a b d = cc (w.product_comm (f.sum a b) d, w.product_sum d a b, w.product_comm d a, w.product_comm d b)

  dot_added : (c by : ℕ) (s t v : ℕ → ℕ)
      → dot c (λ j. f.sum (s j) (f.product by (t j))) v ≡ f.sum (dot c s v) (f.product by (dot c t v))
  dot_added c by s t v =
      total_same f w c (λ j. f.product (f.sum (s j) (f.product by (t j))) (v j))
      (λ j. f.sum (f.product (s j) (v j)) (f.product (f.product by (t j)) (v j)))
      (λ j l. product_sum_right (s j) (f.product by (t j)) (v j))
      ∙ total_sum f w c (λ j. f.product (s j) (v j)) (λ j. f.product (f.product by (t j)) (v j))
      ∙ ap (f.sum (dot c s v)) (dot_scaled c by t v)

  module _ (rows c : ℕ) where
    null_swapped : (m n : ℕ → ℕ → ℕ) (a h : ℕ) → a < rows → h < rows → Swapped rows c m n a h
        → (v : ℕ → ℕ) → Null f rows c m v → Null f rows c n v
    null_swapped m n a h la lh s v z i l =
        ⊎_elim (λ (x : i ≡ a).
        ap (λ (y : ℕ). dot c (n y) v) x ∙ dot_same c (n a) (m h) v s.first ∙ z h lh)
        (λ (x : i ≡ a → ⊥).
        ⊎_elim (λ (y : i ≡ h). ap (λ (k : ℕ). dot c (n k) v) y ∙ dot_same c (n h) (m a) v s.second ∙ z a la)
        (λ (y : i ≡ h → ⊥). dot_same c (n i) (m i) v (λ j k. s.others i j l k x y) ∙ z i l) (cases_eq i h)) (cases_eq i a)

    -- with one row changed, that row is all there is to see to
    null_row : (m n : ℕ → ℕ → ℕ) (a : ℕ) (t : ℕ → ℕ) → RowIs rows c m n a t
        → (v : ℕ → ℕ) → dot c t v ≡ 0 → Null f rows c m v → Null f rows c n v
    null_row m n a t r v e z i l =
        ⊎_elim (λ (x : i ≡ a). ap (λ (y : ℕ). dot c (n y) v) x ∙ dot_same c (n a) t v r.here ∙ e)
        (λ (x : i ≡ a → ⊥). dot_same c (n i) (m i) v (λ j k. r.others i j l k x) ∙ z i l) (cases_eq i a)

pub swap_keeps_null_lem : SwapKeepsNull
swap_keeps_null_lem f w rows c a h m n la lh s = record {
  there = λ v below z. null_swapped f w rows c m n a h la lh s v z;
  back = λ v below z. null_swapped f w rows c n m a h la lh (swapped_turn rows c m n a h s) v z;
}

pub scaling_keeps_null_lem : ScalingKeepsNull
scaling_keeps_null_lem f w rows c a by m n la lo hi r =
    let t : ℕ → ℕ = λ j. f.product by (m a j) in
    record {
      there = λ v below z.
          null_row f w rows c m n a t r v (dot_scaled f w c by (m a) v ∙ ap (f.product by) (z a la) ∙ product_zero f w by) z;
      back = λ v below z.
          null_row f w rows c n m a (m a) (row_turn rows c m n a t r) v
          (zero_from_product f w by (dot f w c (m a) v) lo hi (total_below f w c (λ j. f.product (m a j) (v j)))
          (sym (dot_scaled f w c by (m a) v) ∙ sym (dot_same f w c (n a) t v r.here) ∙ z a la)) z;
    }

pub adding_keeps_null_lem : AddingKeepsNull
adding_keeps_null_lem f w rows c a h by m n la lh apart r =
    let t : ℕ → ℕ = λ j. f.sum (m a j) (f.product by (m h j)) in
    -- where row h sends v to 0, both rows a agree
    let same : (v : ℕ → ℕ) → dot f w c (m h) v ≡ 0 → dot f w c t v ≡ dot f w c (m a) v =
    λ v z. dot_added f w c by (m a) (m h) v
    ∙ ap (f.sum (dot f w c (m a) v)) (ap (f.product by) z ∙ product_zero f w by)
    ∙ sum_zero_right f w (dot f w c (m a) v) (total_below f w c (λ j. f.product (m a j) (v j))) in
    record {
      there = λ v below z. null_row f w rows c m n a t r v (same v (z h lh) ∙ z a la) z;
      back = λ v below z.
          null_row f w rows c n m a (m a) (row_turn rows c m n a t r) v
          (sym (same v (sym (dot_same f w c (n h) (m h) v (λ j l. r.others h j lh l apart)) ∙ z h lh))
          ∙ sym (dot_same f w c (n a) t v r.here) ∙ z a la) z;
    }
