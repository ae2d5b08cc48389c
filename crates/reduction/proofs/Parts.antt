-- A block inside a longer list of symbols, at the places from `start` on: for a caller that reduces one of many blocks.
use Rattle.std.proofs.Common.{◌≡◌, ℕ, ◌+◌, ◌*◌, ◌<◌, ◌≤◌, List, length, get_or, take, drop, Some, None, Option, sym, refl, ap, ◌∙◌, subst, arith, rules}
use borrow.Rule.Slice.PartMut.{put_mid}
use Rattle.std.proofs.lemmas.List.{places, get_or-take, get_or-drop}
use Rattle.field.specs.Meaning.{Meaning, Lawful}
use Rattle.algebra.specs.Matrices.{SameNull, Echelon, Reduced}
use Rattle.algebra.proofs.Sums.{total_same}
use Rattle.algebra.proofs.Nulls.{same_null_join}
use Rattle.reduction.specs.Blocks.{at, Block, Outcome}
use Rattle.reduction.proofs.Places.{row_end}

-- a block is reduced
pub outcome_reduced : (f : Meaning) (rows c : ℕ) (xs ys : List ℕ) (r : Option ℕ) → Outcome f rows c xs ys r → Block f.q rows c xs
    → (rank : ℕ) × (r ≡ Some rank) × Reduced f rows c (at c xs) (at c ys) rank
outcome_reduced f rows c xs ys (Some rank) o b = (rank, refl, o.1)
outcome_reduced f rows c xs ys None o b = absurd (o.0 b)

-- matrices that agree in range
module _ (f : Meaning) (w : Lawful f) (rows c : ℕ) where
  same_null : (a b : ℕ → ℕ → ℕ) → ((i j : ℕ) → i < rows → j < c → a i j ≡ b i j) → SameNull f rows c a b
  same_null a b e = record {
    there = λ v h z i l.
        total_same f w c (λ j. f.product (b i j) (v j)) (λ j. f.product (a i j) (v j))
        (λ j lj. ap (λ (x : ℕ). f.product x (v j)) (sym (e i j l lj))) ∙ z i l;
    back = λ v h z i l.
        total_same f w c (λ j. f.product (a i j) (v j)) (λ j. f.product (b i j) (v j))
        (λ j lj. ap (λ (x : ℕ). f.product x (v j)) (e i j l lj)) ∙ z i l;
  }

  echelon_same : (r s : ℕ → ℕ → ℕ) (rank : ℕ) (lead : ℕ → ℕ) → ((i j : ℕ) → i < rows → j < c → s i j ≡ r i j)
      → Echelon rows c r rank lead → Echelon rows c s rank lead
  echelon_same r s rank lead e x = record {
    within = x.within;
    column = x.column;
    rising = x.rising;
    one = λ i l. e i (lead i) (omega (arith, x.within)) (x.column i l) ∙ x.one i l;
    before = λ i j l h. e i j (omega (arith, x.within)) (omega (arith, x.column i l)) ∙ x.before i j l h;
    alone = λ h i lh l d. e h (lead i) lh (x.column i l) ∙ x.alone h i lh l d;
    zeros = λ i j a l h. e i j l h ∙ x.zeros i j a l h;
  }

  pub reduced_same : (b b' r r' : ℕ → ℕ → ℕ) (rank : ℕ) → ((i j : ℕ) → i < rows → j < c → b' i j ≡ b i j)
      → ((i j : ℕ) → i < rows → j < c → r' i j ≡ r i j) → Reduced f rows c b r rank → Reduced f rows c b' r' rank
  reduced_same b b' r r' rank eb er x = record {
    symbols = λ i j l h. subst (λ (y : ℕ). y < f.q) (sym (er i j l h)) (x.symbols i j l h);
    shape = (x.shape.0, echelon_same r r' rank x.shape.0 er x.shape.1);
    nulls =
        same_null_join f rows c b' b r' (same_null b' b eb)
        (same_null_join f rows c b r r' x.nulls (same_null r r' (λ i j l h. sym (er i j l h))));
  }

-- the n symbols of xs from `start` on, which become ys
module _ (f : Meaning) (w : Lawful f) (rows c start n : ℕ) (xs ys : List ℕ) (whole : n ≡ rows * c) (within : start + n ≤ length xs)
    (kept : length ys ≡ length (take n (drop start xs))) where
  part_length : length (take n (drop start xs)) ≡ n
  part_length = search (rules, places)

  part_at : (k : ℕ) → k < n → get_or (take n (drop start xs)) k 0 ≡ get_or xs (start + k) 0
  part_at k l = get_or-take n (drop start xs) k 0 l ∙ get_or-drop start xs k 0

  put_at : (k : ℕ) → k < n → get_or (put_mid start n xs ys) (start + k) 0 ≡ get_or ys k 0
  put_at k l = search (rules, places, part_length)

  place_below : (i j : ℕ) → i < rows → j < c → i * c + j < n
  place_below i j li lj = omega (arith, row_end rows c i li)

  pub part_block : ((k : ℕ) → k < n → get_or xs (start + k) 0 < f.q) → Block f.q rows c (take n (drop start xs))
  part_block s = record {
    sized = part_length ∙ whole;
    symbols = λ k l.
        let here : k < n = omega (arith, part_length) in
        subst (λ (x : ℕ). x < f.q) (sym (part_at k here)) (s k here);
  }

  -- the block in its list is reduced
  pub part_reduced : (rank : ℕ) → Reduced f rows c (at c (take n (drop start xs))) (at c ys) rank
      → Reduced f rows c (λ i j. get_or xs (start + (i * c + j)) 0) (λ i j. get_or (put_mid start n xs ys) (start + (i * c + j)) 0) rank
  part_reduced rank x =
      reduced_same f w rows c (at c (take n (drop start xs))) (λ i j. get_or xs (start + (i * c + j)) 0) (at c ys)
      (λ i j. get_or (put_mid start n xs ys) (start + (i * c + j)) 0) rank
      (λ i j li lj. sym (part_at (i * c + j) (place_below i j li lj))) (λ i j li lj. put_at (i * c + j) (place_below i j li lj)) x

  -- the symbols after the block stay
  pub put_after : (k : ℕ) → start + n ≤ k → get_or (put_mid start n xs ys) k 0 ≡ get_or xs k 0
  put_after k l = search (rules, places, part_length)
