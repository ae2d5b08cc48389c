-- The check blocks are those of the array, and are reduced one after the other.
use Rattle.std.proofs.Common.{◌≡◌, ℕ, suc, ◌+◌, ◌*◌, ◌%◌, ◌<◌, ◌≤◌, List, length, get_or, take, drop, Option, sym, refl, ◌∙◌, subst, ⊎_elim, suc-mul, mul_comm, add-mul, arith}
use borrow.Rule.Slice.PartMut.{put_mid}
use Rattle.std.proofs.lemmas.Nat.{mul-add-lt, mul-le}
use Rattle.std.proofs.lemmas.Bool.{cases_eq}
use Rattle.field.specs.Meaning.{Meaning, Lawful, power}
use Rattle.algebra.specs.Matrices.{Reduced}
use Rattle.algebra.specs.Transforms.{root, check_block}
use Rattle.algebra.proofs.Generators.{generator_by_terms}
use Rattle.algebra.proofs.Sums.{total_below}
use Rattle.reduction.specs.Blocks.{Outcome}
use Rattle.reduction.proofs.Parts.{outcome_reduced, reduced_same, part_block, part_reduced, put_after}
use Rattle.array.specs.declared.plain.CellRow.{CellRow}
use Rattle.array.specs.Buffers.{blank, cell_at}
use Rattle.array.specs.Cells.{no_term, terms_of}
use Rattle.blocks.specs.Blocks.{circulant, block_at, Built, Holds}

-- place k of a block is in range
pub place_lt : (rows columns i j : ℕ) → i < rows → j < columns → i * columns + j < rows * columns
place_lt rows columns i j h g = omega (arith, mul-add-lt i columns j rows h g, mul_comm columns rows)

module _ (f : Meaning) (w : Lawful f) (rows columns e : ℕ) (cells : List CellRow) (before after : List ℕ) (some : 0 < e)
    (a : Built f (rows * columns) e cells before after) where
  -- an entry of a check block is the cell's terms at that frequency
  pub entry_is : (t i j : ℕ) → t < e → i < rows → j < columns
      → check_block f e (circulant f e columns cells) t i j ≡ block_at rows columns after t i j
  entry_is t i j l h g =
      let ts = terms_of (cell_at columns cells i j) in
      generator_by_terms f w e some (length ts) (λ k. (get_or ts k no_term).shift) (λ k. (get_or ts k no_term).coefficient) (λ l. power f (root f e) (l * t))
      ∙ sym (a.entry t (i * columns + j) l (place_lt rows columns i j h g))

  pub entry_below : (t k : ℕ) → t < e → k < rows * columns → get_or after (t * (rows * columns) + k) 0 < f.q
  entry_below t k l h =
      let ts = terms_of (get_or cells k blank) in
      subst (λ (x : ℕ). x < f.q) (sym (a.entry t k l h))
      (total_below f w (length ts) (λ i. f.product (get_or ts i no_term).coefficient (power f (root f e) (((get_or ts i no_term).shift % e) * t))))

-- the blocks below n are reduced, the others are as they were, and so is what lies past them
pub record ReducedTo (f : Meaning) (rows columns e : ℕ) (before after : List ℕ) (n : ℕ) : Type 0 where
  pub done : (t : ℕ) → t < n → (rank : ℕ) × Reduced f rows columns (block_at rows columns before t) (block_at rows columns after t) rank
  pub rest : (k : ℕ) → n * (rows * columns) ≤ k → get_or after k 0 ≡ get_or before k 0

module _ (f : Meaning) (w : Lawful f) (rows columns e n : ℕ) (before mid after : List ℕ) (a : ReducedTo f rows columns e before mid n)
    (r : (rank : ℕ) × Reduced f rows columns (block_at rows columns mid n) (block_at rows columns after n) rank)
    (b : (k : ℕ) → k < n * (rows * columns) → get_or after k 0 ≡ get_or mid k 0)
    (p : (k : ℕ) → (n + 1) * (rows * columns) ≤ k → get_or after k 0 ≡ get_or mid k 0) where
  -- block t lies before block n where t < n
  earlier : (t i j : ℕ) → t < n → i < rows → j < columns → t * (rows * columns) + (i * columns + j) < n * (rows * columns)
  earlier t i j l h g =
      omega (arith, place_lt rows columns i j h g, suc-mul t (rows * columns), mul-le (suc t) (rows * columns) n (rows * columns) l (omega arith))

  pub reduced_more : ReducedTo f rows columns e before after (n + 1)
  reduced_more = record {
    done = λ t l.
        ⊎_elim
        (λ (s : t ≡ n).
        subst (λ (t : ℕ). (rank : ℕ) × Reduced f rows columns (block_at rows columns before t) (block_at rows columns after t) rank) (sym s) (
          r.0,
          reduced_same f w rows columns (block_at rows columns mid n) (block_at rows columns before n) (block_at rows columns after n)
              (block_at rows columns after n) r.0
              (λ i j h g. sym (a.rest (n * (rows * columns) + (i * columns + j)) (omega arith))) (λ i j h g. refl) r.1,
        ))
        (λ (ne : t ≡ n → ⊥).
        let d = a.done t (omega arith) in (
          d.0,
          reduced_same f w rows columns (block_at rows columns before t) (block_at rows columns before t) (block_at rows columns mid t)
              (block_at rows columns after t) d.0 (λ i j h g. refl)
              (λ i j h g. b (t * (rows * columns) + (i * columns + j)) (earlier t i j (omega arith) h g)) d.1,
        )) (cases_eq t n);
    rest = λ k l. p k l ∙ a.rest k (omega (arith, add-mul n 1 (rows * columns)));
  }

-- all blocks: the buffer holds the echelon forms of the array
pub all_held : (f : Meaning) → Lawful f → (rows columns e : ℕ) (cells : List CellRow) (before mid after : List ℕ) (n : ℕ) → 0 < e → e ≤ n
    → Built f (rows * columns) e cells before mid → ReducedTo f rows columns e mid after n → Holds f e rows columns cells after
all_held f w rows columns e cells before mid after n some h a b = λ t l.
    let d = b.done t (omega arith) in (
      d.0,
      reduced_same f w rows columns (block_at rows columns mid t) (check_block f e (circulant f e columns cells) t)
          (block_at rows columns after t) (block_at rows columns after t) d.0
          (λ i j li lj. entry_is f w rows columns e cells before mid some a t i j l li lj) (λ i j li lj. refl) d.1,
    )

-- the block at frequency t, reduced as a part of the buffer
module _ (f : Meaning) (w : Lawful f) (rows columns r c start t n : ℕ) (xs ys : List ℕ) (res : Option ℕ) (er : r ≡ rows) (ec : c ≡ columns)
    (es : start ≡ t * (rows * columns)) (en : n ≡ rows * columns) (within : start + n ≤ length xs)
    (kept : length ys ≡ length (take n (drop start xs))) (out : Outcome f r c (take n (drop start xs)) ys res)
    (symbols : (k : ℕ) → k < rows * columns → get_or xs (t * (rows * columns) + k) 0 < f.q) where
  pub part_form : (rank : ℕ) × Reduced f rows columns (block_at rows columns xs t) (block_at rows columns (put_mid start n xs ys) t) rank
  part_form =
      let o : Outcome f rows columns (take n (drop start xs)) ys res =
      subst (λ (x : ℕ). Outcome f rows x (take n (drop start xs)) ys res) ec (subst (λ (x : ℕ). Outcome f x c (take n (drop start xs)) ys res) er out) in
      let b = part_block f w rows columns start n xs ys en within kept
      (λ k l. subst (λ (s : ℕ). get_or xs (s + k) 0 < f.q) (sym es) (symbols k (omega arith))) in
      let d = outcome_reduced f rows columns (take n (drop start xs)) ys res o b in (
        d.0,
        subst (λ (s : ℕ). Reduced f rows columns (λ i j. get_or xs (s + (i * columns + j)) 0) (λ i j. get_or (put_mid start n xs ys) (s + (i * columns + j)) 0) d.0)
            es (part_reduced f w rows columns start n xs ys en within kept d.0 d.2),
      )

  pub part_past : (k : ℕ) → (t + 1) * (rows * columns) ≤ k → get_or (put_mid start n xs ys) k 0 ≡ get_or xs k 0
  part_past k l = put_after f w rows columns start n xs ys en within kept k (omega (arith, add-mul t 1 (rows * columns)))
