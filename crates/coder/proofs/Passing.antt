-- Every message encodes to a word that passes every parity check.
use Rattle.std.proofs.Common.{◌≡◌, ℕ, ◌+◌, ◌-◌, ◌*◌, ◌%◌, ◌<◌, ◌≤◌, List, length, get_or, sym, ap, ◌∙◌, subst, ⊎_elim, arith}
use native.Mathlib.Nat.{mod-add-mod}
use Rattle.std.proofs.lemmas.List.{get_or_past}
use Rattle.std.proofs.lemmas.Bool.{cases_lt}
use Rattle.field.specs.Meaning.{Meaning, Lawful, CharacteristicTwo, power}
use Rattle.field.specs.Sums.{total}
use Rattle.algebra.specs.Transforms.{root, spectrum, synthesis, check_block}
use Rattle.algebra.specs.Transforms as transforms
use Rattle.algebra.specs.Matrices.{free, count}
use Rattle.algebra.specs.Solutions.{offset}
use Rattle.algebra.proofs.Sums.{total_same}
use Rattle.algebra.proofs.Transforms.{transform_pair}
use Rattle.algebra.proofs.Convolution.{passing_is_null_lem}
use Rattle.algebra.proofs.Generators.{generator_by_terms}
use Rattle.algebra.proofs.Solves.{solved_below, reduced_form_solves_lem}
use Rattle.array.specs.declared.plain.CellRow.{CellRow}
use Rattle.array.specs.Cells.{no_term, terms_of}
use Rattle.array.specs.Buffers.{cell_at}
use Rattle.blocks.specs.Blocks.{circulant, block_at, Holds}
use Rattle.code.specs.Checks.{syndrome, cell_sum, PassesAll}
use Rattle.coder.specs.Columns.{coefficient}
use Rattle.coder.specs.Encoding.{spread, encoded}
use Rattle.coder.specs.Forms.{frees}

-- the syndrome by the terms of the cells is the syndrome by the generators of the circulants
pub syndrome_by_terms : (f : Meaning) → Lawful f → (e columns : ℕ) (cells : List CellRow) (word : List ℕ) (i s : ℕ) → 0 < e
    → syndrome f e columns cells word i s ≡ transforms.syndrome f e columns (circulant f e columns cells) (λ j l. get_or word (j * e + l) 0) i s
syndrome_by_terms f w e columns cells word i s some =
    total_same f w columns (λ j. cell_sum f e (terms_of (cell_at columns cells i j)) (λ l. get_or word (j * e + l) 0) s)
    (λ j. total f e (λ l. f.product (circulant f e columns cells i j l) (get_or word (j * e + (l + s) % e) 0)))
    (λ j h.
    let ts = terms_of (cell_at columns cells i j) in
    let shift : ℕ → ℕ = λ k. (get_or ts k no_term).shift in
    let by : ℕ → ℕ = λ k. (get_or ts k no_term).coefficient in
    total_same f w (length ts) (λ k. f.product (by k) (get_or word (j * e + (shift k + s) % e) 0))
    (λ k. f.product (by k) (get_or word (j * e + (shift k % e + s) % e) 0))
    (λ k l. ap (λ (n : ℕ). f.product (by k) (get_or word (j * e + n) 0)) (sym (mod-add-mod (shift k) e s)))
    ∙ sym (generator_by_terms f w e some (length ts) shift by (λ l. get_or word (j * e + (l + s) % e) 0)))

module _ (f : Meaning) (w : Lawful f) (two : CharacteristicTwo f) (rows columns e : ℕ) (some : 0 < e) (divides : (f.q - 1) % e ≡ 0)
    (cells : List CellRow) (blocks message word : List ℕ) (hold : Holds f e rows columns cells blocks) (symbols : (k : ℕ) → get_or message k 0 < f.q)
    (is : (j l : ℕ) → j < columns → l < e → get_or word (j * e + l) 0 ≡ encoded f e rows columns blocks message j l) where
  spread_below : (t j : ℕ) → spread f rows columns blocks message t j < f.q
  spread_below t j =
      solved_below f w rows columns (block_at rows columns blocks t)
      (λ h. get_or message (offset columns (frees rows columns blocks) t + count h (free rows (block_at rows columns blocks t))) 0)
      (λ h. symbols (offset columns (frees rows columns blocks) t + count h (free rows (block_at rows columns blocks t)))) j

  -- the spectrum of the word is what was filled in
  pub spectrum_is : (t j : ℕ) → t < e → j < columns → spectrum f e (λ l. get_or word (j * e + l) 0) t ≡ spread f rows columns blocks message t j
  spectrum_is t j h g =
      total_same f w e (λ l. f.product (get_or word (j * e + l) 0) (power f (f.inverse (root f e)) (l * t)))
      (λ l. f.product (encoded f e rows columns blocks message j l) (power f (f.inverse (root f e)) (l * t)))
      (λ l k. ap (λ (x : ℕ). f.product x (power f (f.inverse (root f e)) (l * t))) (is j l g k))
      ∙ (transform_pair f w two e some divides).1 (λ t. spread f rows columns blocks message t j) (λ t l. spread_below t j) t h

  null_at : (t : ℕ) → t < e → (i : ℕ) → i < rows
      → total f columns (λ j. f.product (check_block f e (circulant f e columns cells) t i j) (spectrum f e (λ l. get_or word (j * e + l) 0) t)) ≡ 0
  null_at t h i l =
      let r = hold t h in
      let b : ℕ → ℕ → ℕ = check_block f e (circulant f e columns cells) t in
      total_same f w columns (λ j. f.product (b i j) (spectrum f e (λ l. get_or word (j * e + l) 0) t)) (λ j. f.product (b i j) (spread f rows columns blocks message t j))
      (λ j g. ap (f.product (b i j)) (spectrum_is t j h g))
      ∙ (reduced_form_solves_lem f w two rows columns r.0 b (block_at rows columns blocks t) r.1).null
      (λ k. get_or message (offset columns (frees rows columns blocks) t + k) 0) (λ k. symbols (offset columns (frees rows columns blocks) t + k)) i l

  pub every_message_encodes_to_a_passing_word : PassesAll f e rows columns cells word
  every_message_encodes_to_a_passing_word i s h g =
      syndrome_by_terms f w e columns cells word i s some
      ∙ (passing_is_null_lem f w two e some divides rows columns (circulant f e columns cells) (λ j l. get_or word (j * e + l) 0)).1 null_at i s h g

-- the inverse transform of a spectrum that stands in a buffer
pub encoded_from : (f : Meaning) → Lawful f → (rows columns e : ℕ) (blocks message xs : List ℕ)
    → ((t j : ℕ) → t < e → j < columns → coefficient columns xs j t ≡ spread f rows columns blocks message t j)
    → (j l : ℕ) → j < columns → synthesis f e (coefficient columns xs j) l ≡ encoded f e rows columns blocks message j l
encoded_from f w rows columns e blocks message xs is j l h =
    total_same f w e (λ t. f.product (coefficient columns xs j t) (power f (root f e) (l * t)))
    (λ t. f.product (spread f rows columns blocks message t j) (power f (root f e) (l * t)))
    (λ t g. ap (λ (x : ℕ). f.product x (power f (root f e) (l * t))) (is t j g h))

pub all_symbols : (f : Meaning) → Lawful f → (xs : List ℕ) → ((k : ℕ) → k < length xs → get_or xs k 0 < f.q) → (k : ℕ) → get_or xs k 0 < f.q
all_symbols f w xs h k =
    ⊎_elim (λ (l : k < length xs). h k l)
    (λ (l : length xs ≤ k). subst (λ (x : ℕ). x < f.q) (sym (get_or_past xs k 0 l)) (omega (arith, w.order_low))) (cases_lt k (length xs))
