-- Messages and the words that pass every parity check stand for one another, one to one.
use Rattle.std.proofs.Common.{◌≡◌, ℕ, ◌+◌, ◌-◌, ◌*◌, ◌%◌, ◌<◌, Bool, List, get_or, sym, ap, ◌∙◌, arith}
use Rattle.std.proofs.lemmas.List.{take_all}
use Rattle.field.specs.Meaning.{Meaning, Lawful, CharacteristicTwo, power}
use Rattle.algebra.specs.Transforms.{root, spectrum, check_block}
use Rattle.algebra.specs.Matrices.{count}
use Rattle.algebra.specs.Solutions.{offset, gathered, collected}
use Rattle.algebra.proofs.Powers.{zero_below}
use Rattle.algebra.proofs.Sums.{total_same, total_below}
use Rattle.algebra.proofs.Transforms.{transform_pair}
use Rattle.algebra.proofs.Convolution.{passing_is_null_lem}
use Rattle.algebra.proofs.Solves.{solved_free, solved_same, reduced_form_solves_lem}
use Rattle.algebra.proofs.Gathers.{gathered_at, collected_length, collected_at, collected_below, collected_same, collected_back}
use Rattle.array.specs.declared.plain.CellRow.{CellRow}
use Rattle.blocks.specs.Blocks.{circulant, block_at, Holds}
use Rattle.code.specs.Checks.{PassesAll}
use Rattle.coder.specs.Columns.{coefficient}
use Rattle.coder.specs.Forms.{frees}
use Rattle.coder.specs.Encoding.{spread}
use Rattle.coder.specs.Recovery.{recovered, Message, Word, EncodesTo, OneToOne}
use Rattle.coder.proofs.Writes.{place_within}
use Rattle.coder.proofs.Passing.{syndrome_by_terms, spectrum_is, every_message_encodes_to_a_passing_word, all_symbols}

module _ (f : Meaning) (w : Lawful f) (two : CharacteristicTwo f) (rows columns e : ℕ) (some : 0 < e) (divides : (f.q - 1) % e ≡ 0)
    (cells : List CellRow) (blocks : List ℕ) (hold : Holds f e rows columns cells blocks) where
  -- the spectra of a word's columns
  abbrev spectra : List ℕ → ℕ → ℕ → ℕ
  spectra word t j = spectrum f e (λ l. get_or word (j * e + l) 0) t

  recovering_undoes_encoding : (message word : List ℕ) → Message f e rows columns blocks message → EncodesTo f e rows columns blocks message word
      → recovered f e rows columns blocks word ≡ message
  recovering_undoes_encoding message word m is =
      let p : ℕ → ℕ → Bool = frees rows columns blocks in
      collected_same columns p (spectra word) (λ t j. get_or message (offset columns p t + count j (p t)) 0) e
      (λ t j h g y.
      spectrum_is f w two rows columns e some divides cells blocks message word hold (all_symbols f w message m.symbols) is t j h g
      ∙ solved_free f w rows columns (block_at rows columns blocks t) (λ h. get_or message (offset columns p t + count h (p t)) 0) j y)
      ∙ collected_back columns p message e (omega (arith, m.long)) ∙ take_all (offset columns p e) message (omega (arith, m.long))

  -- the spectra of a passing word are filled from what is recovered
  spread_back : (word : List ℕ) → PassesAll f e rows columns cells word → (t j : ℕ) → t < e → j < columns
      → spectrum f e (λ l. get_or word (j * e + l) 0) t ≡ spread f rows columns blocks (recovered f e rows columns blocks word) t j
  spread_back word pass t j h g =
      let p : ℕ → ℕ → Bool = frees rows columns blocks in
      let b : ℕ → ℕ → ℕ = check_block f e (circulant f e columns cells) t in
      let v : ℕ → ℕ = spectra word t in
      let message : List ℕ = recovered f e rows columns blocks word in
      (reduced_form_solves_lem f w two rows columns (hold t h).0 b (block_at rows columns blocks t) (hold t h).1).all v
      (λ i. total_below f w e (λ l. f.product (get_or word (i * e + l) 0) (power f (f.inverse (root f e)) (l * t))))
      ((passing_is_null_lem f w two e some divides rows columns (circulant f e columns cells) (λ j l. get_or word (j * e + l) 0)).0
      (λ i s a c. sym (syndrome_by_terms f w e columns cells word i s some) ∙ pass i s a c) t h) j g
      ∙ solved_same f w rows columns (block_at rows columns blocks t) (λ i. get_or (gathered columns (p t) v) (count i (p t)) 0)
      (λ i. get_or message (offset columns p t + count i (p t)) 0)
      (λ i l y. gathered_at (p t) v columns i l y ∙ sym (collected_at columns p (spectra word) e t i h l y)) j g

  encoding_undoes_recovering : (word : List ℕ) → Word f e columns word → PassesAll f e rows columns cells word
      → EncodesTo f e rows columns blocks (recovered f e rows columns blocks word) word
  encoding_undoes_recovering word x pass j l h g =
      sym ((transform_pair f w two e some divides).0 (λ l. get_or word (j * e + l) 0)
      (λ k a. x.symbols (j * e + k) (omega (arith, x.long, place_within columns e j k h a))) l g)
      ∙ total_same f w e (λ t. f.product (spectra word t j) (power f (root f e) (l * t)))
      (λ t. f.product (spread f rows columns blocks (recovered f e rows columns blocks word) t j) (power f (root f e) (l * t)))
      (λ t a. ap (λ (y : ℕ). f.product y (power f (root f e) (l * t))) (spread_back word pass t j a h))

  pub one_to_one : OneToOne f e rows columns cells blocks
  one_to_one = record {
    passes = λ message word m is.
        every_message_encodes_to_a_passing_word f w two rows columns e some divides cells blocks message word hold (all_symbols f w message m.symbols) is;
    back = recovering_undoes_encoding;
    message = λ word x pass. record {
      long = collected_length columns (frees rows columns blocks) (spectra word) e;
      symbols = λ k l. collected_below columns (frees rows columns blocks) (spectra word) f.q (zero_below f w) e
          (λ t j a b y. total_below f w e (λ l. f.product (get_or word (j * e + l) 0) (power f (f.inverse (root f e)) (l * t)))) k;
    };
    onto = encoding_undoes_recovering;
  }

-- the message that is read from a word that stands in a buffer by rows
pub recovered_from : (f : Meaning) → Lawful f → (rows columns e : ℕ) (blocks word xs : List ℕ)
    → ((l j : ℕ) → l < e → j < columns → coefficient columns xs j l ≡ get_or word (j * e + l) 0)
    → collected columns (frees rows columns blocks) (λ t j. spectrum f e (coefficient columns xs j) t) e ≡ recovered f e rows columns blocks word
recovered_from f w rows columns e blocks word xs is =
    collected_same columns (frees rows columns blocks) (λ t j. spectrum f e (coefficient columns xs j) t) (λ t j. spectrum f e (λ l. get_or word (j * e + l) 0) t) e
    (λ t j h g y.
    total_same f w e (λ l. f.product (coefficient columns xs j l) (power f (f.inverse (root f e)) (l * t)))
    (λ l. f.product (get_or word (j * e + l) 0) (power f (f.inverse (root f e)) (l * t)))
    (λ l a. ap (λ (x : ℕ). f.product x (power f (f.inverse (root f e)) (l * t))) (is l j a g)))
