-- Place k of every block, changed frequency by frequency.
use Rattle.std.proofs.Common.{◌≡◌, ℕ, ◌+◌, ◌*◌, ◌/◌, ◌%◌, ◌<◌, ◌≤◌, List, length, get_or, set, sym, ap, ◌∙◌, subst, ap₂, ⊎_elim, add-one, arith}
use Rattle.std.proofs.lemmas.Nat.{mul-add-lt, div-mul-add, mod-mul-add}
use Rattle.std.proofs.lemmas.List.{get_or-set_same, get_or-set_other}
use Rattle.std.proofs.lemmas.Bool.{cases_eq}
use Rattle.field.specs.Meaning.{Meaning, Lawful, power}
use Rattle.algebra.proofs.Powers.{power_below, power_mul}
use Rattle.field.specs.Sums.{total}
use Rattle.algebra.specs.Transforms.{root}
use Rattle.algebra.proofs.Sums.{total_below}
use Rattle.array.specs.declared.plain.Term.{Term}
use Rattle.array.specs.declared.plain.CellRow.{CellRow}
use Rattle.array.specs.Buffers.{blank}
use Rattle.array.specs.Cells.{no_term, terms_of}
use Rattle.blocks.specs.Blocks.{terms_at, AddedAt}

-- the frequencies below n are done
pub record AddedTo (f : Meaning) (places e k : ℕ) (v : ℕ → ℕ) (before after : List ℕ) (n : ℕ) : Type 0 where
  pub done : (t : ℕ) → t < n → get_or after (t * places + k) 0 ≡ f.sum (get_or before (t * places + k) 0) (v t)
  pub rest : (t : ℕ) → n ≤ t → get_or after (t * places + k) 0 ≡ get_or before (t * places + k) 0
  pub others : (i : ℕ) → (i % places ≡ k → ⊥) → get_or after i 0 ≡ get_or before i 0
  pub past : (i : ℕ) → places * e ≤ i → get_or after i 0 ≡ get_or before i 0

pub added_all : (f : Meaning) (places e k : ℕ) (v : ℕ → ℕ) (before after : List ℕ) (n : ℕ) → e ≤ n
    → AddedTo f places e k v before after n → AddedAt f places e k v before after
added_all f places e k v before after n h a = record { here = λ t l. a.done t (omega arith); others = a.others; past = a.past }

module _ (f : Meaning) (places e k n : ℕ) (v : ℕ → ℕ) (before after : List ℕ) (p x : ℕ) (hk : k < places) (hn : n < e)
    (room : n * places + k < length after) (px : x ≡ f.sum (get_or after (n * places + k) 0) p) (pv : p ≡ v n)
    (a : AddedTo f places e k v before after n) where
  apart : (t : ℕ) → (t ≡ n → ⊥) → t * places + k ≡ n * places + k → ⊥
  apart t ne e' = ne (sym (div-mul-add t places k hk) ∙ ap (λ (i : ℕ). i / places) e' ∙ div-mul-add n places k hk)

  kept : (i : ℕ) → (i ≡ n * places + k → ⊥) → get_or (set after (n * places + k) x) i 0 ≡ get_or after i 0
  kept i ne = get_or-set_other after (n * places + k) i x 0 ne

  pub added_more : AddedTo f places e k v before (set after (n * places + k) x) (n + 1)
  added_more = record {
    done = λ t l.
        ⊎_elim
        (λ (s : t ≡ n).
        subst (λ (t : ℕ). get_or (set after (n * places + k) x) (t * places + k) 0 ≡ f.sum (get_or before (t * places + k) 0) (v t)) (sym s)
        (get_or-set_same after (n * places + k) x 0 room ∙ px
        ∙ ap (λ (y : ℕ). f.sum y p) (a.rest n (omega arith)) ∙ ap (f.sum (get_or before (n * places + k) 0)) pv))
        (λ (ne : t ≡ n → ⊥). kept (t * places + k) (apart t ne) ∙ a.done t (omega arith)) (cases_eq t n);
    rest = λ t l. kept (t * places + k) (apart t (λ s. omega arith)) ∙ a.rest t (omega arith);
    others = λ i ne. kept i (λ s. ne (ap (λ (j : ℕ). j % places) s ∙ mod-mul-add n places k hk)) ∙ a.others i ne;
    past = λ i l. kept i (λ s. omega (arith, mul-add-lt n places k e hn hk)) ∙ a.past i l;
  }

pub added_like : (f : Meaning) (places e k : ℕ) (v u : ℕ → ℕ) (before after : List ℕ) → ((t : ℕ) → v t ≡ u t)
    → AddedAt f places e k v before after → AddedAt f places e k u before after
added_like f places e k v u before after h a = record {
  here = λ t l. a.here t l ∙ ap (f.sum (get_or before (t * places + k) 0)) (h t);
  others = a.others;
  past = a.past;
}

-- a term at frequency t, by steps of one power
module _ (f : Meaning) (w : Lawful f) (c p step : ℕ) (ep : p ≡ f.product c 1) where
  pub term_next : (r x t : ℕ) → r ≡ f.product p (power f step t) → x ≡ f.product r step → x ≡ f.product p (power f step (t + 1))
  term_next r x t er ex =
      ex ∙ ap (λ (y : ℕ). f.product y step) er ∙ w.product_assoc p (power f step t) step
      ∙ ap (f.product p) (w.product_comm (power f step t) step ∙ ap (λ (n : ℕ). power f step n) (sym (add-one t)))

  pub term_value : (root s t : ℕ) → step ≡ power f root s → f.product p (power f step t) ≡ f.product c (power f root (s * t))
  term_value root s t es =
      ap₂ f.product ep (ap (λ (x : ℕ). power f x t) es ∙ power_mul f w root s t)
      ∙ w.product_assoc c 1 (power f root (s * t)) ∙ ap (f.product c) (w.product_one (power f root (s * t)) (power_below f w root (s * t)))

-- cell by cell

pub total_more : (f : Meaning) (n : ℕ) (t : ℕ → ℕ) → f.sum (total f n t) (t n) ≡ total f (n + 1) t
total_more f n t = ap (λ (k : ℕ). total f k t) (sym (add-one n))

-- the places below k hold their cells, the others are still 0
pub record BuiltTo (f : Meaning) (places e : ℕ) (cells : List CellRow) (before after : List ℕ) (k : ℕ) : Type 0 where
  pub entry : (t j : ℕ) → t < e → j < k → get_or after (t * places + j) 0 ≡ terms_at f e (terms_of (get_or cells j blank)) t
  pub rest : (t j : ℕ) → t < e → k ≤ j → j < places → get_or after (t * places + j) 0 ≡ 0
  pub past : (i : ℕ) → places * e ≤ i → get_or after i 0 ≡ get_or before i 0

pub built_none : (f : Meaning) (places e n : ℕ) (cells : List CellRow) (before after : List ℕ) → n ≡ places * e
    → ((i : ℕ) → i < n → get_or after i 0 ≡ 0) → ((i : ℕ) → n ≤ i → get_or after i 0 ≡ get_or before i 0) → BuiltTo f places e cells before after 0
built_none f places e n cells before after en z r = record {
  entry = λ t j l h. absurd (omega arith);
  rest = λ t j l h g. z (t * places + j) (omega (arith, mul-add-lt t places j e l g));
  past = λ i l. r i (omega arith);
}

module _ (f : Meaning) (w : Lawful f) (places e k : ℕ) (cells : List CellRow) (ts : List Term) (before mid after : List ℕ) (hk : k < places)
    (et : ts ≡ terms_of (get_or cells k blank)) (a : BuiltTo f places e cells before mid k) (b : AddedAt f places e k (terms_at f e ts) mid after) where
  same : (t j : ℕ) → j < places → (j ≡ k → ⊥) → get_or after (t * places + j) 0 ≡ get_or mid (t * places + j) 0
  same t j l ne = b.others (t * places + j) (λ m. ne (sym (mod-mul-add t places j l) ∙ m))

  here : (t : ℕ) → t < e → get_or after (t * places + k) 0 ≡ terms_at f e (terms_of (get_or cells k blank)) t
  here t l =
      b.here t l ∙ ap (λ (x : ℕ). f.sum x (terms_at f e ts t)) (a.rest t k l (omega arith) hk)
      ∙ w.sum_zero (terms_at f e ts t)
      (total_below f w (length ts) (λ k. f.product (get_or ts k no_term).coefficient (power f (root f e) (((get_or ts k no_term).shift % e) * t))))
      ∙ ap (λ (xs : List Term). terms_at f e xs t) et

  pub built_more : BuiltTo f places e cells before after (k + 1)
  built_more = record {
    entry = λ t j l h.
        ⊎_elim
        (λ (s : j ≡ k). subst (λ (j : ℕ). get_or after (t * places + j) 0 ≡ terms_at f e (terms_of (get_or cells j blank)) t) (sym s) (here t l))
        (λ (ne : j ≡ k → ⊥). same t j (omega arith) ne ∙ a.entry t j l (omega arith)) (cases_eq j k);
    rest = λ t j l h g. same t j g (λ s. omega arith) ∙ a.rest t j l (omega arith) g;
    past = λ i l. b.past i l ∙ a.past i l;
  }
