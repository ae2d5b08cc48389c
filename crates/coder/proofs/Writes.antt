-- Symbol l of each column of a word, written column by column; and symbol after symbol.
use Rattle.std.proofs.Common.{◌≡◌, ℕ, ◌+◌, ◌*◌, ◌/◌, ◌%◌, ◌<◌, ◌≤◌, List, length, get_or, set, sym, ap, ◌∙◌, subst, ⊎_elim, mul_comm, arith}
use Rattle.std.proofs.lemmas.Nat.{mul-add-lt, div-mul-add, mod-mul-add}
use Rattle.std.proofs.lemmas.List.{get_or-set_same, get_or-set_other}
use Rattle.std.proofs.lemmas.Bool.{cases_eq}
use Rattle.coder.specs.Columns.{SymbolWritten}

pub place_within : (columns e j l : ℕ) → j < columns → l < e → j * e + l < columns * e
place_within columns e j l h g = omega (arith, mul-add-lt j e l columns h g, mul_comm e columns)

-- the columns below n are done
pub record WrittenTo (columns e l : ℕ) (v : ℕ → ℕ) (before after : List ℕ) (n : ℕ) : Type 0 where
  pub done : (j : ℕ) → j < n → get_or after (j * e + l) 0 ≡ v j
  pub others : (i : ℕ) → (i % e ≡ l → ⊥) → get_or after i 0 ≡ get_or before i 0
  pub past : (i : ℕ) → columns * e ≤ i → get_or after i 0 ≡ get_or before i 0

pub written_more : (columns e l n : ℕ) (v : ℕ → ℕ) (before after : List ℕ) → l < e → n < columns → n * e + l < length after
    → WrittenTo columns e l v before after n → WrittenTo columns e l v before (set after (n * e + l) (v n)) (n + 1)
written_more columns e l n v before after hl hn room a = record {
  done = λ j h.
      ⊎_elim
      (λ (s : j ≡ n). subst (λ (j : ℕ). get_or (set after (n * e + l) (v n)) (j * e + l) 0 ≡ v j) (sym s) (get_or-set_same after (n * e + l) (v n) 0 room))
      (λ (ne : j ≡ n → ⊥).
      get_or-set_other after (n * e + l) (j * e + l) (v n) 0
      (λ s. ne (sym (div-mul-add j e l hl) ∙ ap (λ (i : ℕ). i / e) s ∙ div-mul-add n e l hl))
      ∙ a.done j (omega arith)) (cases_eq j n);
  others = λ i ne. get_or-set_other after (n * e + l) i (v n) 0 (λ s. ne (ap (λ (k : ℕ). k % e) s ∙ mod-mul-add n e l hl)) ∙ a.others i ne;
  past = λ i h. get_or-set_other after (n * e + l) i (v n) 0 (λ s. omega (arith, place_within columns e n l hn hl)) ∙ a.past i h;
}

-- the symbols below n of every column are u j l
pub record SymbolsTo (columns e : ℕ) (u : ℕ → ℕ → ℕ) (before after : List ℕ) (n : ℕ) : Type 0 where
  pub done : (j l : ℕ) → j < columns → l < n → get_or after (j * e + l) 0 ≡ u j l
  pub past : (i : ℕ) → columns * e ≤ i → get_or after i 0 ≡ get_or before i 0

pub symbols_more : (columns e n : ℕ) (u : ℕ → ℕ → ℕ) (v : ℕ → ℕ) (before mid after : List ℕ) → n < e
    → ((j : ℕ) → j < columns → v j ≡ u j n) → SymbolsTo columns e u before mid n → SymbolWritten columns e n v mid after
    → SymbolsTo columns e u before after (n + 1)
symbols_more columns e n u v before mid after hn ev a b = record {
  done = λ j l h g.
      ⊎_elim
      (λ (s : l ≡ n). subst (λ (l : ℕ). get_or after (j * e + l) 0 ≡ u j l) (sym s) (b.here j h ∙ ev j h))
      (λ (ne : l ≡ n → ⊥).
      b.others (j * e + l) (λ m. ne (sym (mod-mul-add j e l (omega arith)) ∙ m)) ∙ a.done j l h (omega arith)) (cases_eq l n);
  past = λ i h. b.past i h ∙ a.past i h;
}
