-- A state stands for a model by the used places of the buffers alone, so a call may be lent only the first parts of them.
use Rattle.std.proofs.Common.{◌≡◌, ℕ, ◌+◌, ◌*◌, ◌<◌, ◌≤◌, true, false, List, ◌++◌, length, get_or, take, drop, Some, None, Ok, Err, Option, Result, sym, refl, ap, ◌∙◌, subst, ⊎_elim, arith, MatchResult}
use Rattle.std.specs.Result.{result_err}
use Rattle.std.proofs.lemmas.Nat.{mul-le}
use Rattle.std.proofs.lemmas.List.{length-append, length-take-le, take-append-drop, get_or_append_left, get_or-take}
use Rattle.std.proofs.lemmas.Bool.{cases_Bool}
use Rattle.std.proofs.lemmas.Bool.Decides.{nat_tests}
use Rattle.refusal.specs.declared.Refusal.{Refusal}
use Rattle.refusal.specs.declared.Refusal.TheVariants.{Buffer}
use Rattle.array.specs.declared.plain.CellRow.{CellRow}
use Rattle.array.specs.Buffers.{blank}
use Rattle.array.specs.Shapes.{shape_lawful}
use Rattle.history.specs.declared.plain.ChangeRecord.{ChangeRecord}
use Rattle.history.specs.declared.plain.Lengths.{Lengths}
use Rattle.history.specs.Refusals.{roomy}
use Rattle.history.specs.States.{State, lengths, no_record, record_at}
use Rattle.history.specs.Model.{Model, Request, place, resize, undo, redo, model_counts, answer, accepted, unless_refused, step}
use Rattle.history.specs.Standing.{ModelLawful, StandsFor, Kept}
use Rattle.history.proofs.RefusalsFacts.{place_short, resize_short, undo_short, redo_short}
use Rattle.history.proofs.Drawings.{place_below}

-- two states agree but for the places of the buffers that are not used
pub record Alike (s t : State) : Type 0 where
  pub size : t.size ≡ s.size
  pub rows : t.rows ≡ s.rows
  pub columns : t.columns ≡ s.columns
  pub count : t.count ≡ s.count
  pub in_force : t.in_force ≡ s.in_force
  pub cells : (k : ℕ) → k < s.rows * s.columns → get_or t.cells k blank ≡ get_or s.cells k blank
  pub records : (k : ℕ) → k < s.count → record_at t k ≡ record_at s k
  pub cells_long : s.rows * s.columns ≤ length t.cells
  pub records_long : s.count ≤ length t.records

-- the used cells of a state are those of the array
used_cells : (q : ℕ) (m : Model) (s : State) → StandsFor q m s → s.rows * s.columns ≡ m.rows * m.columns
used_cells q m s h = let x = h.rows in let y = h.columns in cc

-- two such states stand for the same models
pub stands_like : (q : ℕ) (m : Model) (s t : State) → Alike s t → StandsFor q m s → StandsFor q m t
stands_like q m s t a h = record {
  lawful = h.lawful;
  order = h.order;
  rows = a.rows ∙ h.rows;
  columns = a.columns ∙ h.columns;
  count = a.count ∙ h.count;
  in_force = a.in_force ∙ h.in_force;
  size = a.size ∙ h.size;
  cells = λ i j hi hj.
      a.cells (i * m.columns + j)
      (subst (λ (x : ℕ). i * m.columns + j < x) (sym (used_cells q m s h)) (place_below m.rows m.columns i j hi hj))
      ∙ h.cells i j hi hj;
  records = λ k lt. a.records k (let c = h.count in omega arith) ∙ h.records k lt;
  cells_long = subst (λ (x : ℕ). x ≤ length t.cells) (used_cells q m s h) a.cells_long;
  records_long = let c = h.count in let l = a.records_long in omega arith;
}

-- the state with other buffers; in the first a cells and the first b records; and with the rests of the buffers after its own
abbrev pub with_buffers : State → List CellRow → List ChangeRecord → State
with_buffers s cells records = record
    { size = s.size; rows = s.rows; columns = s.columns; count = s.count; in_force = s.in_force; cells = cells; records = records }

abbrev pub first_parts : State → ℕ → ℕ → State
first_parts s a b = with_buffers s (take a s.cells) (take b s.records)

abbrev pub with_rests : State → List CellRow → List ChangeRecord → State
with_rests s cells records = with_buffers s (s.cells ++ cells) (s.records ++ records)

rests_stand : (q : ℕ) (m : Model) (s : State) (cells : List CellRow) (records : List ChangeRecord)
    → StandsFor q m s → StandsFor q m (with_rests s cells records)
rests_stand q m s cells records h =
    let c = h.count in
    let u = used_cells q m s h in
    let cl = h.cells_long in
    let rl = h.records_long in
    let ca = length-append s.cells cells in
    let ra = length-append s.records records in
    stands_like q m s (with_rests s cells records)
    (record {
      size = refl;
      rows = refl;
      columns = refl;
      count = refl;
      in_force = refl;
      cells = λ k lt. get_or_append_left s.cells cells blank k (omega arith);
      records = λ k lt. get_or_append_left s.records records no_record k (omega arith);
      cells_long = omega arith;
      records_long = omega arith;
    })
    h

-- an array of any shape has at most 512 cells
shape_small : (e rows columns : ℕ) → shape_lawful e rows columns ≡ true → (rows ≤ 8) × (columns ≤ 64)
shape_small e rows columns h = grind (arith, nat_tests)

pub array_small : (m : Model) → ModelLawful m → m.rows * m.columns ≤ 512
array_small m l =
    let b = shape_small m.start.size m.rows m.columns l.start.shape in
    mul-le m.rows m.columns 8 64 b.0 b.1

roomy_tells : (n : Lengths) (count : ℕ) → roomy n count ≡ true → (512 ≤ n.cells) × (count ≤ n.records)
roomy_tells n count h = grind (arith, nat_tests)

-- the model refuses every request where a buffer is too short
short_answer : (m : Model) (n : Lengths) (a : Request) → roomy n (length m.changes) ≡ false → answer m n a ≡ Some Buffer
short_answer m n (place i j row) h = place_short m.q (model_counts m) n i j row h
short_answer m n (resize e) h = resize_short m.q (model_counts m) n e h
short_answer m n undo h = undo_short (model_counts m) n true h
short_answer m n redo h = redo_short (model_counts m) n true h

-- a call that refuses leaves the state
left : (o : Option Refusal) (s after done : State) (r : Result (Unit {0}) Refusal) → o ≡ Some Buffer → result_err r ≡ o
    → MatchResult r (λ _. after ≡ done) (λ _. after ≡ s) → after ≡ s
left o s after done (Ok u) is says does =
    absurd (let e : None ≡ Some Buffer = says ∙ is in let z : ◌≡◌ {A = ℕ} 0 1 = cc in omega arith)
left o s after done (Err x) is says does = does

module _ (q : ℕ) (m : Model) (s : State) (h : StandsFor q m s) (a b : ℕ) (la : a ≤ length s.cells) (lb : b ≤ length s.records) where
  -- parts that are long enough stand for the model
  parts_stand : (blocks : ℕ) → roomy (lengths (first_parts s a b) blocks) s.count ≡ true → StandsFor q m (first_parts s a b)
  parts_stand blocks long =
      let t = roomy_tells (lengths (first_parts s a b) blocks) s.count long in
      let u = used_cells q m s h in
      let small = array_small m h.lawful in
      let ca = length-take-le a s.cells la in
      let ra = length-take-le b s.records lb in
      stands_like q m s (first_parts s a b)
      (record {
        size = refl;
        rows = refl;
        columns = refl;
        count = refl;
        in_force = refl;
        cells = λ k lt. get_or-take a s.cells k blank (omega arith);
        records = λ k lt. get_or-take b s.records k no_record (omega arith);
        cells_long = omega arith;
        records_long = omega arith;
      })
      h

  whole : with_rests (first_parts s a b) (drop a s.cells) (drop b s.records) ≡ s
  whole =
      ap (λ (xs : List CellRow). with_buffers s xs (take b s.records ++ drop b s.records)) (take-append-drop a s.cells)
      ∙ ap (λ (xs : List ChangeRecord). with_buffers s s.cells xs) (take-append-drop b s.records)

  -- a call on first parts is as good as the model on the whole buffers, with the lengths of the parts:
  -- `o` is its refusal, `done` the state where it is accepted, and the last three facts are the clauses of its contract
  pub parts_kept : (blocks : ℕ) (x : Request) (o : Option Refusal) (done after : State) (r : Result (Unit {0}) Refusal)
      → let p = first_parts s a b in let n = lengths p blocks in
      (roomy n s.count ≡ false → o ≡ Some Buffer)
      → result_err r ≡ o → MatchResult r (λ _. after ≡ done) (λ _. after ≡ p) → ((k : Model) → StandsFor q k p → Kept q k n x r after)
      → Kept q m n x r (with_rests after (drop a s.cells) (drop b s.records))
  parts_kept blocks x o done after r short says does kept =
      let n : Lengths = lengths (first_parts s a b) blocks in
      let rest : State → State = λ t. with_rests t (drop a s.cells) (drop b s.records) in
      ⊎_elim
      (λ (long : roomy n s.count ≡ true).
      let k = kept m (parts_stand blocks long) in
      record { says = k.says; stands = rests_stand q (step m n x) after (drop a s.cells) (drop b s.records) k.stands })
      (λ (few : roomy n s.count ≡ false).
      let refused = short_answer m n x (subst (λ (c : ℕ). roomy n c ≡ false) h.count few) in
      let same = left o (first_parts s a b) after done r (short few) says does in
      record {
        says = says ∙ short few ∙ sym refused;
        stands = subst (λ (y : Option Refusal). StandsFor q (unless_refused y m (accepted m x)) (rest after)) (sym refused)
            (subst (λ (t : State). StandsFor q m t) (sym (ap rest same ∙ whole)) h);
      })
      (cases_Bool (roomy n s.count))
