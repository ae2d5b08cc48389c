-- A change of the history, with the echelon forms built after it, follows the reference model.
use Rattle.std.proofs.Common.{◌≡◌, ℕ, ◌-◌, ◌%◌, ◌<◌, ◌≤◌, true, List, length, None, Ok, Err, IfOk, Result, sym, ◌∙◌, subst, ap₂, arith, MatchResult}
use Rattle.std.proofs.lemmas.Result.{IfOk-weaker}
use Rattle.std.proofs.lemmas.Bool.Decides.{nat_tests}
use Rattle.refusal.specs.declared.Refusal.{Refusal}
use Rattle.field.specs.Meaning.{Meaning}
use Rattle.array.specs.declared.plain.CellRow.{CellRow}
use Rattle.array.specs.declared.shape.Shape.{Shape}
use Rattle.array.specs.Shapes.{size_lawful}
use Rattle.blocks.specs.Blocks.{Holds}
use Rattle.code.specs.Checks.{PassesAll}
use Rattle.coder.specs.Recovery.{OneToOne}
use Rattle.history.specs.declared.plain.ChangeRecord.{ChangeRecord}
use Rattle.history.specs.declared.plain.Lengths.{Lengths}
use Rattle.history.specs.declared.edit.History.{History}
use Rattle.history.specs.Histories.{state_of}
use Rattle.history.specs.States.{State, lengths}
use Rattle.history.specs.Model.{Model, Request, place, resize, undo, redo, step}
use Rattle.history.specs.Standing.{StandsFor, refusal_of, Serves}
use Rattle.history.proofs.Drawings.{shown_lawful}
use Rattle.editor.specs.Editing.{Forms, PastKept, Stands, Changes}

-- where a change is not refused, the buffers are long enough to build the echelon forms
room : (q : ℕ) (s : State) (n : Lengths) (a : Request) → None ≡ refusal_of q s n a → (512 ≤ n.cells) × (16384 ≤ n.blocks)
room q s n (place i j row) h = grind (arith, nat_tests)
room q s n (resize e) h = grind (arith, nat_tests)
room q s n undo h = grind (arith, nat_tests)
room q s n redo h = grind (arith, nat_tests)

-- after a step that the history makes, the buffers are long enough for the forms, and the editor follows its models
module _ (f : Meaning) (order : ℕ) (e : order ≡ f.q) (before after : State) (a : Request) (was : List ℕ) where
  pub made : (new : List ℕ) (r : Result (Unit {0}) Refusal) → Serves order before after (length was) a (Ok tt)
      → length after.cells ≡ length before.cells
      → MatchResult r (λ _. Forms f after new × PastKept after was new) (λ _. 512 ≤ length after.cells → length was < 16384)
      → Changes f before after was new a r
  made new (Ok u) done long built = record {
    says = subst (λ (q : ℕ). None ≡ refusal_of q before (lengths before (length was)) a) e done.says;
    does = (done.does, built.0, built.1);
    model = λ m s.
        let k = done.model m (subst (λ (q : ℕ). StandsFor q m before) (sym e) s.history) in
        record {
          says = k.says;
          stands = record {
            history = subst (λ (q : ℕ). StandsFor q (step m (lengths before (length was)) a) after) e k.stands;
            forms = built.0;
          };
        };
  }
  made new (Err x) done long short =
      absurd
      (let enough = room order before (lengths before (length was)) a done.says in
      let few = short (omega arith) in
      omega arith)

-- where an editor stands for a model, its size divides q - 1
pub size_divides : (f : Meaning) (m : Model) (s : State) (blocks : List ℕ) → Stands f m s blocks → (f.q - 1) % s.size ≡ 0
size_divides f m s blocks h =
    let k = h.history in
    let lawful : size_lawful f.q s.size ≡ true =
    ap₂ (λ (q e : ℕ). size_lawful q e) (sym k.order) k.size ∙ (shown_lawful m k.lawful).size in
    grind (arith, nat_tests, lawful)

-- what holds of the code whose forms a buffer holds, in terms of the editor
module _ (f f' : Meaning) (s : Shape) (h : History) (blocks : List ℕ) (ef : f' ≡ f) (es : s ≡ h.shape) where
  pub passes_standing : (r : Result (Unit {0}) Refusal) (out : List ℕ)
      → IfOk r (λ _. (cells : List CellRow) → (f'.q - 1) % s.size ≡ 0 → Holds f' s.size s.rows s.columns cells blocks
      → PassesAll f' s.size s.rows s.columns cells out)
      → IfOk r (λ _. (k : Model) (cells : List CellRow) (records : List ChangeRecord) → Stands f k (state_of h cells records) blocks
      → PassesAll f h.shape.size h.shape.rows h.shape.columns cells out)
  passes_standing r out p =
      let Passing : Meaning → Shape → Type 0 = λ g x. (cells : List CellRow) → (g.q - 1) % x.size ≡ 0 → Holds g x.size x.rows x.columns cells blocks
      → PassesAll g x.size x.rows x.columns cells out in
      let q : IfOk r (λ _. Passing f h.shape) =
      subst (λ (x : Shape). IfOk r (λ _. Passing f x)) es (subst (λ (g : Meaning). IfOk r (λ _. Passing g s)) ef p) in
      IfOk-weaker r (λ _. Passing f h.shape)
      (λ _. (k : Model) (cells : List CellRow) (records : List ChangeRecord) → Stands f k (state_of h cells records) blocks
      → PassesAll f h.shape.size h.shape.rows h.shape.columns cells out)
      (λ _ all k cells records t. all cells (size_divides f k (state_of h cells records) blocks t) t.forms) q

  pub one_to_one_standing : (cells : List CellRow)
      → ((f'.q - 1) % s.size ≡ 0 → Holds f' s.size s.rows s.columns cells blocks → OneToOne f' s.size s.rows s.columns cells blocks)
      → (k : Model) (records : List ChangeRecord) → Stands f k (state_of h cells records) blocks
      → OneToOne f h.shape.size h.shape.rows h.shape.columns cells blocks
  one_to_one_standing cells p k records t =
      let One : Meaning → Shape → Type 0 = λ g x. (g.q - 1) % x.size ≡ 0 → Holds g x.size x.rows x.columns cells blocks
      → OneToOne g x.size x.rows x.columns cells blocks in
      let q : One f h.shape = subst (λ (x : Shape). One f x) es (subst (λ (g : Meaning). One g s) ef p) in
      q (size_divides f k (state_of h cells records) blocks t) t.forms
