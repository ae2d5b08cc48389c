-- Each call answers as the model does, and the state after it stands for the model after it.
use Rattle.std.proofs.Common.{◌≡◌, ℕ, ◌+◌, ◌*◌, ◌≤◌, true, List, ◌++◌, length, get_or, drop, replicate, None, Ok, Err, Option, Result, sym, refl, ap, ◌∙◌, subst, arith, MatchResult}
use Rattle.std.specs.Result.{result_err}
use Rattle.std.proofs.lemmas.List.{length-append, length-replicate, get_or_append_left, get_or-replicate}
use Rattle.std.proofs.lemmas.Bool.{and_from}
use Rattle.refusal.specs.declared.Refusal.{Refusal}
use Rattle.array.specs.declared.plain.CellRow.{CellRow}
use Rattle.array.specs.Buffers.{blank}
use Rattle.array.specs.Cells.{sound, empty, below, terms_of}
use Rattle.array.specs.Shapes.{size_lawful, shape_lawful}
use Rattle.history.specs.declared.plain.Lengths.{Lengths}
use Rattle.history.specs.Refusals.{Counts, place_refusal, resize_refusal, undo_refusal, redo_refusal}
use Rattle.history.specs.States.{State, counts, lengths, placed, resized, undo_fits, undone, redo_fits, redone}
use Rattle.history.specs.Model.{Model, fresh, Request, place, resize, undo, redo, model_counts, answer, accepted, unless_refused}
use Rattle.history.specs.Standing.{StandsFor, Kept, refusal_of, state_after, Serves}
use Rattle.history.proofs.RefusalsFacts.{place_accepted, resize_accepted, undo_accepted, redo_accepted, undo_fitting, redo_fitting}
use Rattle.history.proofs.Drawings.{place_below}
use Rattle.history.proofs.StandingKept.{placed_stands, resized_stands, undo_fits_known, undone_stands, redo_fits_known, redone_stands}

-- a call whose refusal is the model's, and which is as good as the model where it is accepted
module _ (q : ℕ) (m : Model) (n : Lengths) (a : Request) (s after done : State) (h : StandsFor q m s)
    (o : Option Refusal) (same : o ≡ answer m n a) (stands : o ≡ None → StandsFor q (accepted m a) done) where
  settle : (r : Result (Unit {0}) Refusal) → result_err r ≡ o → MatchResult r (λ _. after ≡ done) (λ _. after ≡ s) → Kept q m n a r after
  settle (Ok u) says does = record {
    says = says ∙ same;
    stands = subst (λ (x : Option Refusal). StandsFor q (unless_refused x m (accepted m a)) after) (says ∙ same)
        (subst (λ (t : State). StandsFor q (accepted m a) t) (sym does) (stands (sym says)));
  }
  settle (Err x) says does = record {
    says = says ∙ same;
    stands = subst (λ (x : Option Refusal). StandsFor q (unless_refused x m (accepted m a)) after) (says ∙ same)
        (subst (λ (t : State). StandsFor q m t) (sym does) h);
  }

counts_same : (q : ℕ) (m : Model) (s : State) → StandsFor q m s → counts s ≡ model_counts m
counts_same q m s h = let a = h.rows in let b = h.columns in let c = h.count in let d = h.in_force in cc

module _ (q blocks : ℕ) (s after : State) (r : Result (Unit {0}) Refusal) where
  place_kept : (i j : ℕ) (row : CellRow) → sound row ≡ true
      → result_err r ≡ place_refusal q (counts s) (lengths s blocks) i j row
      → MatchResult r (λ _. after ≡ placed s i j row) (λ _. after ≡ s)
      → (m : Model) → StandsFor q m s → Kept q m (lengths s blocks) (place i j row) r after
  place_kept i j row keeps says does m h =
      let c = counts_same q m s h in
      let o = h.order in
      settle q m (lengths s blocks) (place i j row) s after (placed s i j row) h (place_refusal q (counts s) (lengths s blocks) i j row) (cc)
      (λ e.
      let p = place_accepted q (counts s) (lengths s blocks) i j row e in
      placed_stands q m s h i j row p.0 p.1 (and_from (sound row) (below q (terms_of row)) keeps p.2) p.3)
      r says does

  resize_kept : (e : ℕ)
      → result_err r ≡ resize_refusal q (counts s) (lengths s blocks) e
      → MatchResult r (λ _. after ≡ resized s e) (λ _. after ≡ s)
      → (m : Model) → StandsFor q m s → Kept q m (lengths s blocks) (resize e) r after
  resize_kept e says does m h =
      let c = counts_same q m s h in
      let o = h.order in
      settle q m (lengths s blocks) (resize e) s after (resized s e) h (resize_refusal q (counts s) (lengths s blocks) e) (cc)
      (λ f.
      let p = resize_accepted q (counts s) (lengths s blocks) e f in
      resized_stands q m s h e p.0 p.1 p.2)
      r says does

  undo_kept : result_err r ≡ undo_refusal (counts s) (lengths s blocks) (undo_fits q s)
      → MatchResult r (λ _. after ≡ undone s) (λ _. after ≡ s)
      → (m : Model) → StandsFor q m s → Kept q m (lengths s blocks) undo r after
  undo_kept says does m h =
      let n = lengths s blocks in
      settle q m n undo s after (undone s) h (undo_refusal (counts s) n (undo_fits q s))
      (undo_fitting (counts s) n (undo_fits q s) (undo_fits_known q m s h) ∙ ap (λ (k : Counts). undo_refusal k n true) (counts_same q m s h))
      (λ e. undone_stands q m s h (undo_accepted (counts s) n (undo_fits q s) e))
      r says does

  redo_kept : result_err r ≡ redo_refusal (counts s) (lengths s blocks) (redo_fits q s)
      → MatchResult r (λ _. after ≡ redone s) (λ _. after ≡ s)
      → (m : Model) → StandsFor q m s → Kept q m (lengths s blocks) redo r after
  redo_kept says does m h =
      let n = lengths s blocks in
      settle q m n redo s after (redone s) h (redo_refusal (counts s) n (redo_fits q s))
      (redo_fitting (counts s) n (redo_fits q s) (redo_fits_known q m s h) ∙ ap (λ (k : Counts). redo_refusal k n true) (counts_same q m s h))
      (λ e. redone_stands q m s h (redo_accepted (counts s) n (redo_fits q s) e))
      r says does

  -- the cell of a request is a cell's row
  abbrev pub HasCell : Request → Type 0
  HasCell (place i j row) = sound row ≡ true
  HasCell (resize e) = Unit {0}
  HasCell undo = Unit {0}
  HasCell redo = Unit {0}

  -- a call that answers by its rules and makes the state that is wanted keeps the models, too
  pub serves : (a : Request) → HasCell a → result_err r ≡ refusal_of q s (lengths s blocks) a
      → MatchResult r (λ _. after ≡ state_after s a) (λ _. after ≡ s) → Serves q s after blocks a r
  serves (place i j row) cell says does = record { says = says; does = does; model = place_kept i j row cell says does }
  serves (resize e) cell says does = record { says = says; does = does; model = resize_kept e says does }
  serves undo cell says does = record { says = says; does = does; model = undo_kept says does }
  serves redo cell says does = record { says = says; does = does; model = redo_kept says does }

-- a new history stands for the model with no changes, whatever the record buffer holds
pub fresh_stands : (q e rows columns : ℕ) (s : State) (cells : List CellRow)
    → size_lawful q e ≡ true → shape_lawful e rows columns ≡ true → rows * columns ≤ length cells
    → s.size ≡ e → s.rows ≡ rows → s.columns ≡ columns → s.count ≡ 0 → s.in_force ≡ 0
    → s.cells ≡ replicate (rows * columns) empty ++ drop (rows * columns) cells
    → StandsFor q (fresh q e rows columns) s
fresh_stands q e rows columns s cells size shape long size_is rows_is columns-is count_is in_force-is cells_are = record {
  lawful = record {
    start = record { size = size; shape = shape; cells = λ _ _. refl };
    changes = tt;
    in_force = omega arith;
  };
  order = refl;
  rows = rows_is;
  columns = columns-is;
  count = count_is;
  in_force = in_force-is;
  size = size_is;
  cells = λ i j hi hj.
      let l = length-replicate (rows * columns) empty in
      let w = place_below rows columns i j hi hj in
      ap (λ (xs : List CellRow). get_or xs (i * columns + j) blank) cells_are
      ∙ get_or_append_left (replicate (rows * columns) empty) (drop (rows * columns) cells) blank (i * columns + j) (omega arith)
      ∙ get_or-replicate (rows * columns) (i * columns + j) empty blank w;
  records = λ k none. absurd (omega arith);
  cells_long =
      let l = length-replicate (rows * columns) empty in
      let a = length-append (replicate (rows * columns) empty) (drop (rows * columns) cells) in
      let b = ap length cells_are in
      omega arith;
  records_long = omega arith;
}
