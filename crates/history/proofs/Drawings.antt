-- Drawings after changes: one more change, cells in a buffer, and that lawful changes keep a drawing lawful.
use Rattle.std.proofs.Common.{◌≡◌, ℕ, ◌+◌, ◌*◌, ◌/◌, ◌%◌, ◌<◌, ◌≤◌, true, cond, ◌&&◌, eqb, ◌≢◌, List, [], ◌∷◌, ◌++◌, length, take, set, sym, refl, ap, ◌∙◌, arith}
use Rattle.std.specs.List.{AllByRecursion}
use Rattle.std.proofs.lemmas.Nat.{div-mul-add, mod-mul-add, mul-add-lt}
use Rattle.std.proofs.ByRecursion.{All-take}
use Rattle.std.proofs.lemmas.List.{take_more, get_or-set_same, get_or-set_other}
use Rattle.std.proofs.lemmas.Bool.{cond_both, cond-false, and_parts, and_from, eqb-true, eq-eqb, both_ways}
use Rattle.array.specs.declared.plain.CellRow.{CellRow}
use Rattle.array.specs.Buffers.{cell_at, blank}
use Rattle.history.specs.Model.{Drawing, Change, places, resizes, changed, drawn, Model, change_at, drawing, shown}
use Rattle.history.specs.Standing.{cell_lawful, DrawingLawful, ChangeLawful, ModelLawful}

pub drawn_push : (d : Drawing) (xs : List Change) (x : Change) → drawn d (xs ++ x ∷ []) ≡ changed (drawn d xs) x
drawn_push d [] x = refl
drawn_push d (y ∷ ys) x = drawn_push (changed d y) ys x

-- the drawing after one more of the changes
pub drawing_more : (m : Model) (k : ℕ) → k < length m.changes
    → drawing m (k + 1) ≡ changed (drawing m k) (change_at m k)
drawing_more m k h =
    ap (λ (xs : List Change). drawn m.start xs) (take_more m.changes k (resizes 0) h)
    ∙ drawn_push m.start (take k m.changes) (change_at m k)

module _ (q rows columns : ℕ) where
  pub changed_lawful : (d : Drawing) (x : Change) → DrawingLawful q rows columns d → ChangeLawful q rows columns x
      → DrawingLawful q rows columns (changed d x)
  changed_lawful d (places i j row) l c = record {
    size = l.size;
    shape = l.shape;
    cells = λ a b. cond_both (eqb a i && eqb b j) row (d.cell a b) (λ r. cell_lawful q r ≡ true) (λ _. c.2) (λ _. l.cells a b);
  }
  changed_lawful d (resizes e) l c = record { size = c.0; shape = c.1; cells = l.cells }

  pub drawn_lawful : (d : Drawing) (xs : List Change) → DrawingLawful q rows columns d → AllByRecursion (ChangeLawful q rows columns) xs
      → DrawingLawful q rows columns (drawn d xs)
  drawn_lawful d [] l c = l
  drawn_lawful d (x ∷ xs) l c = drawn_lawful (changed d x) xs (changed_lawful d x l c.0) c.1

-- every drawing along the history of a lawful model is lawful, and so is the one that is shown
pub drawing_lawful : (m : Model) → ModelLawful m → (k : ℕ) → DrawingLawful m.q m.rows m.columns (drawing m k)
drawing_lawful m l k =
    drawn_lawful m.q m.rows m.columns m.start (take k m.changes) l.start
    (All-take (ChangeLawful m.q m.rows m.columns) k m.changes l.changes)

pub shown_lawful : (m : Model) → ModelLawful m → DrawingLawful m.q m.rows m.columns (shown m)
shown_lawful m l = drawing_lawful m l m.in_force

-- two places of an array stand at one place of the buffer only where their rows and their columns agree
pub same_place : (columns a b i j : ℕ) → b < columns → j < columns → a * columns + b ≡ i * columns + j → (a ≡ i) × (b ≡ j)
same_place columns a b i j hb hj e = (
  sym (div-mul-add a columns b hb) ∙ ap (λ (n : ℕ). n / columns) e ∙ div-mul-add i columns j hj,
  sym (mod-mul-add a columns b hb) ∙ ap (λ (n : ℕ). n % columns) e ∙ mod-mul-add i columns j hj,
)

pub place_below : (rows columns i j : ℕ) → i < rows → j < columns → i * columns + j < rows * columns
place_below rows columns i j hi hj = omega (arith, mul-add-lt i columns j rows hi hj)

-- the cells of a buffer after a write at row i and column j
pub cell_at_set : (columns : ℕ) (cells : List CellRow) (i j a b : ℕ) (row : CellRow) → j < columns → b < columns
    → i * columns + j < length cells
    → cell_at columns (set cells (i * columns + j) row) a b ≡ cond (eqb a i && eqb b j) row (cell_at columns cells a b)
cell_at_set columns cells i j a b row hj hb l =
    cond_both (eqb a i && eqb b j) row (cell_at columns cells a b)
    (λ (x : CellRow). cell_at columns (set cells (i * columns + j) row) a b ≡ x)
    (λ t.
    let p = and_parts (eqb a i) (eqb b j) t in
    let ea = eqb-true a i p.0 in
    let eb = eqb-true b j p.1 in
    cc (get_or-set_same cells (i * columns + j) row blank l))
    (λ f.
    let ne : a * columns + b ≢ i * columns + j =
    λ e. let s = same_place columns a b i j hb hj e in
    both_ways (eqb a i && eqb b j) f (and_from (eqb a i) (eqb b j) (eq-eqb a i s.0) (eq-eqb b j s.1)) in
    get_or-set_other cells (i * columns + j) (a * columns + b) row blank ne)

-- the buffer has the cells of a drawing
abbrev pub Shows : ℕ → ℕ → List CellRow → Drawing → Type 0
Shows rows columns cells d = (i j : ℕ) → i < rows → j < columns → cell_at columns cells i j ≡ d.cell i j

module _ (rows columns i j : ℕ) (hi : i < rows) (hj : j < columns) (cells : List CellRow) (l : rows * columns ≤ length cells) (d : Drawing) (row : CellRow) where
  within : i * columns + j < length cells
  within = let h = place_below rows columns i j hi hj in omega arith

  -- the row of a change written, and the row that was there before written again
  pub shows_change : Shows rows columns cells d → Shows rows columns (set cells (i * columns + j) row) (changed d (places i j row))
  shows_change h a b ha hb =
      cell_at_set columns cells i j a b row hj hb within
      ∙ ap (λ (x : CellRow). cond (eqb a i && eqb b j) row x) (h a b ha hb)

  pub shows_back : Shows rows columns cells (changed d (places i j row)) → Shows rows columns (set cells (i * columns + j) (d.cell i j)) d
  shows_back h a b ha hb =
      cell_at_set columns cells i j a b (d.cell i j) hj hb within
      ∙ cond_both (eqb a i && eqb b j) (d.cell i j) (cell_at columns cells a b) (λ (x : CellRow). x ≡ d.cell a b)
      (λ t. let p = and_parts (eqb a i) (eqb b j) t in cc (eqb-true a i p.0, eqb-true b j p.1))
      (λ f. h a b ha hb ∙ cond-false (eqb a i && eqb b j) row (d.cell a b) f)
