-- Each accepted call keeps a state standing for the model.
use Rattle.std.proofs.Common.{◌≡◌, ℕ, ◌+◌, ◌-◌, ◌*◌, ◌<◌, ◌≤◌, true, ◌≢◌, List, [], ◌∷◌, length, get_or, take, set, sym, refl, ap, ◌∙◌, subst, ⊎_elim, arith}
use Rattle.std.proofs.ByRecursion.{All-take, All-push, All-get_or}
use Rattle.std.proofs.lemmas.List.{length-set, length-take-le, length_push, take-take, take_all, take-append-le, get_or_append_left, get_or-take, get_or_push, get_or-set_same, get_or-set_other}
use Rattle.std.proofs.lemmas.Bool.{and_parts, and_from, lt-ltb, cases_lt}
use Rattle.array.specs.declared.plain.CellRow.{CellRow}
use Rattle.array.specs.Buffers.{cell_at}
use Rattle.array.specs.Cells.{sound, below, terms_of, normal}
use Rattle.array.specs.Shapes.{size_lawful, shape_lawful}
use Rattle.array.proofs.CellsFacts.{normal_sound}
use Rattle.history.specs.declared.plain.ChangeRecord.{ChangeRecord}
use Rattle.history.specs.States.{State, no_record, record_at, place_record, resize_record, record_fits, cells_by, size_by, placed, resized, moved, undo_fits, undone, redo_fits, redone}
use Rattle.history.specs.Model.{Drawing, Change, places, resizes, changed, drawn, Model, change_at, drawing, shown, with_change, with_first}
use Rattle.history.specs.Standing.{cell_lawful, DrawingLawful, ChangeLawful, ModelLawful, record_of, StandsFor}
use Rattle.history.proofs.Drawings.{drawn_push, drawing_more, drawing_lawful, Shows, shows_change, shows_back}

-- a new change leaves the drawings before it, and is the last one
module _ (m : Model) (x : Change) (low : m.in_force ≤ length m.changes) where
  taken : length (take m.in_force m.changes) ≡ m.in_force
  taken = length-take-le m.in_force m.changes low

  grown : length (with_change m x).changes ≡ m.in_force + 1
  grown = length_push (take m.in_force m.changes) x ∙ ap (λ (n : ℕ). n + 1) taken

  drawing_kept : (k : ℕ) → k ≤ m.in_force → drawing (with_change m x) k ≡ drawing m k
  drawing_kept k h =
      let l : k ≤ length (take m.in_force m.changes) = let e = taken in omega arith in
      ap (λ (xs : List Change). drawn m.start xs)
      (take-append-le k (take m.in_force m.changes) (x ∷ []) l ∙ take-take k m.in_force m.changes h)

  pub shown_grown : shown (with_change m x) ≡ changed (shown m) x
  shown_grown =
      let l : length (with_change m x).changes ≤ m.in_force + 1 = let e = grown in omega arith in
      ap (λ (xs : List Change). drawn m.start xs) (take_all (m.in_force + 1) (with_change m x).changes l)
      ∙ drawn_push m.start (take m.in_force m.changes) x

  earlier : (k : ℕ) → k < m.in_force → change_at (with_change m x) k ≡ change_at m k
  earlier k h =
      let l : k < length (take m.in_force m.changes) = let e = taken in omega arith in
      get_or_append_left (take m.in_force m.changes) (x ∷ []) (resizes 0) k l
      ∙ get_or-take m.in_force m.changes k (resizes 0) h

  last : change_at (with_change m x) m.in_force ≡ x
  last = get_or_push (take m.in_force m.changes) x (resizes 0) m.in_force taken

  -- each record is the one of its change, after the new one is written at the place after those in force
  records_grown : (records : List ChangeRecord) → m.in_force < length records
      → ((k : ℕ) → k < length m.changes → get_or records k no_record ≡ record_of (drawing m k) (change_at m k))
      → (k : ℕ) → k < length (with_change m x).changes
      → get_or (set records m.in_force (record_of (shown m) x)) k no_record
      ≡ record_of (drawing (with_change m x) k) (change_at (with_change m x) k)
  records_grown records room h k lt =
      ⊎_elim
      (λ (below : k < m.in_force).
      let ne : k ≢ m.in_force = omega arith in
      let old : k < length m.changes = omega arith in
      let e = earlier k below in
      let d = drawing_kept k (omega arith) in
      let r = h k old in
      cc (get_or-set_other records m.in_force k (record_of (shown m) x) no_record ne))
      (λ (above : m.in_force ≤ k).
      let same : k ≡ m.in_force = let g = grown in omega arith in
      let e = last in
      let d = drawing_kept m.in_force (omega arith) in
      cc (get_or-set_same records m.in_force (record_of (shown m) x) no_record room))
      (cases_lt k m.in_force)

  grown_lawful : ModelLawful m → ChangeLawful m.q m.rows m.columns x → ModelLawful (with_change m x)
  grown_lawful l c = record {
    start = l.start;
    changes = All-push (ChangeLawful m.q m.rows m.columns) (take m.in_force m.changes) x
        (All-take (ChangeLawful m.q m.rows m.columns) m.in_force m.changes l.changes) c;
    in_force = let e = grown in omega arith;
  }

-- the state with one more change in force: this size, these cells and this record
abbrev grows : State → ℕ → List CellRow → ChangeRecord → State
grows s e cells r = record {
  size = e;
  rows = s.rows;
  columns = s.columns;
  count = s.in_force + 1;
  in_force = s.in_force + 1;
  cells = cells;
  records = set s.records s.in_force r;
}

grows_stands : (q : ℕ) (m : Model) (s : State) (x : Change) (e : ℕ) (cells : List CellRow) (r : ChangeRecord)
    → StandsFor q m s → ChangeLawful m.q m.rows m.columns x → s.in_force < length s.records
    → e ≡ (changed (shown m) x).size → Shows m.rows m.columns cells (changed (shown m) x)
    → m.rows * m.columns ≤ length cells → r ≡ record_of (shown m) x
    → StandsFor q (with_change m x) (grows s e cells r)
grows_stands q m s x e cells r h lawful room size shows long is =
    let low = h.lawful.in_force in
    let new = shown_grown m x low in
    let enough : m.in_force < length s.records = let i = h.in_force in omega arith in
    record {
      lawful = grown_lawful m x low h.lawful lawful;
      order = h.order;
      rows = h.rows;
      columns = h.columns;
      count = ap (λ (n : ℕ). n + 1) h.in_force ∙ sym (grown m x low);
      in_force = ap (λ (n : ℕ). n + 1) h.in_force;
      size = size ∙ ap (λ (d : Drawing). d.size) (sym new);
      cells = subst (λ (d : Drawing). Shows m.rows m.columns cells d) (sym new) shows;
      records = λ k lt. let i = h.in_force in
          cc (records_grown m x low s.records enough h.records k lt);
      cells_long = long;
      records_long = let g = grown m x low in let l = length-set s.records s.in_force r in omega arith;
    }

-- the state with the first d of the changes in force: this size and these cells
abbrev goes : State → ℕ → ℕ → List CellRow → State
goes s d e cells = record
    { size = e; rows = s.rows; columns = s.columns; count = s.count; in_force = d; cells = cells; records = s.records }

goes_stands : (q : ℕ) (m : Model) (s : State) (d n e : ℕ) (cells : List CellRow)
    → StandsFor q m s → n ≡ d → d ≤ length m.changes → e ≡ (drawing m d).size → Shows m.rows m.columns cells (drawing m d)
    → m.rows * m.columns ≤ length cells
    → StandsFor q (with_first m d) (goes s n e cells)
goes_stands q m s d n e cells h is low size shows long = record {
  lawful = record { start = h.lawful.start; changes = h.lawful.changes; in_force = low };
  order = h.order;
  rows = h.rows;
  columns = h.columns;
  count = h.count;
  in_force = is;
  size = size;
  cells = shows;
  records = h.records;
  cells_long = long;
  records_long = h.records_long;
}

-- a record fits, and what it puts in makes the size and the cells those of a drawing
pub record Puts (q rows columns : ℕ) (r : ChangeRecord) (row : CellRow) (e held : ℕ) (cells : List CellRow) (d : Drawing) : Type 0 where
  pub fits : record_fits q rows columns r row e ≡ true
  pub size : size_by r e held ≡ d.size
  pub shows : Shows rows columns (cells_by r row columns cells) d
  pub long : rows * columns ≤ length (cells_by r row columns cells)

module _ (q rows columns : ℕ) (d : Drawing) (size : ℕ) (cells : List CellRow) (long : rows * columns ≤ length cells) where
  -- the record of a change fits, and takes the drawing back to the one before the change
  puts_back : (x : Change) → ChangeLawful q rows columns x → DrawingLawful q rows columns d
      → size ≡ (changed d x).size → Shows rows columns cells (changed d x)
      → Puts q rows columns (record_of d x) (record_of d x).cell_before (record_of d x).size_before size cells d
  puts_back (places i j row) c l e h =
      let p = and_parts (sound (d.cell i j)) (below q (terms_of (d.cell i j))) (l.cells i j) in
      let n = normal_sound (d.cell i j) p.0 in
      record {
        fits = and_from _ _ (and_from _ _ (lt-ltb i rows c.0) (lt-ltb j columns c.1)) p.1;
        size = e;
        shows = subst (λ (y : CellRow). Shows rows columns (set cells (i * columns + j) y) d) (sym n)
            (shows_back rows columns i j c.0 c.1 cells long d row h);
        long = let s = length-set cells (i * columns + j) (normal (d.cell i j)) in omega arith;
      }
  puts_back (resizes t) c l e h = record
      { fits = and_from _ _ l.size l.shape; size = refl; shows = h; long = long }

  -- and takes the drawing on to the one after it
  puts_on : (x : Change) → ChangeLawful q rows columns x → size ≡ d.size → Shows rows columns cells d
      → Puts q rows columns (record_of d x) (record_of d x).cell_after (record_of d x).size_after size cells (changed d x)
  puts_on (places i j row) c e h =
      let p = and_parts (sound row) (below q (terms_of row)) c.2 in
      let n = normal_sound row p.0 in
      record {
        fits = and_from _ _ (and_from _ _ (lt-ltb i rows c.0) (lt-ltb j columns c.1)) p.1;
        size = e;
        shows = subst (λ (y : CellRow). Shows rows columns (set cells (i * columns + j) y) (changed d (places i j row))) (sym n)
            (shows_change rows columns i j c.0 c.1 cells long d row h);
        long = let s = length-set cells (i * columns + j) (normal row) in omega arith;
      }
  puts_on (resizes t) c e h = record
      { fits = and_from _ _ c.0 c.1; size = refl; shows = h; long = long }

-- a state that stands for the model, and one of the calls accepted
module _ (q : ℕ) (m : Model) (s : State) (h : StandsFor q m s) where
  pub placed_stands : (i j : ℕ) (row : CellRow) → i < s.rows → j < s.columns → cell_lawful q row ≡ true
      → s.in_force < length s.records → StandsFor q (with_change m (places i j row)) (placed s i j row)
  placed_stands i j row hi hj lawful room =
      let li : i < m.rows = let e = h.rows in omega arith in
      let lj : j < m.columns = let e = h.columns in omega arith in
      let p = and_parts (sound ((shown m).cell i j)) (below m.q (terms_of ((shown m).cell i j))) ((drawing_lawful m h.lawful m.in_force).cells i j) in
      let was : normal (cell_at s.columns s.cells i j) ≡ (shown m).cell i j =
      ap (λ (c : ℕ). normal (cell_at c s.cells i j)) h.columns ∙ ap normal (h.cells i j li lj) ∙ normal_sound ((shown m).cell i j) p.0 in
      grows_stands q m s (places i j row) s.size (set s.cells (i * s.columns + j) row)
      (place_record i j (normal (cell_at s.columns s.cells i j)) row) h
      (li, lj, subst (λ (n : ℕ). cell_lawful n row ≡ true) (sym h.order) lawful)
      room h.size
      (subst (λ (c : ℕ). Shows m.rows m.columns (set s.cells (i * c + j) row) (changed (shown m) (places i j row))) (sym h.columns)
      (shows_change m.rows m.columns i j li lj s.cells h.cells_long (shown m) row h.cells))
      (let e = length-set s.cells (i * s.columns + j) row in let l = h.cells_long in omega arith)
      (ap (λ (x : CellRow). place_record i j x row) was)

  pub resized_stands : (e : ℕ) → size_lawful q e ≡ true → shape_lawful e s.rows s.columns ≡ true
      → s.in_force < length s.records → StandsFor q (with_change m (resizes e)) (resized s e)
  resized_stands e size shape room =
      grows_stands q m s (resizes e) e s.cells (resize_record s.size e) h (
        subst (λ (n : ℕ). size_lawful n e ≡ true) (sym h.order) size,
        subst (λ (n : ℕ). shape_lawful e n m.columns ≡ true) h.rows
            (subst (λ (n : ℕ). shape_lawful e s.rows n ≡ true) h.columns shape),
      )
      room refl h.cells h.cells_long (ap (λ (n : ℕ). resize_record n e) h.size)

  change_lawful : (k : ℕ) → k < length m.changes → ChangeLawful m.q m.rows m.columns (change_at m k)
  change_lawful k lt = All-get_or (ChangeLawful m.q m.rows m.columns) m.changes k (resizes 0) lt h.lawful.changes

  -- what a record puts in, at the order and the shape that the call is given
  module _ (r : ChangeRecord) (row : CellRow) (e d : ℕ) (p : Puts m.q m.rows m.columns r row e s.size s.cells (drawing m d)) where
    puts_fits : record_fits q s.rows s.columns r row e ≡ true
    puts_fits = let o = h.order in let a = h.rows in let b = h.columns in cc p.fits

    puts_stands : (n : ℕ) → n ≡ d → d ≤ length m.changes → StandsFor q (with_first m d) (moved s n r row e)
    puts_stands n is low =
        goes_stands q m s d n (size_by r e s.size) (cells_by r row s.columns s.cells) h is low p.size
        (subst (λ (c : ℕ). Shows m.rows m.columns (cells_by r row c s.cells) (drawing m d)) (sym h.columns) p.shows)
        (subst (λ (c : ℕ). m.rows * m.columns ≤ length (cells_by r row c s.cells)) (sym h.columns) p.long)

  module _ (some : 0 < s.in_force) where
    undo_puts : let r = record_at s (s.in_force - 1) in
        Puts m.q m.rows m.columns r r.cell_before r.size_before s.size s.cells (drawing m (m.in_force - 1))
    undo_puts =
        let k = m.in_force - 1 in
        let d = drawing m k in
        let i = h.in_force in
        let low = h.lawful.in_force in
        let lt : k < length m.changes = omega arith in
        let up : k + 1 ≡ m.in_force = omega arith in
        let now : shown m ≡ changed d (change_at m k) = ap (λ (n : ℕ). drawing m n) (sym up) ∙ drawing_more m k lt in
        let is : record_at s (s.in_force - 1) ≡ record_of d (change_at m k) =
        ap (λ (n : ℕ). record_at s (n - 1)) h.in_force ∙ h.records k lt in
        subst (λ (r : ChangeRecord). Puts m.q m.rows m.columns r r.cell_before r.size_before s.size s.cells d) (sym is)
        (puts_back m.q m.rows m.columns d s.size s.cells h.cells_long (change_at m k) (change_lawful k lt)
        (drawing_lawful m h.lawful k) (h.size ∙ ap (λ (x : Drawing). x.size) now)
        (subst (λ (x : Drawing). Shows m.rows m.columns s.cells x) now h.cells))

    pub undo_fits_known : undo_fits q s ≡ true
    undo_fits_known =
        let r = record_at s (s.in_force - 1) in puts_fits r r.cell_before r.size_before (m.in_force - 1) undo_puts

    pub undone_stands : StandsFor q (with_first m (m.in_force - 1)) (undone s)
    undone_stands =
        let r = record_at s (s.in_force - 1) in
        let low = h.lawful.in_force in
        puts_stands r r.cell_before r.size_before (m.in_force - 1) undo_puts (s.in_force - 1)
        (ap (λ (n : ℕ). n - 1) h.in_force) (omega arith)

  module _ (some : s.in_force < s.count) where
    within : m.in_force < length m.changes
    within = let i = h.in_force in let c = h.count in omega arith

    redo_puts : let r = record_at s s.in_force in
        Puts m.q m.rows m.columns r r.cell_after r.size_after s.size s.cells (drawing m (m.in_force + 1))
    redo_puts =
        let k = m.in_force in
        let d = shown m in
        let is : record_at s s.in_force ≡ record_of d (change_at m k) =
        ap (λ (n : ℕ). record_at s n) h.in_force ∙ h.records k within in
        subst (λ (x : Drawing). let r = record_at s s.in_force in
        Puts m.q m.rows m.columns r r.cell_after r.size_after s.size s.cells x) (sym (drawing_more m k within))
        (subst (λ (r : ChangeRecord). Puts m.q m.rows m.columns r r.cell_after r.size_after s.size s.cells (changed d (change_at m k))) (sym is)
        (puts_on m.q m.rows m.columns d s.size s.cells h.cells_long (change_at m k) (change_lawful k within) h.size h.cells))

    pub redo_fits_known : redo_fits q s ≡ true
    redo_fits_known =
        let r = record_at s s.in_force in puts_fits r r.cell_after r.size_after (m.in_force + 1) redo_puts

    pub redone_stands : StandsFor q (with_first m (m.in_force + 1)) (redone s)
    redone_stands =
        let r = record_at s s.in_force in
        let w = within in
        puts_stands r r.cell_after r.size_after (m.in_force + 1) redo_puts (s.in_force + 1)
        (ap (λ (n : ℕ). n + 1) h.in_force) (omega arith)
