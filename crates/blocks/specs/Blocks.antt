-- The check blocks of an array at a circulant size, and how they stand in a buffer.
use Rattle.std.specs.Prelude.{◌≡◌, ℕ, ◌+◌, ◌*◌, ◌%◌, ◌<◌, ◌≤◌, List, length, get_or, ◌≢◌, slice_index, slice_index_or}
use Rattle.field.specs.Meaning.{Meaning, power}
use Rattle.field.specs.Sums.{total}
use Rattle.algebra.specs.Matrices.{Reduced}
use Rattle.algebra.specs.Transforms.{root, generator, check_block}
use Rattle.array.specs.declared.plain.Term.{Term}
use Rattle.array.specs.declared.plain.CellRow.{CellRow}
use Rattle.array.specs.Cells.{no_term, terms_of}
use Rattle.array.specs.Buffers.{blank, cell_at}

-- symbol l of the generator of the circulant of cell (i, j)
abbrev pub circulant : Meaning → ℕ → ℕ → List CellRow → ℕ → ℕ → ℕ → ℕ
circulant f e columns cells i j =
    let ts = terms_of (cell_at columns cells i j) in
    generator f e (length ts) (λ k. (get_or ts k no_term).shift) (λ k. (get_or ts k no_term).coefficient)

-- entry (i, j) of block t in a buffer: blocks one after the other, each row by row
abbrev pub block_at : ℕ → ℕ → List ℕ → ℕ → ℕ → ℕ → ℕ
block_at rows columns blocks t i j = slice_index blocks (t * (rows * columns) + (i * columns + j))

-- a list of terms at frequency t: the sum over the terms of coefficient times the root to the power shift times t
abbrev pub terms_at : Meaning → ℕ → List Term → ℕ → ℕ
terms_at f e ts t =
    total f (length ts) (λ k. f.product (get_or ts k no_term).coefficient (power f (root f e) (((get_or ts k no_term).shift % e) * t)))

-- After the buffer of blocks was changed at place k alone: v t was added to the entry at each frequency t below e.
pub record AddedAt (f : Meaning) (places e k : ℕ) (v : ℕ → ℕ) (before after : List ℕ) : Type 0 where
  pub here : (t : ℕ) → t < e → slice_index after (t * places + k) ≡ f.sum (slice_index before (t * places + k)) (v t)
  pub others : (i : ℕ) → (i % places ≢ k) → slice_index after i ≡ slice_index before i
  pub past : (i : ℕ) → places * e ≤ i → slice_index after i ≡ slice_index before i

-- The buffer holds the check blocks, place by place: place k is the cell number k of the array; what lies past them is as it was.
pub record Built (f : Meaning) (places e : ℕ) (cells : List CellRow) (before after : List ℕ) : Type 0 where
  pub entry : (t k : ℕ) → t < e → k < places → slice_index after (t * places + k) ≡ terms_at f e (terms_of (slice_index_or cells k blank)) t
  pub past : (i : ℕ) → places * e ≤ i → slice_index after i ≡ slice_index before i

-- The buffer holds the reduced row echelon form of the check block at every frequency.
abbrev pub Holds : Meaning → ℕ → ℕ → ℕ → List CellRow → List ℕ → Type 0
Holds f e rows columns cells blocks = (t : ℕ) → t < e →
    (rank : ℕ) × Reduced f rows columns (check_block f e (circulant f e columns cells) t) (block_at rows columns blocks t) rank
