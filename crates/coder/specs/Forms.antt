-- The echelon forms in a block buffer, read as they stand there: which columns are free, and the dimension.
use Rattle.std.specs.Prelude.{ℕ, ◌+◌, ◌-◌, ◌*◌, Bool, ◌&&◌, List, nat_lt, slice_index}
use Rattle.algebra.specs.Matrices.{free, count}
use Rattle.algebra.specs.Solutions.{offset}
use Rattle.blocks.specs.Blocks.{block_at}

-- the matrix that stands row by row in a list
abbrev pub row_major : ℕ → List ℕ → ℕ → ℕ → ℕ
row_major columns xs i j = slice_index xs (i * columns + j)

-- the free columns of the block at each frequency
abbrev pub frees : ℕ → ℕ → List ℕ → ℕ → ℕ → Bool
frees rows columns blocks t = free rows (block_at rows columns blocks t)

-- the dimension: the number of free columns of all blocks together
abbrev pub dimension : ℕ → ℕ → ℕ → List ℕ → ℕ
dimension rows columns e blocks = offset columns (frees rows columns blocks) e

-- the rank of the block at frequency t: the number of its columns that are not free
abbrev pub rank_at : ℕ → ℕ → List ℕ → ℕ → ℕ
rank_at rows columns blocks t = columns - count columns (frees rows columns blocks t)

-- how many blocks lack full rank: fewer rows, and fewer columns, than the block has are independent
abbrev pub deficient : ℕ → ℕ → ℕ → List ℕ → ℕ
deficient rows columns e blocks = count e (λ t. nat_lt (rank_at rows columns blocks t) rows && nat_lt (rank_at rows columns blocks t) columns)
