-- What a survey of an array at a size says.
use Rattle.std.specs.Prelude.{◌≡◌, ℕ, ◌*◌, ◌<◌, ◌&&◌, List, None, Option, nat_le}
use Rattle.refusal.specs.declared.Refusal.{Refusal}
use Rattle.refusal.specs.declared.Refusal.TheVariants.{Size, Shape, Buffer}
use Rattle.field.specs.Meaning.{Meaning}
use Rattle.algebra.specs.Matrices.{Reduced}
use Rattle.algebra.specs.Transforms.{check_block}
use Rattle.array.specs.declared.plain.CellRow.{CellRow}
use Rattle.array.specs.Shapes.{unless, size_lawful, shape_lawful}
use Rattle.blocks.specs.Blocks.{circulant, block_at, Holds}
use Rattle.coder.specs.Forms.{dimension, rank_at, deficient}

-- a survey refuses: the size, then the shape, then too few cells or block symbols
abbrev pub survey_refusal : ℕ → ℕ → ℕ → ℕ → ℕ → ℕ → Option Refusal
survey_refusal q e rows columns cells blocks =
    unless (size_lawful q e) Size (unless (shape_lawful e rows columns) Shape (unless (nat_le 512 cells && nat_le 16384 blocks) Buffer None))

pub record Surveyed (f : Meaning) (e rows columns : ℕ) (cells : List CellRow) (blocks : List ℕ) (n k lacking : ℕ) : Type 0 where
  -- the buffer holds the echelon forms of the array's check blocks at this size
  pub holds : Holds f e rows columns cells blocks
  -- a word has so many symbols, and a message so many
  pub long : n ≡ columns * e
  pub dim : k ≡ dimension rows columns e blocks
  -- so many blocks lack full rank
  pub lack : lacking ≡ deficient rows columns e blocks
  -- where the rank that is counted is the rank of the check block
  pub ranks : (t rank : ℕ) → t < e →
      Reduced f rows columns (check_block f e (circulant f e columns cells) t) (block_at rows columns blocks t) rank → rank_at rows columns blocks t ≡ rank
