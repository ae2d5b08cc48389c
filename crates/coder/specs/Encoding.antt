-- Encoding through the echelon forms in a block buffer.
use Rattle.std.specs.Prelude.{◌≡◌, ℕ, ◌+◌, ◌*◌, ◌<◌, ◌≤◌, ◌&&◌, ◌⊎◌, List, length, None, Ok, Err, Option, Result, ◌==◌, ◌≢◌, nat_le, slice_index}
use Rattle.refusal.specs.declared.Refusal.{Refusal}
use Rattle.refusal.specs.declared.Refusal.TheVariants.{Size, Shape, Buffer, Place, Cell, Full, Nothing, Length, Symbol, Room, Check, Record, Degree}
use Rattle.field.specs.Meaning.{Meaning}
use Rattle.algebra.specs.Transforms.{synthesis}
use Rattle.algebra.specs.Solutions.{offset, filled}
use Rattle.array.specs.Shapes.{unless}
use Rattle.blocks.specs.Blocks.{block_at}
use Rattle.field.specs.Symbols.{symbols_below}
use Rattle.coder.specs.Forms.{frees, dimension}

-- the spectrum of a message's word at frequency t, in column j: the message symbols go block by block to the free columns, in rising
-- order, and a leading column gets the sum over the free columns of its row's entry there times that column's symbol
abbrev pub spread : Meaning → ℕ → ℕ → List ℕ → List ℕ → ℕ → ℕ → ℕ
spread f rows columns blocks message t =
    filled f rows columns (block_at rows columns blocks t) (λ k. slice_index message (offset columns (frees rows columns blocks) t + k))

-- symbol l of column j of the word of a message
abbrev pub encoded : Meaning → ℕ → ℕ → ℕ → List ℕ → List ℕ → ℕ → ℕ → ℕ
encoded f e rows columns blocks message j l = synthesis f e (λ t. spread f rows columns blocks message t j) l

-- What is judged before encoding: block symbols enough, the length of the message, its symbols, then room. The first that fails is the refusal.
abbrev pub Encodable : ℕ → ℕ → ℕ → ℕ → List ℕ → List ℕ → ℕ → ℕ → Result Unit Refusal → Type 0
Encodable q e rows columns blocks message out work (Ok _) =
    (16384 ≤ length blocks) × (length message ≡ dimension rows columns e blocks) × ((k : ℕ) → k < length message → slice_index message k < q)
    × (columns * e ≤ out) × (columns * e ≤ work)
Encodable q e rows columns blocks message out work (Err Buffer) = length blocks < 16384
Encodable q e rows columns blocks message out work (Err Length) =
    (16384 ≤ length blocks) × (length message ≢ dimension rows columns e blocks)
Encodable q e rows columns blocks message out work (Err Symbol) =
    (16384 ≤ length blocks) × (length message ≡ dimension rows columns e blocks) × ((k : ℕ) × (k < length message) × (q ≤ slice_index message k))
Encodable q e rows columns blocks message out work (Err Room) =
    (16384 ≤ length blocks) × (length message ≡ dimension rows columns e blocks) × ((k : ℕ) → k < length message → slice_index message k < q)
    × ((out < columns * e) ⊎ (work < columns * e))
Encodable q e rows columns blocks message out work (Err Size) = ⊥
Encodable q e rows columns blocks message out work (Err Shape) = ⊥
Encodable q e rows columns blocks message out work (Err Place) = ⊥
Encodable q e rows columns blocks message out work (Err Cell) = ⊥
Encodable q e rows columns blocks message out work (Err Degree) = ⊥
Encodable q e rows columns blocks message out work (Err Full) = ⊥
Encodable q e rows columns blocks message out work (Err Nothing) = ⊥
Encodable q e rows columns blocks message out work (Err Check) = ⊥
Encodable q e rows columns blocks message out work (Err Record) = ⊥

-- encode refuses: too few block symbols, then a message that has not as many symbols as the dimension, then a number that is no symbol,
-- then too little room for the word or for working
abbrev pub encode_refusal : ℕ → ℕ → ℕ → ℕ → List ℕ → List ℕ → ℕ → ℕ → Option Refusal
encode_refusal q e rows columns blocks message out work =
    unless (nat_le 16384 (length blocks)) Buffer
    (unless (length message == dimension rows columns e blocks) Length
    (unless (symbols_below q message) Symbol
    (unless (nat_le (columns * e) out && nat_le (columns * e) work) Room None)))
