-- A survey at the size and shape that were asked for.
use Rattle.std.proofs.Common.{◌≡◌, ℕ, ◌*◌, ◌≤◌, List, get_or, refl, subst, arith}
use Rattle.field.specs.Meaning.{Meaning}
use Rattle.algebra.specs.Transforms.{check_block}
use Rattle.algebra.proofs.Counts.{rank_counts_lem}
use Rattle.array.specs.declared.plain.CellRow.{CellRow}
use Rattle.blocks.specs.Blocks.{circulant, block_at, Holds}
use Rattle.coder.specs.Forms.{dimension, deficient}
use Rattle.survey.specs.Surveys.{Surveyed}

module _ (f : Meaning) (cells : List CellRow) (before after : List ℕ) (k lacking : ℕ) where
  abbrev Measured : ℕ → ℕ → ℕ → Type 0
  Measured e rows columns =
      Holds f e rows columns cells after × (k ≡ dimension rows columns e after) × (lacking ≡ deficient rows columns e after)
      × ((i : ℕ) → rows * columns * e ≤ i → get_or after i 0 ≡ get_or before i 0)

  pub surveyed : (e rows columns e' rows' columns' : ℕ) → e' ≡ e → rows' ≡ rows → columns' ≡ columns → Measured e' rows' columns'
      → Surveyed f e rows columns cells after (columns * e) k lacking × ((i : ℕ) → rows * columns * e ≤ i → get_or after i 0 ≡ get_or before i 0)
  surveyed e rows columns e' rows' columns' ee er ec m' =
      let m : Measured e rows columns =
      subst (λ (x : ℕ). Measured x rows columns) ee (subst (λ (x : ℕ). Measured e' x columns) er (subst (λ (x : ℕ). Measured e' rows' x) ec m')) in (
        record {
          holds = m.0;
          long = refl;
          dim = m.1;
          lack = m.2;
          ranks = λ t rank l r.
              let n = rank_counts_lem f rows columns rank (check_block f e (circulant f e columns cells) t) (block_at rows columns after t) r in
              omega (arith, n.1, n.2);
        },
        m.3,
      )
