use Rattle.std.proofs.Common.{◌≡◌, ℕ, ◌<◌, sym, ◌∙◌, arith, below_more}
use Rattle.code.specs.Checks.{syndrome}
use Rattle.code.proofs.receiver.check.Goals as goal

pub loop-row-preserved : goal.loop-row-preserved
loop-row-preserved g c =
    let f = g.F.Field.meaning c.args.f.now in
    let s = c.args.shape.now in
    let Zero : ℕ → Type 0 = λ h. (k : ℕ) → k < s.size → syndrome f s.size s.columns c.args.cells.now c.args.word.now h k ≡ 0 in (
      omega arith,
      λ h k l m. below_more Zero c.loop-row.row (λ h l k m. c.loop-row.invariant.1 h k l m)
          (λ k m. sym (c.row_syndromes.ensures k m) ∙ c.in_default.ensures k (omega arith)) h l k m,
    )
