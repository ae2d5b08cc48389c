use Rattle.std.proofs.Common.{◌≡◌, ℕ, get_or, ap, ◌∙◌, arith}
use Rattle.field.specs.Sums.{total}
use Rattle.algebra.specs.Solutions.{solved}
use Rattle.algebra.proofs.Sums.{total_same}
use Rattle.coder.specs.Forms.{row_major}
use Rattle.coder.proofs.Fills.{stored, solved_at_free, solved_at_lead}
use Rattle.coder.proofs.matrices.Matrix.solve.Goals as goal
use Rattle.coder.proofs.matrices.Matrix.solve.Goals.{in-Some, in-None}

pub loop-j-preserved : goal.loop-j-preserved
loop-j-preserved g c = λ v hv.
    let f = g.F.Field.meaning c.args.f.now in
    let w = g.met.F.Field.lawful c.args.f.now in
    let form = c.args.self.now in
    let n = form.columns in
    let rows = form.rows in
    let m : ℕ → ℕ → ℕ = row_major n form.symbols.now in
    let u : ℕ → ℕ = λ j. get_or c.args.values.now j 0 in
    let j = c.loop-j.j in
    let x = c.match-lead_row.symbol in
    let e : x ≡ solved f rows n m v j =
    elim c.match-lead_row.branch [
      | in-Some w' ↦
          let i = w'.in-Some.i in
          let row = w'.row.result.now in
          let found = w'.in-Some.ensures in
          solved_at_lead f w rows n m v u hv j i x found.1 found.2
          (w'.symbol-is ∙ w'.row_times.ensures ∙ ap (λ (k : ℕ). total f k (λ h. f.product (get_or row h 0) (u h))) w'.row.ensures.sized
          ∙ total_same f w n (λ h. f.product (get_or row h 0) (u h)) (λ h. f.product (m i h) (u h))
          (λ h l. ap (λ (y : ℕ). f.product y (u h)) (w'.row.ensures.entries h l)))
      | in-None w' ↦ solved_at_free f w rows n m v u hv j x (omega arith) (w'.in-None.ensures) w'.symbol-is
    ] in
    stored (solved f rows n m v) c.loop-j.row j x (omega arith) (c.loop-j.invariant v hv) e
