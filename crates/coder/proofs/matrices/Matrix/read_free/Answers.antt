use Rattle.std.proofs.Common.{◌≡◌, ℕ, ◌+◌, Bool, true, List, length, get_or, sym, ◌∙◌, subst, arith}
use Rattle.algebra.specs.Matrices.{free}
use Rattle.coder.specs.Forms.{row_major}
use Rattle.coder.proofs.ReadOff.{ReadTo, read_free_lem, read_taken, read_room}
use Rattle.coder.proofs.matrices.Matrix.read_free.Goals as goal
use Rattle.coder.proofs.matrices.Matrix.read_free.Goals.{then-is_free, else-is_free}

pub loop-j-preserved : goal.loop-j-preserved
loop-j-preserved c =
    let form = c.args.self.now in
    let p : ℕ → Bool = free form.rows (row_major form.columns form.symbols.now) in
    let v : ℕ → ℕ = λ j. get_or c.args.values.now j 0 in
    let j = c.loop-j.j in
    let before = c.args.out.now in
    let k' = c.if-is_free.k in
    elim c.if-is_free.branch [
      | then-is_free w ↦
          let t : p j ≡ true = sym c.is_free.ensures ∙ w.if-is_free.true in
          subst (λ (ys : List ℕ). ReadTo p v before ys (j + 1) k') (sym w.out-is)
          (read_free_lem p v before c.loop-j.out j c.loop-j.k c.loop-j.invariant k' t
          (read_room form.columns j c.loop-j.k (length before) p (omega arith) t c.loop-j.invariant.0 c.requires.space) w.k-is)
      | else-is_free w ↦
          subst (λ (ys : List ℕ). ReadTo p v before ys (j + 1) k') (sym w.out-is)
          (read_taken p v before c.loop-j.out j c.loop-j.k c.loop-j.invariant k' (sym c.is_free.ensures ∙ w.if-is_free.false) w.k-is)
    ]
