use Rattle.std.proofs.Common.{get_or}
use Rattle.algebra.specs.Matrices.{free}
use Rattle.coder.specs.Forms.{row_major}
use Rattle.coder.proofs.ReadOff.{ReadTo}
use Rattle.coder.proofs.matrices.Matrix.read_free.Given as goal

abbrev pub invariant-loop-j : goal.invariant-loop-j
invariant-loop-j l =
    let form = l.self in
    ReadTo (free form.rows (row_major form.columns form.symbols.now)) (λ j. get_or l.values j 0) l.initial.out l.out l.j l.k
