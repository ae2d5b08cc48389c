use Rattle.std.proofs.Common.{length, get_or}
use Rattle.coder.proofs.Writes.{WrittenTo}
use Rattle.coder.proofs.transform.scatter.Given as goal

abbrev pub invariant-loop-j : goal.invariant-loop-j
invariant-loop-j l = WrittenTo (length l.sums) l.size l.l (λ j. get_or l.sums j 0) l.initial.out l.out l.j
