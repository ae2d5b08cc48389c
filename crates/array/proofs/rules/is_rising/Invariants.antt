use Rattle.std.proofs.Common.{◌≡◌, drop}
use Rattle.array.specs.Cells.{rising}
use Rattle.array.proofs.rules.is_rising.Given as goal

abbrev pub invariant-loop-term : goal.invariant-loop-term
invariant-loop-term l = rising l.low (drop l.term-index l.terms) ≡ rising 0 l.terms
