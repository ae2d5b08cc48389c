use Rattle.std.proofs.Common.{◌≡◌, ◌-◌, ◌^◌, min, true, take}
use Rattle.guldremor.specs.Words.{digits, decimal}
use Rattle.guldremor.proofs.words.number_of.Given as goal

abbrev pub invariant-loop-b : goal.invariant-loop-b
invariant-loop-b l = (digits (take l.b-index l.bytes) ≡ true) × (l.n ≡ min (decimal 0 (take l.b-index l.bytes)) (2 ^ 64 - 1))
