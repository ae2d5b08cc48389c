-- What holds where a call does not refuse.
use Rattle.std.proofs.Common.{◌≡◌, ℕ, ◌<◌, List, length, get_or, None, arith}
use Rattle.std.proofs.lemmas.Bool.Decides.{nat_tests}
use Rattle.field.proofs.SymbolTests.{symbols_at}
use Rattle.coder.specs.Encoding.{encode_refusal}

module _ (q e rows columns : ℕ) (blocks message : List ℕ) (out work : ℕ) (h : encode_refusal q e rows columns blocks message out work ≡ None) where
  pub encode_symbols : (k : ℕ) → k < length message → get_or message k 0 < q
  encode_symbols = symbols_at q message (grind (arith, nat_tests, h))
