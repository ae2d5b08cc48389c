-- Lists of symbols.
use Rattle.std.specs.Prelude.{ℕ, Bool, List, nat_lt}
use Rattle.std.specs.List.{list_all}

-- every number of the list is a symbol of the field of q symbols
abbrev pub symbols_below : ℕ → List ℕ → Bool
symbols_below q xs = list_all (λ x. nat_lt x q) xs
