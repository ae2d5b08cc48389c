-- The rules for cells, and what a plain row means.
use Rattle.std.specs.Prelude.{ℕ, ◌+◌, Bool, true, cond, ◌&&◌, List, [], ◌∷◌, ◌++◌, length, take, drop, replicate, ◌==◌, nat_le, nat_lt}
use Rattle.std.specs.List.{list_all}
use Rattle.array.specs.declared.plain.Term.{Term}
use Rattle.array.specs.declared.plain.CellRow.{CellRow}

-- shifts rise strictly, from `low` on, and stay below 512; coefficients are from 1 to 511
abbrev pub rising : ℕ → List Term → Bool
rising low [] = true
rising low (t ∷ ts) = nat_le low t.shift && (nat_lt t.shift 512 && (nat_le 1 t.coefficient && (nat_lt t.coefficient 512 && rising (t.shift + 1) ts)))

-- the rules for a cell, on its list of terms
abbrev pub lawful : List Term → Bool
lawful ts = nat_le (length ts) 4 && rising 0 ts

-- the term that stands in the unused places of a row
abbrev pub no_term : Term
no_term = record { shift = 0; coefficient = 0 }

-- the row of a list of terms: its length, the terms, and unused places filled up
abbrev pub packed : List Term → CellRow
packed ts = record { count = length ts; terms = take 4 (ts ++ replicate 4 no_term) }

-- the row of the cell that has no terms
abbrev pub empty : CellRow
empty = packed []

-- every term is the one of an unused place
abbrev pub unused : List Term → Bool
unused ts = list_all (λ t. t.shift == 0 && t.coefficient == 0) ts

-- the row of some cell: a lawful list of terms, the unused places 0
abbrev pub sound : CellRow → Bool
sound r = nat_le r.count 4 && (lawful (take r.count r.terms) && unused (drop r.count r.terms))

-- the row of the cell that a row is read as: itself, or the empty cell's where it breaks a rule
abbrev pub normal : CellRow → CellRow
normal r = cond (sound r) r empty

-- the terms of the cell that a row is read as
abbrev pub terms_of : CellRow → List Term
terms_of r = cond (sound r) (take r.count r.terms) []

-- every coefficient is below q
abbrev pub below : ℕ → List Term → Bool
below q ts = list_all (λ t. nat_lt t.coefficient q) ts
