-- Facts on rows of cells, for this crate and for its callers.
use Rattle.std.proofs.Common.{◌≡◌, ℕ, zero, suc, ◌+◌, ◌-◌, ◌≤◌, true, false, cond, List, [], ◌++◌, length, take, drop, replicate, refl, arith}
use lib.Seq.{take-append-add}
use Rattle.std.proofs.lemmas.List.{take_at, drop_at, take-replicate, drop-replicate}
use Rattle.std.proofs.lemmas.Bool.{cond-true, cond_both}
use Rattle.std.proofs.lemmas.Bool.Decides.{nat_tests}
use Rattle.array.specs.declared.plain.Term.{Term}
use Rattle.array.specs.declared.plain.CellRow.{CellRow}
use Rattle.array.specs.Cells.{lawful, unused, packed, empty, sound, normal, terms_of, no_term}

-- a list filled up with y to n places
pub take_padded : {X : Type 0} (n : ℕ) (y : X) (xs : List X) → length xs ≤ n
    → take n (xs ++ replicate n y) ≡ xs ++ drop (length xs) (replicate n y)
take_padded n y xs h =
    let e : length xs + (n - length xs) ≡ n = omega arith in
    let l : n - length xs ≤ n = omega arith in
    cc (e, take-append-add xs (replicate n y) (n - length xs), take-replicate (n - length xs) n y l, drop-replicate (length xs) n y)

pub unused_padding : (n k : ℕ) → unused (drop k (replicate n no_term)) ≡ true
unused_padding zero zero = refl
unused_padding zero (suc k) = refl
unused_padding (suc n) zero = unused_padding n zero
unused_padding (suc n) (suc k) = unused_padding n k

-- a lawful list of terms has at most four
pub lawful_short : (ts : List Term) → lawful ts ≡ true → length ts ≤ 4
lawful_short ts h = grind (arith, nat_tests)

-- the row that is made of a lawful list is the row of a cell, and has the list as its terms
pub packed_terms : (ts : List Term) → lawful ts ≡ true → take (length ts) (packed ts).terms ≡ ts
packed_terms ts h =
    cc (take_padded 4 no_term ts (lawful_short ts h), take_at ts (drop (length ts) (replicate 4 no_term)) (length ts) refl)

pub packed_rest : (ts : List Term) → lawful ts ≡ true → drop (length ts) (packed ts).terms ≡ drop (length ts) (replicate 4 no_term)
packed_rest ts h =
    cc (take_padded 4 no_term ts (lawful_short ts h), drop_at ts (drop (length ts) (replicate 4 no_term)) (length ts) refl)

pub packed_sound : (ts : List Term) → lawful ts ≡ true → sound (packed ts) ≡ true
packed_sound ts h = simp (packed_terms ts h, packed_rest ts h, unused_padding 4 (length ts)) (grind (arith, nat_tests))

-- a cell's row is read as itself, and what a row is read as is a cell's
pub normal_sound : (r : CellRow) → sound r ≡ true → normal r ≡ r
normal_sound r h = cond-true (sound r) r empty h

-- the terms of a cell's row, and of the cell that a row is read as
pub terms_normal : (r : CellRow) → take (normal r).count (normal r).terms ≡ terms_of r
terms_normal r =
    elim (sound r) as (λ b. take (cond b r empty).count (cond b r empty).terms ≡ cond b (take r.count r.terms) [])
    [ true ↦ refl | false ↦ refl ]
