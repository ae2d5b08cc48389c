use Rattle.std.proofs.Common.{◌≡◌, true, List, ◌++◌, length, drop, replicate, sym, subst}
use Rattle.array.specs.declared.plain.Term.{Term}
use Rattle.array.specs.declared.plain.CellRow.{CellRow}
use Rattle.array.specs.Cells.{lawful, packed, sound, no_term}
use Rattle.array.proofs.CellsFacts.{take_padded, lawful_short, packed_sound}
use Rattle.array.proofs.cell.CellTryFromRefSliceTerm.try_from.Goals as goal

-- four unused places with the terms ts written over the first
made : (ts ys : List Term) → true ≡ lawful ts → ys ≡ ts
    → ◌≡◌ {A = CellRow} (record { count = length ts; terms = ys ++ drop (length ts) (replicate 4 no_term) }) (packed ts)
made ts ys h e = cc (take_padded 4 no_term ts (lawful_short ts (sym h)))

pub invariant_of-result : goal.invariant_of-result
invariant_of-result c =
    let h = c.if-not-is_lawful.ensures in
    let e = made c.args.terms.now c.copy_from_slice.new.self h c.copy_from_slice.ensures.after in
    record { keeps = subst (λ (r : CellRow). sound r ≡ true) (sym e) (packed_sound c.args.terms.now (sym h)) }

pub returns : goal.returns
returns c =
    let h = c.if-not-is_lawful.ensures in
    (sym h, made c.args.terms.now c.copy_from_slice.new.self h c.copy_from_slice.ensures.after)
