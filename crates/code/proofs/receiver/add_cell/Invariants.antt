use Rattle.std.proofs.Common.{◌≡◌, ℕ, ◌+◌, ◌%◌, ◌<◌, length, get_or}
use Rattle.field.specs.Sums.{total}
use Rattle.array.specs.Cells.{no_term}
use Rattle.code.proofs.receiver.add_cell.Given as goal

abbrev pub invariant-loop-term : goal.invariant-loop-term
invariant-loop-term g l =
    let m = g.F.Field.meaning l.f in
    let x = l.column in
    (s : ℕ) → s < length x → get_or l.sums s 0 ≡ m.sum (get_or l.initial.sums s 0)
    (total m l.term-index (λ k. m.product (get_or l.terms k no_term).coefficient (get_or x (((get_or l.terms k no_term).shift + s) % length x) 0)))
