use Rattle.std.proofs.Common.{ℕ, ◌+◌, ◌-◌, refl, arith}
use Rattle.reduction.proofs.Places.{parts_swapped}
use Rattle.reduction.proofs.rows.Matrix.swap_rows.Goals as goal

pub returns-clause-swapped : goal.returns-clause-swapped
returns-clause-swapped c =
    let m = c.args.self.now in
    let first = c.place-first.result in
    let k : ℕ = first + m.columns - first in
    let parts = c.split_at_mut-above.ensures in
    parts_swapped m.rows m.columns m.symbols.now c.split_at_mut-above.result.0.now c.split_at_mut-above.result.1.now
    c.swap_with_slice.new.self c.swap_with_slice.new.other c.args.a c.args.h first c.place-second.result k m.columns m.sized
    c.requires.within (omega arith) c.place-first.ensures.is c.place-second.ensures.is (omega arith) refl parts.value parts.front_len
    c.swap_with_slice.ensures.after c.swap_with_slice.ensures.other_after
