-- What a buffer holds once the slice of its first items, which was lent to write, is given back.
use Rattle.std.specs.Prelude.{List}
use Rattle.std.specs.Borrow.{Lends, MutBor, Fml, RattleType, Array}
use Rattle.std.specs.Vec.{with_items_from}
use Rattle.guldremor.specs.declared.lent.Lent.{Lent}
use Rattle.guldremor.specs.contracts.lent.Lent.{the_row}

-- the first items are what the slice shows last; those after them stay, and so many are lent as before
abbrev pub with_first : {X : Type 0} → Lent X → List X → Lent X
with_first b xs = record b { items = with_items_from b.items 0 xs }

abbrev pub LendsFirst : (T : RattleType) → MutBor (Lent T.Denot) → MutBor (List T.Denot) → Fml
LendsFirst T b r = Lends (the_row T) (Array T 0) b r (with_first b.now)
