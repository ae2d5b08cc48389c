-- The number of each refusal.
use Rattle.std.specs.Prelude.{ℕ}
use Rattle.refusal.specs.declared.Refusal.{Refusal}
use Rattle.refusal.specs.declared.Refusal.TheVariants.{Size, Shape, Buffer, Place, Cell, Full, Nothing, Length, Symbol, Room, Check, Record, Degree}

abbrev pub number : Refusal → ℕ
number Size = 1
number Shape = 2
number Buffer = 3
number Place = 4
number Cell = 5
number Full = 6
number Nothing = 7
number Length = 8
number Symbol = 9
number Room = 10
number Check = 11
number Record = 15
number Degree = 16
