-- What a history says of the buffers that it is used with.
use Rattle.std.specs.Prelude.{List}
use Rattle.array.specs.declared.plain.CellRow.{CellRow}
use Rattle.history.specs.declared.plain.ChangeRecord.{ChangeRecord}
use Rattle.history.specs.declared.edit.History.{History}
use Rattle.history.specs.States.{State, state}

-- the array, its size and its history as they stand in the buffers of cells and records
abbrev pub state_of : History → List CellRow → List ChangeRecord → State
state_of h cells records = state h.shape h.count h.in_force cells records
