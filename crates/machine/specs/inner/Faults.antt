-- The refusal of a code's buffers by its number.
use Rattle.std.specs.Prelude.{ℕ, ◌*◌, length}
use Rattle.trellis.specs.Refusals.{fault_by}
use Rattle.machine.specs.CodeLine.{Code, size}
use Rattle.machine.specs.Machine.{used}
use Rattle.machine.specs.Decoding.{Buffers, room_tests}

-- 2, 3, 4 or 19; 0 for none
unfoldable pub room_fault : Code → Buffers → ℕ
room_fault C b =
    fault_by (room_tests C.columns (C.columns * size C) (used C) (length b.symbols) (length b.costs) (length b.store)
    (length b.margins))
