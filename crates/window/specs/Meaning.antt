-- The struct of src/ as the registers, and with the lent buffers as the window.
use Rattle.std.specs.Prelude.{ℕ}
use Rattle.machine.specs.Decoding.{Buffers}
use Rattle.window.specs.Window.{Registers as Bytes, Window}
use Rattle.window.specs.declared.registers.Registers.{Registers}
use Rattle.window.specs.declared.states.State.{State}
use Rattle.window.specs.declared.states.State.TheVariants.{Running, Found, NotFound, Refused}

abbrev pub bytes_of : Registers → Bytes
bytes_of r = record { state = r.state; refusal = r.refusal; iterations = r.iterations; mask = r.mask; pending = r.pending }

abbrev pub window_of : Registers → Buffers → Window
window_of r b = record { registers = bytes_of r; buffers = b }

-- "1 running, 2 found, 3 not found, 4 refused"
abbrev pub state_number : State → ℕ
state_number Running = 1
state_number Found = 2
state_number NotFound = 3
state_number Refused = 4
