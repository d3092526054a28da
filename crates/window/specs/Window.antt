-- The register window of docs/SPECIFICATION.md, section 7.11: six bytes, and a write to them.
use Rattle.std.specs.Prelude.{Bool, not, List, [], ◌∷◌, ℕ, eqb, get_or}
use Rattle.std.specs.Int.Bits.{bit_and, bit_or}
use Rattle.trellis.specs.Lists.{pick}
use Rattle.machine.specs.Decoding.{Buffers}
use Rattle.machine.specs.Moments.{Moment, loading, iterating}

-- "1 state, 2 refusal number, 3 iterations done, 4 interrupt mask, 5 pending"; "States: 0 idle, 1 running, 2 found, 3 not found, 4
-- refused."
pub record Registers : Type 0 where
  pub state : ℕ
  pub refusal : ℕ
  pub iterations : ℕ
  pub mask : ℕ
  pub pending : ℕ

-- "All bytes start at 0"
abbrev pub idle : Registers
idle = record { state = 0; refusal = 0; iterations = 0; mask = 0; pending = 0 }

-- "byte 0 always reads 0"; "a read past byte 5 gives 0"
unfoldable pub read : Registers → ℕ → ℕ
read r a = get_or (0 ∷ r.state ∷ r.refusal ∷ r.iterations ∷ r.mask ∷ r.pending ∷ []) a 0

-- "The interrupt is raised when mask and pending share a bit."
unfoldable pub interrupt : Registers → Bool
interrupt r = not (eqb (bit_and r.mask r.pending) 0)

-- the registers, and the lent buffers
pub record Window : Type 0 where
  pub registers : Registers
  pub buffers : Buffers

-- "Bit 0 of pending is set on entering 2 or 3, bit 1 on entering 4"
abbrev pub bit_for : ℕ → ℕ
bit_for state = get_or (0 ∷ 0 ∷ 1 ∷ 1 ∷ 2 ∷ []) state 0

unfoldable pub setting : ℕ → ℕ → ℕ
setting pending bit = bit_or pending bit

-- a state after a load or an iteration, with bytes 2 and 3; "mask and pending are kept"
abbrev pub entering : ℕ → ℕ → ℕ → Registers → Registers
entering state number t r =
    record { state = state; refusal = number; iterations = t; mask = r.mask; pending = setting r.pending (bit_for state) }

-- the window after such a moment
abbrev pub taking : Moment → Registers → Window
taking m r = record { registers = entering m.stage.state m.stage.number m.t r; buffers = m.buffers }

-- "A load from any state starts afresh with byte 3 at 0"
abbrev pub load : List ℕ → List ℕ → Window → Window
load code f w = taking (loading code f w.buffers) w.registers

-- "with t in byte 3"
abbrev pub iterate : List ℕ → List ℕ → Window → Window
iterate code f w = taking (iterating code f w.registers.iterations w.buffers) w.registers

-- bytes 4 and 5 changed
abbrev pub masked : ℕ → Window → Window
masked v w =
    let r : Registers = w.registers in
    record {
      registers = record { state = r.state; refusal = r.refusal; iterations = r.iterations; mask = v; pending = r.pending };
      buffers = w.buffers;
    }

abbrev pub cleared : Window → Window
cleared w =
    let r : Registers = w.registers in
    record {
      registers = record { state = r.state; refusal = r.refusal; iterations = r.iterations; mask = r.mask; pending = 0 };
      buffers = w.buffers;
    }

-- command 2 "runs one iteration if running", and "with byte 3 at 255" does nothing
unfoldable pub second : List ℕ → List ℕ → Window → Window
second code f w = pick (eqb w.registers.state 1) (pick (eqb w.registers.iterations 255) w (iterate code f w)) w

-- "Command 1 loads the lent code and frame and runs the first test; 2 runs one iteration if running; 3 clears pending; other values .. do
-- nothing."
unfoldable pub command : List ℕ → List ℕ → ℕ → Window → Window
command code f v w =
    pick (eqb v 1) (load code f w)
    (pick (eqb v 2) (second code f w)
    (pick (eqb v 3) (cleared w)
    w))

-- "A write outside bytes 0 and 4 is ignored"
unfoldable pub write : List ℕ → List ℕ → ℕ → ℕ → Window → Window
write code f a v w = pick (eqb a 0) (command code f v w) (pick (eqb a 4) (masked v w) w)
