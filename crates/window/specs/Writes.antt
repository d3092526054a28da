-- Lists of writes, and what docs/SPECIFICATION.md, section 7.11, claims of them.
use Rattle.std.specs.Prelude.{◌≡◌, Bool, false, not, ◌&&◌, ◌||◌, ◌≢◌, ◌⊎◌, List, [], ◌∷◌, ℕ, ◌+◌, ◌≤◌, ◌<◌, eqb, get_or}
use Rattle.trellis.specs.Lists.{pick}
use Rattle.machine.specs.CodeLine.{good, Code, parse}
use Rattle.machine.specs.Decoding.{Buffers, decoding}
use Rattle.window.specs.Window.{Registers, idle, read, bit_for, setting, Window, write}

-- a write: which byte, and what is written
pub record Write : Type 0 where
  pub byte : ℕ
  pub value : ℕ

-- writes one after the other, where "the same code, frame and buffers are lent throughout and nobody else writes them"
abbrev pub writes : List ℕ → List ℕ → List Write → Window → Window
writes code f [] w = w
writes code f (x ∷ l) w = writes code f l (write code f x.byte x.value w)

-- how many of them are command v
abbrev pub commands : ℕ → List Write → ℕ
commands v [] = 0
commands v (x ∷ l) = pick (eqb x.byte 0 && eqb x.value v) 1 0 + commands v l

abbrev pub load_command : Write
load_command = record { byte = 0; value = 1 }

-- "ends with the outcome, t and buffers of one decode call on the buffers as the load found them"; outcome 0 is state 2, 1 is state 3
pub record EndsAs (code f : List ℕ) (before : Buffers) (after : Window) : Type 0 where
  pub outcome : after.registers.state ≡ get_or (2 ∷ 3 ∷ []) (decoding code f before).reply.number 0
  pub no_refusal : after.registers.refusal ≡ 0
  pub iterations : after.registers.iterations ≡ (decoding code f before).reply.value
  pub buffers : after.buffers ≡ (decoding code f before).buffers

-- a list of bytes
abbrev pub Bytes : List ℕ → Type 0
Bytes l = (i : ℕ) → get_or l i 0 ≤ 255

-- "a load that is not refused, followed by I commands 2 with no load between": from any state of the window, among any other writes, and
-- with more commands 2 too
abbrev pub LoadAndIterate : Type 0
LoadAndIterate =
    (code f : List ℕ) (C : Code) (w : Window) (l : List Write) → Bytes code → Bytes f → parse code ≡ good C
    → (decoding code f w.buffers).reply.refused ≡ false → commands 1 l ≡ 0 → C.limit ≤ commands 2 l
    → EndsAs code f w.buffers (writes code f (load_command ∷ l) w)

-- a write with what is lent to it: anybody may have changed the code, the frame and the buffers since the last one
pub record Lending : Type 0 where
  pub byte : ℕ
  pub value : ℕ
  pub code : List ℕ
  pub frame : List ℕ
  pub buffers : Buffers
  pub code_is_bytes : Bytes code
  pub value-byte : value ≤ 255

abbrev pub lent_to : Registers → Lending → Window
lent_to r x = write x.code x.frame x.byte x.value (record { registers = r; buffers = x.buffers })

abbrev pub step : Registers → Lending → Registers
step r x = (lent_to r x).registers

-- the registers after a list of writes
abbrev pub since : Registers → List Lending → Registers
since r [] = r
since r (x ∷ l) = since (step r x) l

-- what the registers show after every list of writes from idle
pub record RegistersShow (r : Registers) : Type 0 where
  pub byte_0 : read r 0 ≡ 0
  pub past_5 : (a : ℕ) → 5 < a → read r a ≡ 0
  pub states : r.state ≤ 4
  -- "byte 2 shows an existing one, else 0"
  pub number : r.state ≡ 4 → (2 ≤ r.refusal) × (r.refusal ≤ 19)
  pub no_number : r.state ≢ 4 → r.refusal ≡ 0
  -- byte 3 is 0 in 0 and 4, not in 3, and below 255 while running, so that "2 with byte 3 at 255" finds the window not running
  pub idle-none : r.state ≡ 0 → r.iterations ≡ 0
  pub refused_none : r.state ≡ 4 → r.iterations ≡ 0
  pub missed_some : r.state ≡ 3 → 0 < r.iterations
  pub running-low : r.state ≡ 1 → r.iterations < 255
  pub two-bits : r.pending < 4
  pub bytes : (a : ℕ) → read r a ≤ 255

-- a load, or an iteration that is run
abbrev pub acts : Registers → Lending → Bool
acts r x = eqb x.byte 0 && (eqb x.value 1 || (eqb x.value 2 && (eqb r.state 1 && not (eqb r.iterations 255))))

-- register by register: what a write changes
pub record Changes (r : Registers) (x : Lending) : Type 0 where
  -- only a load or an iteration changes bytes 1 to 3 and the buffers
  pub quiet : acts r x ≡ false
      → ((step r x).state ≡ r.state) × ((step r x).refusal ≡ r.refusal) × ((step r x).iterations ≡ r.iterations)
      × ((lent_to r x).buffers ≡ x.buffers)
  -- only a write to byte 4 changes the mask
  pub mask : (step r x).mask ≡ pick (eqb x.byte 4) x.value r.mask
  -- only 3 clears pending, and only entering 2, 3 or 4 sets bits
  pub pending : (step r x).pending
      ≡ pick (eqb x.byte 0 && eqb x.value 3) 0 (pick (acts r x) (setting r.pending (bit_for (step r x).state)) r.pending)
  -- "Entering 4 changes no buffer"
  pub refusing : (step r x).state ≡ 4 → (lent_to r x).buffers ≡ x.buffers
  -- only an iteration adds to byte 3, and adds 1
  pub iterations : ((step r x).iterations ≡ r.iterations) ⊎ (((step r x).iterations ≡ 0) ⊎ ((step r x).iterations ≡ r.iterations + 1))

-- "For every list of writes from idle, the window answers as this paragraph says"
abbrev pub EveryList : Type 0
EveryList = (l : List Lending) → RegistersShow (since idle l) × ((x : Lending) → Changes (since idle l) x)
