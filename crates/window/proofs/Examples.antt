-- The specification's example through the window, and refusals of command 2, by evaluation.
use mathlib.Core.Path.{◌≡◌, refl}
use mathlib.Core.Bool.{true}
use mathlib.Core.List.{List, [], ◌∷◌, ◌++◌}
use Prim.Native.Nat.{ℕ}
use lib.ListN.{replicate}
use Rattle.trellis.specs.Field.{xor}
use Rattle.trellis.specs.Rules.{first_ok}
use Rattle.trellis.specs.Check.{extra, sent_at, least_cost, choices, shift, decided, margin_of}
use Rattle.trellis.specs.Record.{record_of, shifts, group, above, pair_tests, pairs_ok, record_tests, record_ok, read_at, expand_at}
use Rattle.machine.specs.CodeLine.{parse, checks, check_at, edges, read_edge, frame_fault}
use Rattle.machine.specs.Machine.{spread, arriving, outgoing, incoming, settled, symbols, margins, place}
use Rattle.machine.specs.Lent.{costs_lent, record_lent, update_lent, iteration_lent, message_lent}
use Rattle.machine.specs.Decoding.{Buffers, admitted}
use Rattle.machine.specs.Moments.{costs_ok, store_ok, resumable, loading, iterating}
use Rattle.window.specs.Window.{Registers, idle, interrupt, Window, setting, second, command, write}
use Rattle.window.specs.Writes.{Write, writes}

abbrev line : List ℕ
line = 2 ∷ 0 ∷ 3 ∷ 1 ∷ 16 ∷ 1 ∷ 3 ∷ 0 ∷ 0 ∷ 1 ∷ 0 ∷ 1 ∷ 1 ∷ 0 ∷ 2 ∷ 1 ∷ []

abbrev frame : List ℕ
frame = 5 ∷ 0 ∷ 9 ∷ 7 ∷ 0 ∷ 4 ∷ 8 ∷ 3 ∷ 0 ∷ 6 ∷ 2 ∷ 10 ∷ []

-- buffers one too long each
abbrev lent : Buffers
lent = record { symbols = replicate 4 7; margins = replicate 4 7; costs = replicate 13 7; store = replicate 19 7 }

abbrev bytes : ℕ → ℕ → ℕ → ℕ → ℕ → Registers
bytes a b c d e = record { state = a; refusal = b; iterations = c; mask = d; pending = e }

abbrev to : ℕ → ℕ → Write
to a v = record { byte = a; value = v }

abbrev after : List Write → Window
after l = writes line frame l (record { registers = idle; buffers = lent })

-- mask 1, a load: running, with the frame's decisions and margins, the frame as costs, the store untouched
pub loaded : after (to 4 1 ∷ to 0 1 ∷ [])
    ≡ record {
      registers = bytes 1 0 0 1 0;
      buffers = record {
        symbols = 1 ∷ 0 ∷ 0 ∷ 7 ∷ [];
        margins = 5 ∷ 3 ∷ 2 ∷ 7 ∷ [];
        costs = frame ++ (7 ∷ []);
        store = replicate 19 7;
      };
    }
unfolding write command loading setting admitted parse first_ok checks check_at edges read_edge frame_fault place spread arriving outgoing incoming settled symbols margins margin_of choices least_cost xor record_of shifts group above extra sent_at shift decided
loaded = refl

-- then command 2: found in one iteration, bit 0 pending, the interrupt raised
pub found : after (to 4 1 ∷ to 0 1 ∷ to 0 2 ∷ [])
    ≡ record {
      registers = bytes 2 0 1 1 1;
      buffers = record {
        symbols = 1 ∷ 1 ∷ 0 ∷ 7 ∷ [];
        margins = 1 ∷ 1 ∷ 1 ∷ 7 ∷ [];
        costs = 1 ∷ 0 ∷ 7 ∷ 6 ∷ 1 ∷ 0 ∷ 11 ∷ 1 ∷ 0 ∷ 2 ∷ 1 ∷ 13 ∷ 7 ∷ [];
        store = 0 ∷ 1 ∷ 1 ∷ 4 ∷ 1 ∷ 5 ∷ 255 ∷ 0 ∷ 2 ∷ 2 ∷ 7 ∷ 255 ∷ 0 ∷ 3 ∷ 1 ∷ 7 ∷ 255 ∷ 0 ∷ 7 ∷ [];
      };
    }
unfolding write command second loading iterating resumable costs_ok store_ok update_lent costs_lent record_lent iteration_lent message_lent read_at expand_at setting admitted parse first_ok checks check_at edges read_edge frame_fault place spread arriving outgoing incoming settled symbols margins margin_of choices least_cost xor record_of shifts group above extra sent_at shift decided
found = refl

pub interrupt-raised : interrupt (bytes 2 0 1 1 1) ≡ true
unfolding interrupt
interrupt-raised = refl

-- a running window with buffers that somebody else has written: no 0 in a column, a cost above 510, a record that is not of accepted form
abbrev costs : ℕ → List ℕ
costs v = 0 ∷ v ∷ 1 ∷ 1 ∷ 0 ∷ 1 ∷ 1 ∷ 1 ∷ 0 ∷ 1 ∷ 1 ∷ 1 ∷ []

abbrev number : ℕ → List ℕ → ℕ
number t c = (write line frame 0 2 (record { registers = bytes 1 0 t 0 0; buffers = record { symbols = replicate 3 0; margins = replicate 3 0; costs = c; store = replicate 18 7 } })).registers.refusal

pub no_zero : number 0 (replicate 12 7) ≡ 13
unfolding write command second iterating resumable costs_ok store_ok update_lent costs_lent record_lent iteration_lent message_lent read_at expand_at setting admitted parse first_ok checks check_at edges read_edge frame_fault place spread arriving outgoing incoming settled symbols margins margin_of choices least_cost xor record_of shifts group above extra sent_at shift decided
no_zero = refl

pub above_510 : number 0 (costs 511) ≡ 13
unfolding write command second iterating resumable costs_ok store_ok update_lent costs_lent record_lent iteration_lent message_lent read_at expand_at setting admitted parse first_ok checks check_at edges read_edge frame_fault place spread arriving outgoing incoming settled symbols margins margin_of choices least_cost xor record_of shifts group above extra sent_at shift decided
above_510 = refl

pub bad_record : number 1 (costs 510) ≡ 16
unfolding write command second iterating resumable costs_ok store_ok update_lent costs_lent record_lent iteration_lent message_lent read_at expand_at record_ok record_tests pairs_ok pair_tests setting admitted parse first_ok checks check_at edges read_edge frame_fault place spread arriving outgoing incoming settled symbols margins margin_of choices least_cost xor record_of shifts group above extra sent_at shift decided
bad_record = refl

pub no_record : number 0 (costs 510) ≡ 0
unfolding write command second iterating resumable costs_ok store_ok update_lent costs_lent record_lent iteration_lent message_lent read_at expand_at setting admitted parse first_ok checks check_at edges read_edge frame_fault place spread arriving outgoing incoming settled symbols margins margin_of choices least_cost xor record_of shifts group above extra sent_at shift decided
no_record = refl

-- a load that is refused: state 4 with its number, bit 1 pending, no buffer changed; and once more from there
pub refused : writes [] frame (to 0 1 ∷ to 0 3 ∷ to 0 1 ∷ []) (record { registers = idle; buffers = lent }) ≡ record { registers = bytes 4 5 0 0 2; buffers = lent }
unfolding write command loading setting admitted parse first_ok
refused = refl

-- writes that do nothing: command 2 when idle, other values, other bytes
pub ignored : after (to 0 2 ∷ to 0 4 ∷ to 0 255 ∷ to 1 1 ∷ to 2 9 ∷ to 3 9 ∷ to 5 3 ∷ to 6 1 ∷ []) ≡ record { registers = idle; buffers = lent }
unfolding write command second
ignored = refl

-- decoding's refusals come first: a short margin buffer (19) before the costs' 13
pub margins-first : (write line frame 0 2 (record { registers = bytes 1 0 0 0 0; buffers = record { symbols = replicate 3 0; margins = []; costs = replicate 12 7; store = replicate 18 7 } })).registers.refusal ≡ 19
unfolding write command second iterating resumable setting admitted parse first_ok checks check_at edges read_edge frame_fault place
margins-first = refl
