-- The specification's example and others, by evaluation.
use mathlib.Core.Path.{◌≡◌, refl}
use mathlib.Core.List.{List, [], ◌∷◌, map, ◌++◌}
use Prim.Native.Nat.{ℕ}
use lib.ListN.{replicate}
use Rattle.trellis.specs.Lists.{up_to}
use Rattle.trellis.specs.Field.{xor}
use Rattle.trellis.specs.Check.{extra, sent_at, least_cost, choices, shift, decided, sent, margin_of}
use Rattle.trellis.specs.Record.{record_of, shifts, group, above}
use Rattle.trellis.specs.Reply.{accepted, refusal, found_in, Reply}
use Rattle.trellis.specs.Rules.{first_ok}
use Rattle.machine.specs.CodeLine.{Code, edge, good, parse, checks, check_at, edges, read_edge, frame_fault, rule}
use Rattle.machine.specs.Machine.{scaled, run, go, iteration, update, spread, arriving, outgoing, incoming, message, settled, symbols, records, place, Status, found, not_found, margins}
use Rattle.machine.specs.Encoding.{wrote}
use Rattle.machine.specs.Combining.{combined_column, combined_to, combine_fault, combining}
use Rattle.machine.specs.Decoding.{lending, admitted, decoding, After, last_update}

abbrev line : List ℕ
line = 2 ∷ 0 ∷ 3 ∷ 1 ∷ 16 ∷ 1 ∷ 3 ∷ 0 ∷ 0 ∷ 1 ∷ 0 ∷ 1 ∷ 1 ∷ 0 ∷ 2 ∷ 1 ∷ []

abbrev code : Code
code = record { first = 2; columns = 3; scale = 16; limit = 1; checks = (edge 0 1 ∷ edge 1 1 ∷ edge 2 1 ∷ []) ∷ [] }

pub reads : parse line ≡ good code
unfolding parse first_ok checks check_at edges read_edge
reads = refl

abbrev frame_1 : List ℕ
frame_1 = 5 ∷ 0 ∷ 9 ∷ 7 ∷ 0 ∷ 4 ∷ 8 ∷ 3 ∷ 0 ∷ 6 ∷ 2 ∷ 10 ∷ []

abbrev frame_2 : List ℕ
frame_2 = 9 ∷ 7 ∷ 5 ∷ 0 ∷ 8 ∷ 3 ∷ 0 ∷ 4 ∷ 2 ∷ 10 ∷ 0 ∷ 6 ∷ []

abbrev frame_3 : List ℕ
frame_3 = 5 ∷ 0 ∷ 5 ∷ 5 ∷ 0 ∷ 0 ∷ 0 ∷ 0 ∷ 0 ∷ 0 ∷ 0 ∷ 0 ∷ []

abbrev frame_4 : List ℕ
frame_4 = 5 ∷ 5 ∷ 0 ∷ 5 ∷ 0 ∷ 0 ∷ 0 ∷ 0 ∷ 0 ∷ 0 ∷ 0 ∷ 0 ∷ []

abbrev frame_0 : List ℕ
frame_0 = 0 ∷ 5 ∷ 7 ∷ 9 ∷ 0 ∷ 4 ∷ 8 ∷ 3 ∷ 0 ∷ 6 ∷ 2 ∷ 9 ∷ []

-- a call with buffers of 4, 13, 19 and 4, one too long each
abbrev call : List ℕ → After
call f = decoding line f (lending (replicate 4 7) (replicate 13 7) (replicate 19 7) (replicate 4 7))

-- the reply and the four buffers
abbrev pub CallGives : After → Reply → List ℕ → List ℕ → List ℕ → List ℕ → Type 0
CallGives o r y c s v = (o.reply ≡ r) × ((o.buffers.symbols ≡ y) × ((o.buffers.costs ≡ c) × ((o.buffers.store ≡ s) × (o.buffers.margins ≡ v))))

-- found after one iteration: symbols 1, 1, 0, the costs, the record, margins 1, 1, 1; the last element of each buffer as it was
pub example_1 : CallGives (call frame_1) (found_in 1) (1 ∷ 1 ∷ 0 ∷ 7 ∷ [])
    (1 ∷ 0 ∷ 7 ∷ 6 ∷ 1 ∷ 0 ∷ 11 ∷ 1 ∷ 0 ∷ 2 ∷ 1 ∷ 13 ∷ 7 ∷ [])
    (0 ∷ 1 ∷ 1 ∷ 4 ∷ 1 ∷ 5 ∷ 255 ∷ 0 ∷ 2 ∷ 2 ∷ 7 ∷ 255 ∷ 0 ∷ 3 ∷ 1 ∷ 7 ∷ 255 ∷ 0 ∷ 7 ∷ [])
    (1 ∷ 1 ∷ 1 ∷ 7 ∷ [])
unfolding decoding admitted parse first_ok checks check_at edges read_edge frame_fault place records run go iteration update spread arriving outgoing incoming message settled symbols margins margin_of sent least_cost choices xor record_of shifts group above extra sent_at shift decided
example_1 = (refl, (refl, (refl, (refl, refl))))

-- found at t = 0: the store is untouched, the margins are the frame's
pub example_0 : CallGives (call frame_0) (found_in 0) (0 ∷ 0 ∷ 0 ∷ 7 ∷ []) (frame_0 ++ (7 ∷ [])) (replicate 19 7) (5 ∷ 3 ∷ 2 ∷ 7 ∷ [])
unfolding decoding admitted parse first_ok checks check_at edges read_edge frame_fault place records run go iteration update spread arriving outgoing incoming message settled symbols margins margin_of sent least_cost choices xor record_of shifts group above extra sent_at shift decided
example_0 = (refl, (refl, (refl, (refl, refl))))

-- equal stores and different symbols
pub equal_stores : ((call frame_1).buffers.store ≡ (call frame_2).buffers.store) × ((call frame_2).buffers.symbols ≡ 3 ∷ 1 ∷ 2 ∷ 7 ∷ [])
unfolding decoding admitted parse first_ok checks check_at edges read_edge frame_fault place records run go iteration update spread arriving outgoing incoming message settled symbols margins margin_of sent least_cost choices xor record_of shifts group above extra sent_at shift decided
equal_stores = (refl, refl)

-- equal sent costs and different stores
abbrev sent_in : List ℕ → List (List ℕ)
sent_in f = map (λ n. map (sent (rule code) (last_update code f 0) n) (up_to 4)) (up_to 3)

pub equal-sents : (sent_in frame_3 ≡ sent_in frame_4) × (((call frame_3).buffers.store ≡ 0 ∷ 1 ∷ 1 ∷ 0 ∷ 255 ∷ 0 ∷ 255 ∷ 0 ∷ 0 ∷ 255 ∷ 0 ∷ 255 ∷ 0 ∷ 0 ∷ 255 ∷ 0 ∷ 255 ∷ 0 ∷ 7 ∷ [])
    × ((call frame_4).buffers.store ≡ 0 ∷ 2 ∷ 2 ∷ 0 ∷ 255 ∷ 0 ∷ 255 ∷ 0 ∷ 0 ∷ 255 ∷ 0 ∷ 255 ∷ 0 ∷ 0 ∷ 255 ∷ 0 ∷ 255 ∷ 0 ∷ 7 ∷ []))
unfolding decoding admitted parse first_ok checks check_at edges read_edge frame_fault place records run go iteration update spread arriving outgoing incoming message settled symbols margins margin_of sent least_cost choices xor record_of shifts group above extra sent_at shift decided
equal-sents = (refl, (refl, refl))

-- two frames combined, in a buffer one too long
pub combined_1 : combining line frame_1 frame_2 (replicate 13 7) ≡ wrote (accepted 12) (7 ∷ 0 ∷ 7 ∷ 0 ∷ 1 ∷ 0 ∷ 1 ∷ 0 ∷ 0 ∷ 14 ∷ 0 ∷ 14 ∷ 7 ∷ [])
unfolding combining combine_fault frame_fault parse first_ok checks check_at edges read_edge combined_to combined_column
combined_1 = refl

-- sums that no byte holds, 0 510 256 5: in a byte they would be 0 254 0 5. The least is subtracted before the cap: 200 255 455 510
pub combined_2 : (combined_column 4 (0 ∷ 255 ∷ 255 ∷ 3 ∷ []) (0 ∷ 255 ∷ 1 ∷ 2 ∷ []) ≡ 0 ∷ 255 ∷ 255 ∷ 5 ∷ [])
    × (combined_column 4 (0 ∷ 255 ∷ 200 ∷ 255 ∷ []) (200 ∷ 0 ∷ 255 ∷ 255 ∷ []) ≡ 0 ∷ 55 ∷ 255 ∷ 255 ∷ [])
unfolding combined_column
combined_2 = (refl, refl)

-- a column of the second frame without a 0, and a buffer one too short as well: 23, and nothing is written
pub combined-refused : combining line frame_1 (0 ∷ 5 ∷ 7 ∷ 9 ∷ 0 ∷ 4 ∷ 8 ∷ 3 ∷ 1 ∷ 6 ∷ 2 ∷ 9 ∷ []) (replicate 11 7) ≡ wrote (refusal 23) (replicate 11 7)
unfolding combining combine_fault frame_fault parse first_ok checks check_at edges read_edge
combined-refused = refl

-- Columns of the two runs below: a cost is scaled down to a whole number; a difference of 257 is capped; of differences below 0 the least is
-- subtracted before the cap, -7 244 -13 242; and one where all of the offset is used, 9 -255 0 9
pub columns : (scaled 10 2 ≡ 1)
    × ((incoming 4 (257 ∷ 0 ∷ 8 ∷ 12 ∷ []) (0 ∷ 0 ∷ 0 ∷ 0 ∷ []) ≡ 255 ∷ 0 ∷ 8 ∷ 12 ∷ [])
    × ((incoming 4 (0 ∷ 244 ∷ 0 ∷ 247 ∷ []) (7 ∷ 0 ∷ 13 ∷ 5 ∷ []) ≡ 6 ∷ 255 ∷ 0 ∷ 255 ∷ [])
    × (incoming 4 (9 ∷ 0 ∷ 255 ∷ 264 ∷ []) (0 ∷ 255 ∷ 255 ∷ 255 ∷ []) ≡ 255 ∷ 0 ∷ 255 ∷ 255 ∷ [])))
unfolding incoming
columns = (refl, (refl, (refl, refl)))

-- Two checks that share columns 1 and 2, g = 10, at most I iterations. In the first iteration check 1 has the differences 257 0 8 12 in column 1
-- and 9 256 0 257 in column 2. In the second, check 0 subtracts what it sent before: from column 0 1 0 3 5, which is 10/16 of 2 0 6 8. Check 1
-- then has -7 244 -13 242 in column 2
abbrev code_2 : ℕ → Code
code_2 I = record { first = 2; columns = 4; scale = 10; limit = I; checks = (edge 0 1 ∷ edge 1 2 ∷ edge 2 2 ∷ []) ∷ (edge 1 1 ∷ edge 2 2 ∷ edge 3 3 ∷ []) ∷ [] }

abbrev frame_5 : List ℕ
frame_5 = 255 ∷ 0 ∷ 255 ∷ 4 ∷ 255 ∷ 0 ∷ 2 ∷ 9 ∷ 6 ∷ 255 ∷ 0 ∷ 255 ∷ 255 ∷ 0 ∷ 29 ∷ 21 ∷ []

-- status, t, P, the decisions, the records
pub record RunEnds (C : Code) (f : List ℕ) (o : Status) (t : ℕ) (P z rs : List ℕ) : Type 0 where
  pub status : (run C f).status ≡ o
  pub iterations : (run C f).end.t ≡ t
  pub costs : (run C f).end.costs ≡ P
  pub decisions : symbols C (run C f).end.costs ≡ z
  pub store : records C (run C f).end ≡ rs

pub one-iteration : RunEnds (code_2 1) frame_5 not_found 1
    (256 ∷ 0 ∷ 258 ∷ 9 ∷ 242 ∷ 0 ∷ 13 ∷ 4 ∷ 3 ∷ 242 ∷ 0 ∷ 247 ∷ 249 ∷ 0 ∷ 21 ∷ 8 ∷ [])
    (1 ∷ 1 ∷ 2 ∷ 1 ∷ [])
    (1 ∷ 2 ∷ 3 ∷ 2 ∷ 1 ∷ 10 ∷ 255 ∷ 0 ∷ 4 ∷ 0 ∷ 8 ∷ 255 ∷ 0 ∷ 6 ∷ 255 ∷ 0 ∷ 255 ∷ 0 ∷ 0 ∷ 2 ∷ 2 ∷ 21 ∷ 255 ∷ 0 ∷ 255 ∷ 0 ∷ 12 ∷ 0 ∷ 29 ∷ 255 ∷ 0 ∷ 8 ∷ 0 ∷ 9 ∷ 255 ∷ 0 ∷ [])
unfolding run go iteration update spread arriving outgoing incoming message settled symbols records sent least_cost choices xor record_of shifts group above extra sent_at shift decided
one-iteration = record { status = refl; iterations = refl; costs = refl; decisions = refl; store = refl }

pub two-iterations : RunEnds (code_2 2) frame_5 found 2
    (259 ∷ 0 ∷ 255 ∷ 8 ∷ 243 ∷ 1 ∷ 8 ∷ 0 ∷ 0 ∷ 244 ∷ 2 ∷ 246 ∷ 251 ∷ 0 ∷ 22 ∷ 12 ∷ [])
    (1 ∷ 3 ∷ 0 ∷ 1 ∷ [])
    (2 ∷ 1 ∷ 3 ∷ 4 ∷ 0 ∷ 7 ∷ 2 ∷ 5 ∷ 4 ∷ 0 ∷ 7 ∷ 255 ∷ 0 ∷ 0 ∷ 2 ∷ 1 ∷ 255 ∷ 0 ∷ 0 ∷ 2 ∷ 2 ∷ 15 ∷ 0 ∷ 21 ∷ 1 ∷ 21 ∷ 9 ∷ 0 ∷ 27 ∷ 255 ∷ 0 ∷ 4 ∷ 0 ∷ 6 ∷ 255 ∷ 0 ∷ [])
unfolding run go iteration update spread arriving outgoing incoming message settled symbols records sent least_cost choices xor record_of shifts group above extra sent_at shift decided
two-iterations = record { status = refl; iterations = refl; costs = refl; decisions = refl; store = refl }

-- g = 16, and the two checks contradict each other at column 2: in the second iteration it has a symbol of cost 0 whose old scaled cost is 255,
-- the greatest there is. With a smaller offset the difference would be cut off, and the frame not be found
abbrev pub code_3 : Code
code_3 = record { first = 2; columns = 5; scale = 16; limit = 2; checks = (edge 0 1 ∷ edge 1 1 ∷ edge 2 1 ∷ []) ∷ (edge 2 1 ∷ edge 3 1 ∷ edge 4 1 ∷ []) ∷ [] }

abbrev pub frame_6 : List ℕ
frame_6 = 0 ∷ 255 ∷ 255 ∷ 255 ∷ 0 ∷ 255 ∷ 255 ∷ 255 ∷ 9 ∷ 0 ∷ 0 ∷ 9 ∷ 0 ∷ 255 ∷ 255 ∷ 255 ∷ 255 ∷ 0 ∷ 255 ∷ 255 ∷ []

pub whole_offset : RunEnds code_3 frame_6 found 2
    (0 ∷ 0 ∷ 255 ∷ 255 ∷ 0 ∷ 0 ∷ 255 ∷ 255 ∷ 0 ∷ 0 ∷ 255 ∷ 255 ∷ 0 ∷ 0 ∷ 255 ∷ 255 ∷ 0 ∷ 0 ∷ 255 ∷ 255 ∷ [])
    (0 ∷ 0 ∷ 0 ∷ 0 ∷ 0 ∷ [])
    (1 ∷ 1 ∷ 0 ∷ 255 ∷ 255 ∷ 0 ∷ 255 ∷ 0 ∷ 255 ∷ 255 ∷ 0 ∷ 255 ∷ 0 ∷ 255 ∷ 255 ∷ 0 ∷ 255 ∷ 0 ∷ 1 ∷ 1 ∷ 0 ∷ 255 ∷ 255 ∷ 0 ∷ 255 ∷ 0 ∷ 255 ∷ 255 ∷ 0 ∷ 255 ∷ 0 ∷ 255 ∷ 255 ∷ 0 ∷ 255 ∷ 0 ∷ [])
unfolding run go iteration update spread arriving outgoing incoming message settled symbols records sent least_cost choices xor record_of shifts group above extra sent_at shift decided
whole_offset = record { status = refl; iterations = refl; costs = refl; decisions = refl; store = refl }

-- Checks of degree 2, one behind the other: each hands a column the other's costs
abbrev code_4 : Code
code_4 = record { first = 2; columns = 3; scale = 16; limit = 2; checks = (edge 0 1 ∷ edge 1 1 ∷ []) ∷ (edge 1 1 ∷ edge 2 3 ∷ []) ∷ [] }

pub two-columns : RunEnds code_4 (0 ∷ 5 ∷ 7 ∷ 9 ∷ 4 ∷ 0 ∷ 8 ∷ 3 ∷ 6 ∷ 2 ∷ 0 ∷ 10 ∷ []) found 2
    (5 ∷ 0 ∷ 20 ∷ 9 ∷ 5 ∷ 0 ∷ 20 ∷ 9 ∷ 5 ∷ 9 ∷ 0 ∷ 20 ∷ [])
    (1 ∷ 1 ∷ 2 ∷ [])
    (1 ∷ 0 ∷ 5 ∷ 0 ∷ 10 ∷ 255 ∷ 0 ∷ 5 ∷ 1 ∷ 7 ∷ 255 ∷ 0 ∷ 9 ∷ 0 ∷ 18 ∷ 255 ∷ 0 ∷ 1 ∷ 0 ∷ 1 ∷ 0 ∷ 6 ∷ 255 ∷ 0 ∷ 2 ∷ 1 ∷ 11 ∷ 255 ∷ 0 ∷ 8 ∷ 0 ∷ 10 ∷ 255 ∷ 0 ∷ [])
unfolding run go iteration update spread arriving outgoing incoming message settled symbols records sent least_cost choices xor record_of shifts group above extra sent_at shift decided
two-columns = record { status = refl; iterations = refl; costs = refl; decisions = refl; store = refl }

-- N = 2, the least that a check of two columns leaves room for
abbrev line_2 : List ℕ
line_2 = 2 ∷ 0 ∷ 2 ∷ 1 ∷ 16 ∷ 3 ∷ 2 ∷ 0 ∷ 0 ∷ 1 ∷ 0 ∷ 1 ∷ 1 ∷ []

abbrev call_2 : After
call_2 =
    decoding line_2 (0 ∷ 5 ∷ 7 ∷ 9 ∷ 4 ∷ 0 ∷ 8 ∷ 3 ∷ []) (lending (replicate 3 7) (replicate 9 7) (replicate 18 7) (replicate 3 7))

pub least-code : CallGives call_2 (found_in 1) (0 ∷ 0 ∷ 7 ∷ []) (0 ∷ 1 ∷ 11 ∷ 8 ∷ 0 ∷ 1 ∷ 11 ∷ 8 ∷ 7 ∷ [])
    (1 ∷ 0 ∷ 4 ∷ 1 ∷ 5 ∷ 255 ∷ 0 ∷ 3 ∷ 1 ∷ 7 ∷ 255 ∷ 0 ∷ 8 ∷ 1 ∷ 9 ∷ 255 ∷ 0 ∷ 7 ∷ [])
    (1 ∷ 1 ∷ 7 ∷ [])
unfolding decoding admitted parse first_ok checks check_at edges read_edge frame_fault place records run go iteration update spread arriving outgoing incoming message settled symbols margins margin_of sent least_cost choices xor record_of shifts group above extra sent_at shift decided
least-code = (refl, (refl, (refl, (refl, refl))))

-- refusals, in their order
pub record RefusalCase : Type 0 where
  pub code_is_bytes : List ℕ
  pub frame-bytes : List ℕ
  pub room : ℕ × (ℕ × (ℕ × ℕ))
  pub gives : ℕ

abbrev answer_to : RefusalCase → ℕ
answer_to c =
    (decoding c.code_is_bytes c.frame-bytes
    (lending (replicate c.room.0 7) (replicate c.room.1.0 7) (replicate c.room.1.1.0 7) (replicate c.room.1.1.1 7))).reply.number

abbrev case : List ℕ → List ℕ → ℕ → ℕ → ℕ → ℕ → ℕ → RefusalCase
case l f a b c d r = record { code_is_bytes = l; frame-bytes = f; room = (a, (b, (c, d))); gives = r }

abbrev table : List RefusalCase
table =
    case [] [] 0 0 0 0 5 ∷
    case (1 ∷ 0 ∷ 0 ∷ 0 ∷ 0 ∷ []) [] 0 0 0 0 5 ∷
    case (1 ∷ 0 ∷ 0 ∷ 0 ∷ 0 ∷ 0 ∷ []) [] 0 0 0 0 6 ∷
    case (7 ∷ 0 ∷ 3 ∷ 1 ∷ 16 ∷ 1 ∷ []) [] 0 0 0 0 6 ∷
    case (0x37 ∷ 0 ∷ 3 ∷ 1 ∷ 16 ∷ 1 ∷ []) [] 0 0 0 0 6 ∷
    case (0x42 ∷ 0 ∷ 3 ∷ 1 ∷ 16 ∷ 1 ∷ []) [] 0 0 0 0 6 ∷
    case (2 ∷ 0 ∷ 0 ∷ 1 ∷ 17 ∷ 1 ∷ []) [] 0 0 0 0 7 ∷
    case (2 ∷ 1 ∷ 1 ∷ 1 ∷ 16 ∷ 1 ∷ []) [] 0 0 0 0 7 ∷
    case (2 ∷ 0 ∷ 3 ∷ 129 ∷ 16 ∷ 1 ∷ []) [] 0 0 0 0 7 ∷
    case (2 ∷ 0 ∷ 3 ∷ 1 ∷ 17 ∷ 1 ∷ []) [] 0 0 0 0 8 ∷
    case (2 ∷ 0 ∷ 3 ∷ 1 ∷ 16 ∷ 0 ∷ []) [] 0 0 0 0 8 ∷
    case (2 ∷ 0 ∷ 3 ∷ 1 ∷ 16 ∷ 1 ∷ []) [] 0 0 0 0 5 ∷
    case (2 ∷ 0 ∷ 3 ∷ 1 ∷ 16 ∷ 1 ∷ 0 ∷ []) [] 0 0 0 0 9 ∷
    case (2 ∷ 0 ∷ 3 ∷ 1 ∷ 16 ∷ 1 ∷ 1 ∷ []) [] 0 0 0 0 9 ∷
    case (2 ∷ 0 ∷ 3 ∷ 1 ∷ 16 ∷ 1 ∷ 2 ∷ []) [] 0 0 0 0 5 ∷
    case (2 ∷ 0 ∷ 3 ∷ 1 ∷ 16 ∷ 1 ∷ 33 ∷ []) [] 0 0 0 0 9 ∷
    case (2 ∷ 0 ∷ 3 ∷ 1 ∷ 16 ∷ 1 ∷ 3 ∷ 0 ∷ 9 ∷ []) [] 0 0 0 0 5 ∷
    case (2 ∷ 0 ∷ 3 ∷ 1 ∷ 16 ∷ 1 ∷ 3 ∷ 0 ∷ 0 ∷ 4 ∷ 0 ∷ 0 ∷ 1 ∷ 0 ∷ 2 ∷ 1 ∷ []) [] 0 0 0 0 11 ∷
    case (2 ∷ 0 ∷ 3 ∷ 1 ∷ 16 ∷ 1 ∷ 3 ∷ 0 ∷ 0 ∷ 3 ∷ 0 ∷ 0 ∷ 1 ∷ 0 ∷ 2 ∷ 1 ∷ []) [] 0 0 0 0 10 ∷
    case (line ++ (0 ∷ [])) [] 0 0 0 0 5 ∷
    case line [] 0 0 0 0 12 ∷
    case line (replicate 12 1) 0 0 0 0 13 ∷
    case line frame_0 2 0 0 0 2 ∷
    case line frame_0 3 11 0 0 3 ∷
    case line frame_0 3 12 17 2 4 ∷
    case line frame_0 3 12 18 2 19 ∷
    case line frame_0 3 12 18 3 0 ∷
    case line_2 (replicate 8 0) 2 8 16 2 4 ∷
    case line_2 (replicate 8 0) 2 8 17 2 0 ∷
    case (2 ∷ 0 ∷ 1 ∷ 1 ∷ 16 ∷ 3 ∷ 2 ∷ 0 ∷ 0 ∷ 1 ∷ 0 ∷ 1 ∷ 1 ∷ []) [] 0 0 0 0 10 ∷
    []

pub refusals : map answer_to table ≡ map (λ c. c.gives) table
unfolding decoding admitted parse first_ok checks check_at edges read_edge frame_fault place records run go iteration update spread arriving outgoing incoming message settled symbols margins margin_of sent least_cost choices xor record_of shifts group above extra sent_at shift decided
refusals = refl
