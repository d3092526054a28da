-- Calls under the code line of the specification's example and under one of two checks, and the order of refusals, by evaluation.
use mathlib.Core.Path.{◌≡◌, refl}
use mathlib.Core.List.{List, [], ◌∷◌, ◌++◌}
use Prim.Native.Nat.{ℕ}
use lib.ListN.{replicate}
use Rattle.trellis.specs.Field.{xor}
use Rattle.trellis.specs.Check.{extra, sent_at, least_cost, choices, shift, decided, sent, margin_of}
use Rattle.trellis.specs.Record.{record_of, shifts, group, above}
use Rattle.trellis.specs.Reply.{refusal, found_in, not_found_in}
use Rattle.trellis.specs.Rules.{first_ok}
use Rattle.machine.specs.CodeLine.{parse, checks, check_at, edges, read_edge, frame_fault}
use Rattle.machine.specs.Machine.{iteration, update, message, spread, arriving, outgoing, incoming, settled, symbols, margins, place, records}
use Rattle.machine.specs.Decoding.{Buffers}
use Rattle.channels.specs.Serving.{serving, servings}
use Rattle.channels.specs.Channels.{after, finished, spent_in, answer, received, Results, counted, results, channels}

abbrev line : List ℕ
line = 2 ∷ 0 ∷ 3 ∷ 1 ∷ 16 ∷ 1 ∷ 3 ∷ 0 ∷ 0 ∷ 1 ∷ 0 ∷ 1 ∷ 1 ∷ 0 ∷ 2 ∷ 1 ∷ []

abbrev frame : List ℕ
frame = 5 ∷ 0 ∷ 9 ∷ 7 ∷ 0 ∷ 4 ∷ 8 ∷ 3 ∷ 0 ∷ 6 ∷ 2 ∷ 10 ∷ []

abbrev settled-frame : List ℕ
settled-frame = 0 ∷ 5 ∷ 7 ∷ 9 ∷ 0 ∷ 4 ∷ 8 ∷ 3 ∷ 0 ∷ 6 ∷ 2 ∷ 9 ∷ []

abbrev lent : Buffers
lent = record { symbols = replicate 12 7; costs = replicate 48 7; store = replicate 72 7; margins = replicate 12 7 }

-- with A = 1: channel 0 is refused, 1 is found at t = 0, 2 is found with the one iteration, 3 is spent
abbrev served : Results
served = channels 4 1 line (replicate 12 1 ++ (settled-frame ++ (frame ++ frame))) lent

pub answers : served.answers ≡ refusal 13 ∷ found_in 0 ∷ found_in 1 ∷ spent_in 0 ∷ []
unfolding channels results counted servings serving after finished answer iteration update message sent parse first_ok checks check_at edges read_edge frame_fault place spread arriving outgoing incoming settled symbols margins margin_of choices least_cost xor
answers = refl

pub spent : served.spent ≡ 1
unfolding channels results counted servings serving after finished answer iteration update message sent parse first_ok checks check_at edges read_edge frame_fault place spread arriving outgoing incoming settled symbols margins margin_of choices least_cost xor
spent = refl

pub example_decisions : served.buffers.symbols ≡ 7 ∷ 7 ∷ 7 ∷ 0 ∷ 0 ∷ 0 ∷ 1 ∷ 1 ∷ 0 ∷ 1 ∷ 0 ∷ 0 ∷ []
unfolding channels results counted servings serving after finished received iteration update message sent parse first_ok checks check_at edges read_edge frame_fault place spread arriving outgoing incoming settled symbols margins margin_of choices least_cost xor
example_decisions = refl

-- margins of the first decisions for the frames found at t = 0 and spent, of the last ones for the one found by its iteration
pub margins-then : served.buffers.margins ≡ 7 ∷ 7 ∷ 7 ∷ 5 ∷ 3 ∷ 2 ∷ 1 ∷ 1 ∷ 1 ∷ 5 ∷ 3 ∷ 2 ∷ []
unfolding channels results counted servings serving after finished received iteration update message sent parse first_ok checks check_at edges read_edge frame_fault place spread arriving outgoing incoming settled symbols margins margin_of choices least_cost xor
margins-then = refl

-- only the served channel's store is written
pub store_then : served.buffers.store
    ≡ replicate 36 7 ++ (0 ∷ 1 ∷ 1 ∷ 4 ∷ 1 ∷ 5 ∷ 255 ∷ 0 ∷ 2 ∷ 2 ∷ 7 ∷ 255 ∷ 0 ∷ 3 ∷ 1 ∷ 7 ∷ 255 ∷ 0 ∷ replicate 18 7)
unfolding channels results counted servings serving after finished received iteration update message sent parse first_ok checks check_at edges read_edge frame_fault place records spread arriving outgoing incoming settled symbols margins margin_of choices least_cost xor record_of shifts group above extra sent_at shift decided
store_then = refl

-- Two checks on four columns, at most I iterations, and a frame that is found after two iterations and not after one
abbrev line_2 : ℕ → List ℕ
line_2 I =
    2 ∷ 0 ∷ 4 ∷ 2 ∷ 10 ∷ I
    ∷ 3 ∷ 0 ∷ 0 ∷ 1 ∷ 0 ∷ 1 ∷ 2 ∷ 0 ∷ 2 ∷ 2
    ∷ 3 ∷ 0 ∷ 1 ∷ 1 ∷ 0 ∷ 2 ∷ 2 ∷ 0 ∷ 3 ∷ 3 ∷ []

abbrev frame_2 : List ℕ
frame_2 = 255 ∷ 0 ∷ 255 ∷ 4 ∷ 255 ∷ 0 ∷ 2 ∷ 9 ∷ 6 ∷ 255 ∷ 0 ∷ 255 ∷ 255 ∷ 0 ∷ 29 ∷ 21 ∷ []

abbrev two : ℕ → ℕ → Results
two I A = channels 2 A (line_2 I) (frame_2 ++ frame_2) (record { symbols = replicate 8 7; costs = replicate 32 7; store = replicate 72 7; margins = replicate 8 7 })

-- I = 2: of three iterations channel 0 gets the first and the last, channel 1 is spent after the second
pub in_turn : (two 2 3).answers ≡ found_in 2 ∷ spent_in 1 ∷ []
unfolding channels results counted servings serving after finished answer iteration update message sent parse first_ok checks check_at edges read_edge frame_fault place spread arriving outgoing incoming settled symbols margins margin_of choices least_cost xor
in_turn = refl

-- I = 1: both are at I iterations, and one of A is left
pub at-limit : ((two 1 3).answers ≡ not_found_in 1 ∷ not_found_in 1 ∷ []) × ((two 1 3).spent ≡ 2)
unfolding channels results counted servings serving after finished answer iteration update message sent parse first_ok checks check_at edges read_edge frame_fault place spread arriving outgoing incoming settled symbols margins margin_of choices least_cost xor
at-limit = (refl, refl)

-- the order of refusals
pub no_channel : (channels 0 0 [] [] lent).number ≡ 21
unfolding channels
no_channel = refl

pub nine : (channels 9 0 [] [] lent).number ≡ 21
unfolding channels
nine = refl

pub no_allowance : (channels 8 0 [] [] lent).number ≡ 22
unfolding channels
no_allowance = refl

pub no_code : (channels 8 1 [] [] lent).number ≡ 5
unfolding channels parse first_ok
no_code = refl

pub one-frame_missing : (channels 4 1 line (frame ++ frame) lent).number ≡ 12
unfolding channels parse first_ok checks check_at edges read_edge
one-frame_missing = refl

abbrev five : List ℕ
five = frame ++ (frame ++ (frame ++ (frame ++ frame)))

pub no_symbols : (channels 5 1 line five lent).number ≡ 2
unfolding channels parse first_ok checks check_at edges read_edge
no_symbols = refl

pub no_costs : (channels 5 1 line five (record { symbols = replicate 15 7; costs = replicate 59 7; store = []; margins = [] })).number ≡ 3
unfolding channels parse first_ok checks check_at edges read_edge
no_costs = refl

pub no_store : (channels 5 1 line five (record { symbols = replicate 15 7; costs = replicate 60 7; store = replicate 89 7; margins = [] })).number ≡ 4
unfolding channels parse first_ok checks check_at edges read_edge place
no_store = refl

pub no_margins : (channels 5 1 line five (record { symbols = replicate 15 7; costs = replicate 60 7; store = replicate 90 7; margins = replicate 14 7 })).number ≡ 19
unfolding channels parse first_ok checks check_at edges read_edge place
no_margins = refl
