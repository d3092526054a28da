-- Stopping inside an iteration, by evaluation: checks of degree 2, buffers one too long each and full of 7.
use mathlib.Core.Path.{◌≡◌, refl}
use mathlib.Core.List.{List, [], ◌∷◌, ◌++◌}
use Prim.Native.Nat.{ℕ}
use lib.ListN.{replicate}
use Rattle.trellis.specs.Field.{xor}
use Rattle.trellis.specs.Check.{extra, sent_at, least_cost, choices, shift, decided, sent, margin_of}
use Rattle.trellis.specs.Record.{record_of, shifts, group, above}
use Rattle.trellis.specs.Reply.{found_in, not_found_in}
use Rattle.trellis.specs.Rules.{first_ok}
use Rattle.machine.specs.CodeLine.{parse, checks, check_at, edges, read_edge, frame_fault}
use Rattle.machine.specs.Machine.{run, go, iteration, update, spread, arriving, outgoing, incoming, message, settled, symbols, place, held, margins}
use Rattle.machine.specs.Decoding.{lending, admitted, decoding, After}
use Rattle.machine.specs.Early.{moment_after, updates, decoding_early}
use Rattle.machine.proofs.Examples.{CallGives}

-- N = 3, checks 0 1 and 1 2, at most I iterations
abbrev line_1 : ℕ → List ℕ
line_1 I = 2 ∷ 0 ∷ 3 ∷ 2 ∷ 16 ∷ I ∷ 2 ∷ 0 ∷ 0 ∷ 1 ∷ 0 ∷ 1 ∷ 1 ∷ 2 ∷ 0 ∷ 1 ∷ 1 ∷ 0 ∷ 2 ∷ 3 ∷ []

abbrev call : ℕ → List ℕ → After
call I f = decoding_early (line_1 I) f (lending (replicate 4 7) (replicate 13 7) (replicate 35 7) (replicate 4 7))

-- inside the first iteration: check 0 has its record, check 1 was not updated and its 17 bytes are as they were
pub inside : CallGives (call 1 (0 ∷ 8 ∷ 2 ∷ 6 ∷ 7 ∷ 3 ∷ 1 ∷ 0 ∷ 7 ∷ 2 ∷ 1 ∷ 0 ∷ [])) (found_in 1) (2 ∷ 2 ∷ 3 ∷ 7 ∷ [])
    (4 ∷ 8 ∷ 0 ∷ 3 ∷ 4 ∷ 8 ∷ 0 ∷ 3 ∷ 7 ∷ 2 ∷ 1 ∷ 0 ∷ 7 ∷ [])
    ((3 ∷ 0 ∷ 1 ∷ 1 ∷ 8 ∷ 255 ∷ 0 ∷ 2 ∷ 0 ∷ 3 ∷ 255 ∷ 0 ∷ 6 ∷ 0 ∷ 7 ∷ 255 ∷ 0 ∷ []) ++ replicate 18 7)
    (3 ∷ 3 ∷ 1 ∷ 7 ∷ [])
unfolding decoding_early moment_after updates admitted parse first_ok checks check_at edges read_edge frame_fault place held update spread arriving outgoing incoming message settled symbols margins margin_of sent least_cost choices xor record_of shifts group above extra sent_at shift decided
inside = (refl, (refl, (refl, (refl, refl))))

-- at the start: no update, the store is untouched
pub at-start : CallGives (call 1 (0 ∷ 8 ∷ 1 ∷ 1 ∷ 0 ∷ 4 ∷ 5 ∷ 0 ∷ 0 ∷ 1 ∷ 8 ∷ 5 ∷ [])) (found_in 0) (0 ∷ 0 ∷ 0 ∷ 7 ∷ [])
    (0 ∷ 8 ∷ 1 ∷ 1 ∷ 0 ∷ 4 ∷ 5 ∷ 0 ∷ 0 ∷ 1 ∷ 8 ∷ 5 ∷ 7 ∷ []) (replicate 35 7) (1 ∷ 0 ∷ 1 ∷ 7 ∷ [])
unfolding decoding_early moment_after updates admitted parse first_ok checks check_at edges read_edge frame_fault place held update spread arriving outgoing incoming message settled symbols margins margin_of sent least_cost choices xor record_of shifts group above extra sent_at shift decided
at-start = (refl, (refl, (refl, (refl, refl))))

abbrev frame_1 : List ℕ
frame_1 = 0 ∷ 5 ∷ 7 ∷ 9 ∷ 4 ∷ 0 ∷ 8 ∷ 3 ∷ 6 ∷ 2 ∷ 0 ∷ 10 ∷ []

-- not found with I = 1: M times I is 2
pub missed : CallGives (call 1 frame_1) (not_found_in 2) (0 ∷ 1 ∷ 2 ∷ 7 ∷ [])
    (0 ∷ 1 ∷ 11 ∷ 8 ∷ 5 ∷ 0 ∷ 20 ∷ 9 ∷ 5 ∷ 9 ∷ 0 ∷ 20 ∷ 7 ∷ [])
    (1 ∷ 0 ∷ 4 ∷ 1 ∷ 5 ∷ 255 ∷ 0 ∷ 3 ∷ 1 ∷ 7 ∷ 255 ∷ 0 ∷ 8 ∷ 1 ∷ 9 ∷ 255 ∷ 0
    ∷ 1 ∷ 0 ∷ 1 ∷ 0 ∷ 6 ∷ 255 ∷ 0 ∷ 2 ∷ 1 ∷ 11 ∷ 255 ∷ 0 ∷ 8 ∷ 0 ∷ 10 ∷ 255 ∷ 0 ∷ 7 ∷ [])
    (1 ∷ 5 ∷ 5 ∷ 7 ∷ [])
unfolding decoding_early moment_after updates admitted parse first_ok checks check_at edges read_edge frame_fault place held update spread arriving outgoing incoming message settled symbols margins margin_of sent least_cost choices xor record_of shifts group above extra sent_at shift decided
missed = (refl, (refl, (refl, (refl, refl))))

-- the same frame with I = 2: inside the second iteration check 0 has its second record and check 1 its first
pub inside-second : CallGives (call 2 frame_1) (found_in 3) (1 ∷ 1 ∷ 2 ∷ 7 ∷ [])
    (5 ∷ 0 ∷ 20 ∷ 9 ∷ 5 ∷ 0 ∷ 20 ∷ 9 ∷ 5 ∷ 9 ∷ 0 ∷ 20 ∷ 7 ∷ [])
    (1 ∷ 0 ∷ 5 ∷ 0 ∷ 10 ∷ 255 ∷ 0 ∷ 5 ∷ 1 ∷ 7 ∷ 255 ∷ 0 ∷ 9 ∷ 0 ∷ 18 ∷ 255 ∷ 0
    ∷ 1 ∷ 0 ∷ 1 ∷ 0 ∷ 6 ∷ 255 ∷ 0 ∷ 2 ∷ 1 ∷ 11 ∷ 255 ∷ 0 ∷ 8 ∷ 0 ∷ 10 ∷ 255 ∷ 0 ∷ 7 ∷ [])
    (5 ∷ 5 ∷ 5 ∷ 7 ∷ [])
unfolding decoding_early moment_after updates admitted parse first_ok checks check_at edges read_edge frame_fault place held update spread arriving outgoing incoming message settled symbols margins margin_of sent least_cost choices xor record_of shifts group above extra sent_at shift decided
inside-second = (refl, (refl, (refl, (refl, refl))))

-- It may find a word that the ordinary call does not: two checks of the same two columns, found after 3 updates and no longer after 4
abbrev line_2 : List ℕ
line_2 = 2 ∷ 0 ∷ 2 ∷ 2 ∷ 16 ∷ 2 ∷ 2 ∷ 0 ∷ 0 ∷ 1 ∷ 0 ∷ 1 ∷ 1 ∷ 2 ∷ 0 ∷ 0 ∷ 1 ∷ 0 ∷ 1 ∷ 2 ∷ []

abbrev frame_2 : List ℕ
frame_2 = 0 ∷ 0 ∷ 3 ∷ 8 ∷ 4 ∷ 0 ∷ 1 ∷ 0 ∷ []

pub found_alone : ((decoding_early line_2 frame_2 (lending (replicate 2 7) (replicate 8 7) (replicate 34 7) (replicate 2 7))).reply ≡ found_in 3)
    × ((decoding line_2 frame_2 (lending (replicate 2 7) (replicate 8 7) (replicate 34 7) (replicate 2 7))).reply ≡ not_found_in 2)
unfolding decoding_early moment_after updates decoding run go iteration admitted parse first_ok checks check_at edges read_edge frame_fault place update spread arriving outgoing incoming message settled symbols sent least_cost choices xor
found_alone = (refl, refl)
