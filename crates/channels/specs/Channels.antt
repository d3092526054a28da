-- One check layer, eight channels: the call with its refusals, its results and its buffers.
use Rattle.std.specs.Prelude.{Bool, false, not, ◌||◌, List, [], map, ◌++◌, ◌∷◌, ℕ, ◌*◌, eqb, ltb, length, drop}
use Rattle.trellis.specs.Lists.{up_to, pick, upto, part, blocks}
use Rattle.trellis.specs.Refusals.{Test, when, unless, refused_by}
use Rattle.trellis.specs.Reply.{Reply, refusal, found_in, not_found_in}
use Rattle.machine.specs.CodeLine.{Read, good, bad, Code, size, parse, frame_fault}
use Rattle.machine.specs.Machine.{State, start, iteration, settled, records, used}
use Rattle.machine.specs.Decoding.{Buffers, holding, room_tests}
use Rattle.channels.specs.Serving.{Served, count_of, serve, sum}

-- "The frames, and each kind of output, stand end to end by channel in one lent buffer per kind.": channel c's frame, and its parts of the
-- buffers
abbrev pub frame_of : Code → List ℕ → ℕ → List ℕ
frame_of C fs c = part fs (c * (C.columns * size C)) (C.columns * size C)

abbrev pub own_of : Code → Buffers → ℕ → Buffers
own_of C b c =
    record {
      symbols = part b.symbols (c * C.columns) C.columns;
      costs = part b.costs (c * (C.columns * size C)) (C.columns * size C);
      store = part b.store (c * used C) (used C);
      margins = part b.margins (c * C.columns) C.columns;
    }

-- the parts of n channels end to end, and what follows them
abbrev pub together : Code → ℕ → (ℕ → Buffers) → Buffers → Buffers
together C n own b =
    record {
      symbols = blocks (λ c. (own c).symbols) n ++ drop (n * C.columns) b.symbols;
      costs = blocks (λ c. (own c).costs) n ++ drop (n * (C.columns * size C)) b.costs;
      store = blocks (λ c. (own c).store) n ++ drop (n * used C) b.store;
      margins = blocks (λ c. (own c).margins) n ++ drop (n * C.columns) b.margins;
    }

-- the machine of a frame after j iterations
unfoldable pub after : Code → List ℕ → ℕ → State
after C f j = upto (λ i s. iteration C s) j (start C f)

-- "finished ones (found, refused or at I iterations)", after j iterations; "a frame found at t = 0 costs nothing" is the case j = 0
unfoldable pub finished : Code → List ℕ → ℕ → Bool
finished C f j = not (eqb (frame_fault C f) 0) || (settled C (after C f j).costs || eqb j C.limit)

-- the iterations of each channel at the end
unfoldable pub counted : Code → ℕ → ℕ → List ℕ → Served
counted C n A fs = serve (λ c. finished C (frame_of C fs c)) n A

-- "What a channel not refused receives after j iterations": decisions, margins, costs and records; "for j = 0, the first decisions with
-- their margins, the frame as costs and an untouched store". Of a refused one "its parts of the buffers are unchanged"
unfoldable pub received : Code → List ℕ → ℕ → Buffers → Buffers
received C f j b =
    pick (eqb (frame_fault C f) 0)
    (holding C (after C f j).costs (pick (eqb j 0) b.store (records C (after C f j) ++ drop (used C) b.store)) b)
    b

-- "A channel still running when A is spent is reported as spent, status 20 with its j, which is no refusal."
abbrev pub spent_in : ℕ → Reply
spent_in j = record { refused = false; number = 20; value = j }

-- a channel's result after j iterations; a frame of one channel's length can only be refused by 13: "Only 13 is a channel's own"
unfoldable pub answer : Code → List ℕ → ℕ → Reply
answer C f j =
    pick (eqb (frame_fault C f) 0)
    (pick (settled C (after C f j).costs) (found_in j) (pick (eqb j C.limit) (not_found_in j) (spent_in j)))
    (refusal (frame_fault C f))

-- the call's number, the iterations spent of the allowance, each channel's result, and the buffers afterwards
pub record Results : Type 0 where
  pub number : ℕ
  pub spent : ℕ
  pub answers : List Reply
  pub buffers : Buffers

abbrev pub answers_of : Code → ℕ → ℕ → List ℕ → List Reply
answers_of C n A fs = map (λ c. answer C (frame_of C fs c) (count_of (counted C n A fs) c)) (up_to n)

-- "decodes up to eight frames under one code line with one allowance A of iterations for all"
unfoldable pub results : Code → ℕ → ℕ → List ℕ → Buffers → Results
results C n A fs b =
    record {
      number = 0;
      spent = sum (map (λ a. a.value) (answers_of C n A fs));
      answers = answers_of C n A fs;
      buffers = together C n (λ c. received C (frame_of C fs c) (count_of (counted C n A fs) c) (own_of C b c)) b;
    }

-- a refusal of the whole call: no iterations, no results, "no lent buffer changes" (SPEC 8.1)
abbrev pub refusing : ℕ → Buffers → Results
refusing k b = record { number = k; spent = 0; answers = []; buffers = b }

-- "12, 2, 3, 4 and 19 .. each length being the count times one channel's": n channels of k symbols and margins, w costs and u bytes each
abbrev pub whole_tests : ℕ → ℕ → ℕ → ℕ → ℕ → ℕ → ℕ → ℕ → ℕ → List Test
whole_tests n k w u frames symbols costs store margins =
    unless (eqb frames (n * w)) 12
    ∷ room_tests (n * k) (n * w) (n * u) symbols costs store margins

-- for n channels under a code
abbrev pub tests_for : Code → ℕ → List ℕ → Buffers → List Test
tests_for C n fs b =
    whole_tests n C.columns (C.columns * size C) (used C) (length fs) (length b.symbols) (length b.costs) (length b.store)
    (length b.margins)

-- "Then the code's, 12, 2, 3, 4 and 19 refuse the whole call"
abbrev pub under : Read Code → ℕ → ℕ → List ℕ → Buffers → Results
under (bad k) n A fs b = refusing k b
under (good C) n A fs b = refused_by (tests_for C n fs b) (λ k. refusing k b) (results C n A fs b)

-- "21, channel count not 1 to 8, before all; 22, A is 0, after 21."
abbrev pub count_tests : ℕ → ℕ → List Test
count_tests n A =
    when (ltb n 1 || ltb 8 n) 21
    ∷ when (eqb A 0) 22
    ∷ []

unfoldable pub channels : ℕ → ℕ → List ℕ → List ℕ → Buffers → Results
channels n A code fs b = refused_by (count_tests n A) (λ k. refusing k b) (under (parse code) n A fs b)
