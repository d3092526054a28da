-- The specification's two steps over the lent buffers: a load with the first test, and one iteration that goes on from the lent costs and
-- records.
use Rattle.std.specs.Prelude.{◌≡◌, Bool, ◌&&◌, ◌||◌, List, [], ◌∷◌, ℕ, zero, suc, ◌+◌, ◌*◌, ◌≤◌, eqb, leb, length, get_or, take}
use Rattle.trellis.specs.Lists.{pick, all_to, part}
use Rattle.trellis.specs.Refusals.{unless, refused_by}
use Rattle.trellis.specs.Record.{record_length, record_ok}
use Rattle.machine.specs.CodeLine.{Read, good, bad, Code, size, rule, check, zero_in}
use Rattle.machine.specs.Machine.{Status, found, not_found, run, settled, place}
use Rattle.machine.specs.Lent.{Lent, iteration_lent}
use Rattle.machine.specs.Decoding.{Buffers, holding, admitted, decoding, Accepts, Room}

-- where a load or an iteration ends: 1 running, 2 found, 3 not found, 4 refused, with the refusal's number
pub record Stage : Type 0 where
  pub state : ℕ
  pub number : ℕ

-- that, with t and the buffers
pub record Moment : Type 0 where
  pub stage : Stage
  pub t : ℕ
  pub buffers : Buffers

abbrev pub moment : ℕ → ℕ → ℕ → Buffers → Moment
moment state number t b = record { stage = record { state = state; number = number }; t = t; buffers = b }

-- what a load or an iteration promises: where it ends, and each buffer afterwards
pub record Moves (m : Moment) (stage : Stage) (b : Buffers) : Type 0 where
  pub staged : stage ≡ m.stage
  pub symbols-then : b.symbols ≡ m.buffers.symbols
  pub costs-then : b.costs ≡ m.buffers.costs
  pub store_then : b.store ≡ m.buffers.store
  pub margins-then : b.margins ≡ m.buffers.margins

-- "After a load the state is 4 if decoding would refuse, else 2 if the test holds, else 1." "Entering 4 changes no buffer and sets byte 3
-- to 0."
abbrev pub loading_under : Read Code → List ℕ → Buffers → Moment
loading_under (bad k) f b = moment 4 k 0 b
loading_under (good C) f b = moment (pick (settled C f) 2 1) 0 0 (holding C f b.store b)

unfoldable pub loading : List ℕ → List ℕ → Buffers → Moment
loading code f b = loading_under (admitted code f b) f b

-- neither "a cost above 510" nor "a column without a 0, in the cost buffer's used part"
unfoldable pub costs_ok : Code → List ℕ → Bool
costs_ok C c = all_to (λ i. leb (get_or c i 0) 510) (C.columns * size C) && all_to (zero_in (size C) c) C.columns

-- each stored record is of accepted form
unfoldable pub store_ok : Code → List ℕ → Bool
store_ok C s =
    all_to (λ m. record_ok (rule C) (length (check C m)) (part s (place C m) (record_length (rule C) (length (check C m)))))
    (length C.checks)

-- "While running, command 2 first tests decoding's refusals, then 13 for a cost above 510, or a column without a 0, .. then, if t is not 0,
-- 16 for each stored record."
abbrev pub resumable_under : Read Code → ℕ → Buffers → Read Code
resumable_under (bad k) t b = bad k
resumable_under (good C) t b =
    refused_by
    (unless (costs_ok C b.costs) 13
    ∷ unless (eqb t 0 || store_ok C b.store) 16
    ∷ [])
    bad (good C)

unfoldable pub resumable : List ℕ → List ℕ → ℕ → Buffers → Read Code
resumable code f t b = resumable_under (admitted code f b) t b

-- "An iteration goes on from the lent costs and records, with t in byte 3": with none at t = 0
abbrev pub further : Code → ℕ → Buffers → Lent
further C t b = iteration_lent C (eqb t 0) (record { costs = take (C.columns * size C) b.costs; store = b.store })

-- "after it the state is 2 if the test holds, else 3 if t is I or more, else 1"
abbrev pub state_after : Code → ℕ → List ℕ → ℕ
state_after C t P = pick (settled C P) 2 (pick (leb C.limit t) 3 1)

-- "After each of them that is not refused the buffers hold the decisions, margins, costs and records of that moment"
abbrev pub gone : Code → ℕ → Lent → Buffers → Moment
gone C t l b = moment (state_after C t l.costs) 0 t (holding C l.costs l.store b)

abbrev pub iterating_under : Read Code → ℕ → Buffers → Moment
iterating_under (bad k) t b = moment 4 k 0 b
iterating_under (good C) t b = gone C (t + 1) (further C t b) b

unfoldable pub iterating : List ℕ → List ℕ → ℕ → Buffers → Moment
iterating code f t b = iterating_under (resumable code f t b) t b

-- the state of an outcome
abbrev pub state_for : Status → ℕ
state_for found = 2
state_for not_found = 3

-- at most n iterations, while the state is running
unfoldable pub onward : List ℕ → List ℕ → ℕ → Moment → Moment
onward code f zero m = m
onward code f (suc n) m = pick (eqb m.stage.state 1) (onward code f n (iterating code f m.t m.buffers)) m

-- a load, and iterations while running, I of them or more, end with the outcome, t and buffers of one decode call on the buffers as the
-- load found them. The frame is bytes
abbrev pub LoadThenSteps : Type 0
LoadThenSteps =
    (code f : List ℕ) (C : Code) (b : Buffers) → Accepts code f C → Room C b → ((i : ℕ) → get_or f i 0 ≤ 255) → (n : ℕ) → C.limit ≤ n
    → onward code f n (loading code f b) ≡ moment (state_for (run C f).status) 0 (run C f).end.t (decoding code f b).buffers
