-- The specification's "Stop inside an iteration": a call of its own that ends with the first check update after which the decisions satisfy all
-- checks.
use Rattle.std.specs.Prelude.{◌≡◌, ◌↔◌, Bool, true, false, List, ℕ, zero, suc, ◌*◌, ◌%◌, ◌≤◌, ◌<◌, length, get_or, drop}
use Rattle.trellis.specs.Lists.{pick, upto, part}
use Rattle.trellis.specs.Check.{Column, shift, sent}
use Rattle.trellis.specs.Record.{record_length, record_of}
use Rattle.trellis.specs.Reply.{Reply, refusal}
use Rattle.machine.specs.CodeLine.{Read, good, bad, Code, size, rule, check, parse}
use Rattle.machine.specs.Machine.{none, made, State, last_of, columns_in, settled, update, iteration, start, place, used, held}
use Rattle.machine.specs.Machine.{Status, found, not_found}
use Rattle.machine.specs.Decoding.{Buffers, After, outcome, holding, admitted, decoding, Leaves, Decodes, Accepts, Room, LeastSent}

-- "the machine's sequence of updates": the state after the first u of them. The checks come in code order, iteration after iteration, so
-- update k, from 0, is of check k mod M. No update reads t, which stays 0 here
unfoldable pub moment_after : Code → List ℕ → ℕ → State
moment_after C f u = upto (λ k. update C (k % length C.checks)) u (start C f)

-- "the decisions satisfy all checks, tested at the start and after each check update": the test after u of them
abbrev pub test_after : Code → List ℕ → ℕ → Bool
test_after C f u = settled C (moment_after C f u).costs

-- the first of u, u + 1, .., u + n - 1 at which a test holds, or u + n when there is none
abbrev pub first_from : (ℕ → Bool) → ℕ → ℕ → ℕ
first_from p zero u = u
first_from p (suc n) u = pick (p u) u (first_from p n (suc u))

-- "M times I"
abbrev pub most_updates : Code → ℕ
most_updates C = length C.checks * C.limit

-- "the number of check updates, which is at most M times I and is the first moment in the machine's sequence of updates when the test
-- holds, or M times I when there is none"
unfoldable pub updates : Code → List ℕ → ℕ
updates C f = first_from (test_after C f) (most_updates C) 0

-- the machine's state at "that moment"
abbrev pub state_early : Code → List ℕ → State
state_early C f = moment_after C f (updates C f)

-- "The status is found if the test holds at that moment, else not found."
abbrev pub status_early : Code → List ℕ → Status
status_early C f = pick (test_after C f (updates C f)) found not_found

-- check m's place in a store
abbrev pub place_of : Code → ℕ → List ℕ → List ℕ
place_of C m s = part s (place C m) (record_length (rule C) (length (check C m)))

-- "It refuses as decoding does." "Symbols, margins, costs and updated records are those of that moment. Checks not yet updated keep the
-- old bytes of their place in the store"
abbrev pub early_under : Read Code → List ℕ → Buffers → After
early_under (bad k) f b = record { reply = refusal k; buffers = b }
early_under (good C) f b =
    record {
      reply = outcome (status_early C f) (updates C f);
      buffers = holding C (state_early C f).costs (held C b.store (state_early C f)) b;
    }

unfoldable pub decoding_early : List ℕ → List ℕ → Buffers → After
decoding_early code f b = early_under (admitted code f b) f b

-- what a call promises: its reply, and each buffer afterwards
abbrev pub DecodesEarly : List ℕ → List ℕ → Buffers → Reply → Buffers → Type 0
DecodesEarly code frame b reply b' = Leaves (decoding_early code frame b) reply b'

-- the sequence is the machine's: M updates are one iteration, so after t times M of them costs and records are those after t iterations
abbrev pub WholeIterations : Type 0
WholeIterations =
    (C : Code) (f : List ℕ) → 0 < length C.checks → (t : ℕ)
    → ((moment_after C f (t * length C.checks)).costs ≡ (upto (λ i. iteration C) t (start C f)).costs)
    × ((moment_after C f (t * length C.checks)).last ≡ (upto (λ i. iteration C) t (start C f)).last)

-- the first moment: no other number of updates has the sentence's words true of it
pub record FirstMoment (C : Code) (f : List ℕ) : Type 0 where
  pub at_most : updates C f ≤ most_updates C
  pub not-before : (u : ℕ) → u < updates C f → test_after C f u ≡ false
  pub if_found : status_early C f ≡ found → test_after C f (updates C f) ≡ true
  pub if_not : status_early C f ≡ not_found → (updates C f ≡ most_updates C) × ((u : ℕ) → u ≤ most_updates C → test_after C f u ≡ false)

-- "It never makes more updates than M times the t of the ordinary call on the same input."
abbrev pub NeverMore : Type 0
NeverMore =
    (code f : List ℕ) (b : Buffers) (C : Code) → parse code ≡ good C
    → (r r' : Reply) (o o' : Buffers) → DecodesEarly code f b r o → Decodes code f b r' o'
    → r.value ≤ length C.checks * r'.value

-- "at most M times I": of any call with a line of bytes at most 128 times 255, so that 16 bits hold it
abbrev pub FewUpdates : Type 0
FewUpdates =
    (code f : List ℕ) (b : Buffers) → ((i : ℕ) → get_or code i 0 ≤ 255)
    → (r : Reply) (o : Buffers) → DecodesEarly code f b r o → r.value ≤ 32640

-- "(It refuses as decoding does.)" On the same input both calls refuse or neither; refused, they reply and leave the same
pub record RefusesAlike (one other : After) : Type 0 where
  pub both : one.reply.refused ≡ other.reply.refused
  pub same : other.reply.refused ≡ true → one ≡ other

abbrev pub EarlyRefusesAlike : Type 0
EarlyRefusesAlike = (code f : List ℕ) (b : Buffers) → RefusesAlike (decoding_early code f b) (decoding code f b)

-- check m was updated: it is one of the first updates, check by check
abbrev pub Updated : Code → List ℕ → ℕ → Type 0
Updated C f m = (m < length C.checks) × (m < updates C f)

-- the columns of its last update
abbrev pub last_early : Code → List ℕ → ℕ → List Column
last_early C f m = columns_in (last_of (state_early C f) m)

-- one run, and what its decoding left: it is not refused, the checks updated have made an update and the others none, each place in the
-- store is its record or as it was, and each sent cost is the least that SPEC 10.3 names
pub record KeptEarly (C : Code) (f old : List ℕ) (reply : Reply) (store : List ℕ) : Type 0 where
  pub not-refused : reply.refused ≡ false
  pub replies : reply ≡ outcome (status_early C f) (updates C f)
  pub updated : (m : ℕ) → Updated C f m → last_of (state_early C f) m ≡ made (last_early C f m)
  pub not_yet : (m : ℕ) → m < length C.checks → updates C f ≤ m → last_of (state_early C f) m ≡ none
  pub recorded : (m : ℕ) → Updated C f m → place_of C m store ≡ record_of (rule C) (last_early C f m)
  pub untouched : (m : ℕ) → m < length C.checks → updates C f ≤ m → place_of C m store ≡ place_of C m old
  pub rest : drop (used C) store ≡ drop (used C) old
  pub sent-least : (m : ℕ) → Updated C f m → (n : ℕ) → n < length (check C m) → (x : ℕ) → x < size C
      → LeastSent (rule C) (last_early C f m) n x (sent (rule C) (last_early C f m) n x)

-- the same shifts and sent costs at check m's last update
pub record AgreeAt (C : Code) (f f' : List ℕ) (m : ℕ) : Type 0 where
  pub shifts : (n : ℕ) → n < length (check C m) → shift (rule C) (last_early C f m) n ≡ shift (rule C) (last_early C f' m) n
  pub sents : (n : ℕ) → n < length (check C m) → (x : ℕ) → x < size C
      → sent (rule C) (last_early C f m) n x ≡ sent (rule C) (last_early C f' m) n x

-- "so equal stores are claimed only over checks updated in both decodings": of each of these, its bytes are equal exactly when the two
-- runs agree there
pub record ComparedEarly (C : Code) (f f' old old' : List ℕ) (reply reply' : Reply) (store store' : List ℕ) : Type 0 where
  pub one : KeptEarly C f old reply store
  pub other : KeptEarly C f' old' reply' store'
  pub equal : (m : ℕ) → Updated C f m → Updated C f' m → (place_of C m store ≡ place_of C m store') ↔ AgreeAt C f f' m

-- any code line, two frames accepted under it, any call on each in buffers long enough, whatever these held before
abbrev pub EarlyStores : Type 0
EarlyStores =
    (code : List ℕ) (C : Code) (f f' : List ℕ) → Accepts code f C → Accepts code f' C
    → (b b' : Buffers) → Room C b → Room C b'
    → (r r' : Reply) (o o' : Buffers) → DecodesEarly code f b r o → DecodesEarly code f' b' r' o'
    → ComparedEarly C f f' b.store b'.store r r' o.store o'.store
