-- What a decode call replies and leaves in its buffers, refused calls included; and when two stores are equal. SPEC 7.6, 10.3.
use Rattle.std.specs.Prelude.{◌≡◌, ◌↔◌, false, List, [], ◌∷◌, ◌++◌, ℕ, ◌*◌, ◌≤◌, ◌<◌, eqb, ltb, length, take, drop}
use Rattle.trellis.specs.Lists.{pick, others, put}
use Rattle.trellis.specs.Check.{Rule, Column, Fits, deviations, weighted_sum, cost_of, shift, sent}
use Rattle.trellis.specs.Refusals.{Test, when, refused_by}
use Rattle.trellis.specs.Reply.{Reply, refusal, found_in, not_found_in}
use Rattle.machine.specs.CodeLine.{Read, good, bad, Code, size, rule, check, parse, frame_tests, frame_fault}
use Rattle.machine.specs.Machine.{made, State, Status, found, not_found, run, symbols, margins, records, used, last_of, columns_in}

-- the four lent buffers of a decoding, in the order of its parameters
pub record Buffers : Type 0 where
  pub symbols : List ℕ
  pub costs : List ℕ
  pub store : List ℕ
  pub margins : List ℕ

abbrev pub lending : List ℕ → List ℕ → List ℕ → List ℕ → Buffers
lending y c s v = record { symbols = y; costs = c; store = s; margins = v }

-- the reply, and the buffers afterwards
pub record After : Type 0 where
  pub reply : Reply
  pub buffers : Buffers

-- "The result is found (0) or not found (1), with t." (SPEC 6.10)
abbrev pub outcome : Status → ℕ → Reply
outcome found t = found_in t
outcome not_found t = not_found_in t

-- "The symbol buffer then holds the N decisions, the cost buffer .. holds P, N times q of them"; "Decoding fills a second lent buffer
-- with N margins, 16 bits each, from the final P." "Elements past the used part .. keep their old content." (SPEC 7.6.3, 7.1.5)
abbrev pub holding : Code → List ℕ → List ℕ → Buffers → Buffers
holding C P store b =
    record {
      symbols = symbols C P ++ drop C.columns b.symbols;
      costs = P ++ drop (C.columns * size C) b.costs;
      store = store;
      margins = margins C P ++ drop C.columns b.margins;
    }

-- "the record store holds the records .. With t = 0 the store is untouched." (SPEC 7.6.3)
abbrev pub store_of : Code → State → List ℕ → List ℕ
store_of C end s = pick (eqb end.t 0) s (records C end ++ drop (used C) s)

-- 2, 3, 4, in this order; "19, margin buffer shorter than N, after 4": n symbols, w costs, u bytes and n margins are needed (SPEC 8.4)
abbrev pub room_tests : ℕ → ℕ → ℕ → ℕ → ℕ → ℕ → ℕ → List Test
room_tests n w u symbols costs store margins =
    when (ltb symbols n) 2
    ∷ when (ltb costs w) 3
    ∷ when (ltb store u) 4
    ∷ when (ltb margins n) 19
    ∷ []

-- "Decode: code, 12, 13, 2, 3, 4.", 19: what comes after the code, for n columns of q costs and u bytes of records (SPEC 8.4)
abbrev pub decode_tests : ℕ → ℕ → ℕ → List ℕ → ℕ → ℕ → ℕ → ℕ → List Test
decode_tests q n u f symbols costs store margins = frame_tests q n f ++ room_tests n (n * q) u symbols costs store margins

-- the code, or the number by which decoding refuses
abbrev pub admitted_under : Read Code → List ℕ → Buffers → Read Code
admitted_under (bad k) f b = bad k
admitted_under (good C) f b =
    refused_by
    (decode_tests (size C) C.columns (used C) f (length b.symbols) (length b.costs) (length b.store) (length b.margins))
    bad (good C)

unfoldable pub admitted : List ℕ → List ℕ → Buffers → Read Code
admitted code f b = admitted_under (parse code) f b

-- "A refusal returns its number with t = 0; no lent buffer changes." (SPEC 8.1)
abbrev pub decoding_under : Read Code → List ℕ → Buffers → After
decoding_under (bad k) f b = record { reply = refusal k; buffers = b }
decoding_under (good C) f b =
    record {
      reply = outcome (run C f).status (run C f).end.t;
      buffers = holding C (run C f).end.costs (store_of C (run C f).end b.store) b;
    }

unfoldable pub decoding : List ℕ → List ℕ → Buffers → After
decoding code f b = decoding_under (admitted code f b) f b

-- the reply and the four buffers are these
pub record Leaves (A : After) (reply : Reply) (b : Buffers) : Type 0 where
  pub replies : reply ≡ A.reply
  pub symbols-then : b.symbols ≡ A.buffers.symbols
  pub costs-then : b.costs ≡ A.buffers.costs
  pub store_then : b.store ≡ A.buffers.store
  pub margins-then : b.margins ≡ A.buffers.margins

-- what a call of decode promises: its reply, and each buffer afterwards
abbrev pub Decodes : List ℕ → List ℕ → Buffers → Reply → Buffers → Type 0
Decodes code frame b reply b' = Leaves (decoding code frame b) reply b'

-- "A frame is accepted under a code line when none of 5 to 13 applies to the two." (SPEC 5.3)
pub record Accepts (code frame : List ℕ) (C : Code) : Type 0 where
  pub line : parse code ≡ good C
  pub fits : frame_fault C frame ≡ 0

-- "buffers long enough" (SPEC 7.6.2)
pub record Room (C : Code) (b : Buffers) : Type 0 where
  pub for_symbols : C.columns ≤ length b.symbols
  pub for_costs : C.columns * size C ≤ length b.costs
  pub for_store : used C ≤ length b.store
  pub for_margins : C.columns ≤ length b.margins

-- the columns of the last update of check m in the run on a frame
abbrev pub last_update : Code → List ℕ → ℕ → List Column
last_update C f m = columns_in (last_of (run C f).end m)

-- "all choices for the other columns that depart from at most" k "hard decisions and, together with that symbol, satisfy the check"
pub record Completes (R : Rule) (cs : List Column) (n x : ℕ) (w : List ℕ) : Type 0 where
  pub fits : Fits R.size (others n cs) w
  pub few : deviations (others n cs) w ≤ R.most
  pub satisfies : weighted_sum R cs (put n x w) ≡ 0

-- v is the least cost over these
pub record LeastSent (R : Rule) (cs : List Column) (n x v : ℕ) : Type 0 where
  pub choice : List ℕ
  pub completes : Completes R cs n x choice
  pub attained : cost_of R (others n cs) choice ≡ v
  pub least : (w : List ℕ) → Completes R cs n x w → v ≤ cost_of R (others n cs) w

-- one run, and what its decoding left: it is not refused, every check was updated, the store's used part is the records of the last
-- updates, and each sent cost is the least that SPEC 10.3 names
pub record Kept (C : Code) (f : List ℕ) (reply : Reply) (store : List ℕ) : Type 0 where
  pub not-refused : reply.refused ≡ false
  pub replies : reply ≡ outcome (run C f).status (run C f).end.t
  pub updated : (m : ℕ) → m < length C.checks → last_of (run C f).end m ≡ made (last_update C f m)
  pub used-part : take (used C) store ≡ records C (run C f).end
  pub sent-least : (m : ℕ) → m < length C.checks → (n : ℕ) → n < length (check C m) → (x : ℕ) → x < size C
      → LeastSent (rule C) (last_update C f m) n x (sent (rule C) (last_update C f m) n x)

-- "at the last update of every check, each column was sent the same sum of the other columns' weighted hard decisions and, at each symbol,
-- the same least cost before scaling" (SPEC 10.3)
pub record Agree (C : Code) (f f' : List ℕ) : Type 0 where
  pub shifts : (m : ℕ) → m < length C.checks → (n : ℕ) → n < length (check C m)
      → shift (rule C) (last_update C f m) n ≡ shift (rule C) (last_update C f' m) n
  pub sents : (m : ℕ) → m < length C.checks → (n : ℕ) → n < length (check C m) → (x : ℕ) → x < size C
      → sent (rule C) (last_update C f m) n x ≡ sent (rule C) (last_update C f' m) n x

-- "the two used parts are equal, byte for byte, exactly when the two runs agree in this" (SPEC 10.3)
pub record Compared (C : Code) (f f' : List ℕ) (reply reply' : Reply) (store store' : List ℕ) : Type 0 where
  pub one : Kept C f reply store
  pub other : Kept C f' reply' store'
  pub equal : (take (used C) store ≡ take (used C) store') ↔ Agree C f f'

-- SPEC 10.3: any code line, two frames accepted under it on which the machine makes at least one iteration, any decoding of each in
-- buffers long enough, whatever these held before. "Stores are compared only between decodings of the same edition, which the same code
-- line ensures": the rule of both is that of C (SPEC 10.3)
abbrev pub Demand3 : Type 0
Demand3 =
    (code : List ℕ) (C : Code) (f f' : List ℕ) → Accepts code f C → Accepts code f' C
    → 0 < (run C f).end.t → 0 < (run C f').end.t
    → (b b' : Buffers) → Room C b → Room C b'
    → (r r' : Reply) (o o' : Buffers) → Decodes code f b r o → Decodes code f' b' r' o'
    → Compared C f f' r r' o.store o'.store
