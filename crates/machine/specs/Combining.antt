-- Two frames of the same symbols as one. The combined frame, what the call replies and leaves, and what is claimed.
use Rattle.std.specs.Prelude.{◌≡◌, ◌≢◌, List, [], ◌∷◌, map, ◌++◌, ℕ, ◌+◌, ◌*◌, ◌<◌, ◌≤◌, eqb, ltb, length, get_or, take, drop}
use Rattle.trellis.specs.Lists.{up_to, pick, blocks}
use Rattle.trellis.specs.Refusals.{when, unless, fault_by}
use Rattle.trellis.specs.Reply.{Reply, accepted, refusal}
use Rattle.machine.specs.CodeLine.{Read, good, bad, Code, size, column_of, parse, frame_tests, frame_fault}
use Rattle.machine.specs.Machine.{less_least, capped, decision_at}
use Rattle.machine.specs.Decoding.{Buffers, Room, Accepts, decoding}
use Rattle.machine.specs.Encoding.{Wrote, wrote, Codeword, FoundAtOnce}

-- "at each column and symbol add the two costs": whole numbers, up to 510, which no byte holds
abbrev pub both_costs : List ℕ → List ℕ → ℕ → ℕ
both_costs a b x = get_or a x 0 + get_or b x 0

-- "subtract the column's least, cap at 255"
unfoldable pub combined_column : ℕ → List ℕ → List ℕ → List ℕ
combined_column q a b = capped (less_least (map (both_costs a b) (up_to q)))

-- the first n columns of two frames combined, end to end
unfoldable pub combined_to : ℕ → List ℕ → List ℕ → ℕ → List ℕ
combined_to q f g n = blocks (λ c. combined_column q (column_of q f c) (column_of q g c)) n

-- the combined frame
abbrev pub combined : Code → List ℕ → List ℕ → List ℕ
combined C f g = combined_to (size C) f g C.columns

-- the refusals after the code's: "12 and 13 for the first frame. New: 23, second frame's length wrong or a column of it has no 0, after
-- these; then 2 for the output buffer", which "needs N times q bytes"; 0 for none
unfoldable pub combine_fault : Code → List ℕ → List ℕ → ℕ → ℕ
combine_fault C f g room =
    fault_by
    (frame_tests (size C) C.columns f
    ++ (unless (eqb (frame_fault C g) 0) 23
    ∷ when (ltb room (C.columns * size C)) 2
    ∷ []))

-- under a code that was read: a refusal changes nothing; else N times q costs, and their number is returned
abbrev pub combining_under : Read Code → List ℕ → List ℕ → List ℕ → Wrote
combining_under (bad k) f g out = wrote (refusal k) out
combining_under (good C) f g out =
    pick (eqb (combine_fault C f g (length out)) 0)
    (wrote (accepted (C.columns * size C)) (combined C f g ++ drop (C.columns * size C) out))
    (wrote (refusal (combine_fault C f g (length out))) out)

unfoldable pub combining : List ℕ → List ℕ → List ℕ → List ℕ → Wrote
combining code f g out = combining_under (parse code) f g out

-- what a call of combine promises: its reply, and the output buffer afterwards
pub record Combines (code f g out : List ℕ) (reply : Reply) (out' : List ℕ) : Type 0 where
  pub replies : reply ≡ (combining code f g out).reply
  pub out-then : out' ≡ (combining code f g out).out

-- what a call that wrote w bytes leaves: both frames were accepted, the w bytes are the combined frame, and the rest is as it was
pub record Left (code f g out : List ℕ) (w : ℕ) (out' : List ℕ) : Type 0 where
  pub under : Code
  pub first : Accepts code f under
  pub second : Accepts code g under
  pub bytes : w ≡ under.columns * size under
  pub front : take w out' ≡ combined under f g
  pub rest : drop w out' ≡ drop w out
  pub itself : Accepts code (take w out') under
  pub small : (i : ℕ) → get_or (take w out') i 0 ≤ 255

-- "The result is itself an accepted frame", under the same code line, and its costs are bytes
abbrev pub AcceptedAgain : Type 0
AcceptedAgain = (code f g out : List ℕ) (w : ℕ) (out' : List ℕ) → Combines code f g out (accepted w) out' → Left code f g out w out'

-- "the same in either order of the two": the frame, and so the reply and the buffer of two calls on buffers of the same content
pub record SameTurned (code f g : List ℕ) (C : Code) : Type 0 where
  pub frames : combined C f g ≡ combined C g f
  pub calls : (out : List ℕ) (r r' : Reply) (o o' : List ℕ)
      → Combines code f g out r o → Combines code g f out r' o' → (r ≡ r') × (o ≡ o')

abbrev pub EitherOrder : Type 0
EitherOrder = (code f g : List ℕ) (C : Code) → Accepts code f C → Accepts code g C → SameTurned code f g C

-- a frame whose costs are all 0 favours no symbol: combined with it, a frame of bytes comes back
abbrev pub NothingAdded : Type 0
NothingAdded =
    (code f g : List ℕ) (C : Code) → Accepts code f C → Accepts code g C
    → ((i : ℕ) → get_or f i 0 ≤ 255) → ((i : ℕ) → get_or g i 0 ≡ 0) → combined C f g ≡ f

-- the cost of symbol x in column c of a frame, of the two together, and the decision of the combined frame
abbrev pub cost_in : Code → List ℕ → ℕ → ℕ → ℕ
cost_in C f c x = get_or (column_of (size C) f c) x 0

abbrev pub both_in : Code → List ℕ → List ℕ → ℕ → ℕ → ℕ
both_in C f g c x = cost_in C f c x + cost_in C g c x

abbrev pub decided_in : Code → List ℕ → List ℕ → ℕ → ℕ
decided_in C f g c = (decision_at C (combined C f g) c).symbol

-- the decision is the smallest symbol at which the two costs add up to their least
pub record LeastTogether (C : Code) (f g : List ℕ) (c : ℕ) : Type 0 where
  pub element : decided_in C f g c < size C
  pub least : (x : ℕ) → x < size C → both_in C f g c (decided_in C f g c) ≤ both_in C f g c x
  pub smallest : (x : ℕ) → x < decided_in C f g c → both_in C f g c (decided_in C f g c) < both_in C f g c x

abbrev pub DecidedTogether : Type 0
DecidedTogether = (C : Code) (f g : List ℕ) (c : ℕ) → c < C.columns → LeastTogether C f g c

-- where both frames have cost 0 at symbol x: so has the combined one, and its decision is a symbol at which both have cost 0, none above x
pub record Shared (C : Code) (f g : List ℕ) (c x : ℕ) : Type 0 where
  pub free : cost_in C (combined C f g) c x ≡ 0
  pub first-free : cost_in C f c (decided_in C f g c) ≡ 0
  pub second-free : cost_in C g c (decided_in C f g c) ≡ 0
  pub smallest : decided_in C f g c ≤ x

abbrev pub SharedZero : Type 0
SharedZero =
    (C : Code) (f g : List ℕ) (c x : ℕ) → c < C.columns → x < size C
    → cost_in C f c x ≡ 0 → cost_in C g c x ≡ 0 → Shared C f g c x

-- two frames of one word: its symbols cost 0 in both, and each other symbol costs something in one of them
pub record OfOneWord (C : Code) (w f g : List ℕ) : Type 0 where
  pub first-free : (c : ℕ) → c < C.columns → cost_in C f c (get_or w c 0) ≡ 0
  pub second-free : (c : ℕ) → c < C.columns → cost_in C g c (get_or w c 0) ≡ 0
  pub dear : (c x : ℕ) → c < C.columns → x < size C → x ≢ get_or w c 0 → 0 < both_in C f g c x

-- then the combined frame is found at t = 0 with that word, where neither frame alone needs to be
abbrev pub FoundTogether : Type 0
FoundTogether =
    (code w f g : List ℕ) (C : Code) → parse code ≡ good C → Codeword C w → OfOneWord C w f g
    → (b : Buffers) → Room C b → FoundAtOnce C w (combined C f g) b (decoding code (combined C f g) b)
