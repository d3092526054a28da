-- Encoding. The word of a message under a code line of the form that encoding needs, what the call replies and leaves,
-- and what its word is. SPEC 4.8, 4.9, 7.9.
use Rattle.std.specs.Prelude.{◌≡◌, ◌≢◌, Bool, true, false, ◌&&◌, ◌||◌, List, [], ◌∷◌, ◌++◌, ℕ, zero, suc, ◌+◌, ◌-◌, ◌*◌, ◌<◌, eqb, ltb, leb, length, get_or, take, drop}
use Rattle.trellis.specs.Lists.{pick, all_to}
use Rattle.trellis.specs.Field.{quotient}
use Rattle.trellis.specs.Refusals.{Test, when, unless, fault_by}
use Rattle.trellis.specs.Reply.{Reply, accepted, refusal, found_in}
use Rattle.machine.specs.CodeLine.{Read, good, bad, Edge, Code, power, size, check, edge_at, column_of, parse}
use Rattle.machine.specs.Machine.{margins, parity_sum, satisfied}
use Rattle.machine.specs.Decoding.{Buffers, After}

-- N - M
abbrev pub message_length : Code → ℕ
message_length C = C.columns - length C.checks

-- the column N - M + m, which check m works out
abbrev pub own_column : Code → ℕ → ℕ
own_column C m = message_length C + m

-- the check contains a column
abbrev pub contains : ℕ → List Edge → Bool
contains c [] = false
contains c (e ∷ es) = eqb e.column c || contains c es

abbrev pub none_above : ℕ → List Edge → Bool
none_above c es = all_to (λ k. leb (edge_at es k).column c) (length es)

-- "lines where N exceeds M and check m, counted from 0, contains column N - M + m and no higher one" (SPEC 4.8)
unfoldable pub encodable : Code → Bool
encodable C =
    ltb (length C.checks) C.columns
    && all_to (λ m. contains (own_column C m) (check C m) && none_above (own_column C m) (check C m)) (length C.checks)

-- the symbol that satisfies a check whose other columns stand in w: the columns rise, so its own is the last, and the symbol is the sum
-- of the others divided by the last weight (SPEC 4.9)
abbrev pub last_weight : List Edge → ℕ
last_weight es = (edge_at es (length es - 1)).weight

unfoldable pub own_symbol : ℕ → List Edge → List ℕ → ℕ
own_symbol p es w = quotient p (last_weight es) (parity_sum p es w (length es - 1))

-- the message, and the symbols of the first m checks after it
unfoldable pub encode_to : Code → List ℕ → ℕ → List ℕ
encode_to C u zero = u
encode_to C u (suc m) = encode_to C u m ++ (own_symbol (power C) (check C m) (encode_to C u m) ∷ [])

abbrev pub encoded : Code → List ℕ → List ℕ
encoded C u = encode_to C u (length C.checks)

-- each symbol is below q
abbrev pub symbols_ok : ℕ → List ℕ → Bool
symbols_ok q w = all_to (λ i. ltb (get_or w i 0) q) (length w)

-- the refusals after the code's: "17, the code line lacks this form ..; 18, message length is not N - M or a symbol is not below q, after
-- 17; then 2" (SPEC 8.9)
abbrev pub encode_tests : Code → List ℕ → ℕ → List Test
encode_tests C u room =
    unless (encodable C) 17
    ∷ unless (eqb (length u) (message_length C)) 18
    ∷ unless (symbols_ok (size C) u) 18
    ∷ when (ltb room C.columns) 2
    ∷ []

-- the number, 0 for none
unfoldable pub encode_fault : Code → List ℕ → ℕ → ℕ
encode_fault C u room = fault_by (encode_tests C u room)

pub record Wrote : Type 0 where
  pub reply : Reply
  pub out : List ℕ

abbrev pub wrote : Reply → List ℕ → Wrote
wrote r l = record { reply = r; out = l }

-- under a code that was read: a refusal changes nothing; else N symbols, and N is returned (SPEC 7.9)
abbrev pub encoding_under : Read Code → List ℕ → List ℕ → Wrote
encoding_under (bad k) u out = wrote (refusal k) out
encoding_under (good C) u out =
    pick (eqb (encode_fault C u (length out)) 0)
    (wrote (accepted C.columns) (encoded C u ++ drop C.columns out))
    (wrote (refusal (encode_fault C u (length out))) out)

unfoldable pub encoding : List ℕ → List ℕ → List ℕ → Wrote
encoding code u out = encoding_under (parse code) u out

-- a word of N symbols below q that satisfies every check
pub record Codeword (C : Code) (w : List ℕ) : Type 0 where
  pub full : length w ≡ C.columns
  pub small : (i : ℕ) → i < length w → get_or w i 0 < size C
  pub holds : (m : ℕ) → m < length C.checks → satisfied (power C) (check C m) w ≡ true

-- "The first N - M symbols are the message, each check is satisfied, and no other word with that message satisfies them all."
pub record Encodes (C : Code) (u w : List ℕ) : Type 0 where
  pub message : take (message_length C) w ≡ u
  pub word : Codeword C w
  pub only : (v : List ℕ) → Codeword C v → take (message_length C) v ≡ u → v ≡ w

-- a frame in which column n costs 0 at symbol n of w, and more at every other: what arrives of w where nothing is disturbed
pub record Undisturbed (C : Code) (w f : List ℕ) : Type 0 where
  pub full : length f ≡ C.columns * size C
  pub free : (n : ℕ) → n < C.columns → get_or (column_of (size C) f n) (get_or w n 0) 0 ≡ 0
  pub dear : (n x : ℕ) → n < C.columns → x < size C → x ≢ get_or w n 0 → 0 < get_or (column_of (size C) f n) x 0

-- a decoding of it that is found at t = 0 with that word: the symbols, the frame as costs, an untouched store, the frame's margins
pub record FoundAtOnce (C : Code) (w f : List ℕ) (b : Buffers) (o : After) : Type 0 where
  pub replies : o.reply ≡ found_in 0
  pub symbols_are : o.buffers.symbols ≡ w ++ drop C.columns b.symbols
  pub costs_are : o.buffers.costs ≡ f ++ drop (C.columns * size C) b.costs
  pub store_is : o.buffers.store ≡ b.store
  pub margins_are : o.buffers.margins ≡ margins C f ++ drop C.columns b.margins
