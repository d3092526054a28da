-- What a call writes fits the lower half of its result: a line that is accepted gives at most 16,384 bytes, a word has at most 256 symbols, a
-- frame at most 16,384 costs.
use mathlib.Core.Path.{◌≡◌, refl}
use mathlib.Core.Bool.{Bool, true, false}
use mathlib.Core.List.{List, ◌++◌}
use Prim.Native.Nat.{ℕ, ◌*◌, ◌/◌, ◌≤◌}
use native.Mathlib.Decide.{dec_lt}
use native.Mathlib.Omega.{arith}
use borrow.Author.Tests.{lt-ltb, le-ltb}
use lib.Dec.{eqb, ltb}
use lib.ListN.{length, drop}
use Rattle.trellis.specs.Lists.{pick}
use Rattle.trellis.specs.Reply.{accepted, refusal}
use Rattle.machine.specs.Line.{line_ok, line_reply}
use Rattle.machine.specs.CodeLine.{Read, good, bad, Code, size, parse}
use Rattle.machine.specs.Encoding.{encoded, encode_fault, wrote, encoding_under, encoding}
use Rattle.machine.specs.Combining.{combined, combine_fault, combining_under, combining}
use Rattle.machine.proofs.Lines.{parse-good}
use Rattle.machine.proofs.Rooms.{costs-high}

pub line-short : (t out : List ℕ) → (line_reply t out).value ≤ 16384
unfolding line_reply
line-short t out =
    elim (dec_lt 32768 (length t)) [
      | yes h ↦ rw (lt-ltb 32768 (length t) h) (omega arith)
      | no h ↦ rw (le-ltb 32768 (length t) (omega arith)) (rest (omega arith) (line_ok t) (ltb (length out) (length t / 2)))
    ]
  where
    rest : length t ≤ 32768 → (a b : Bool) → (pick a (pick b (refusal 2) (accepted (length t / 2))) (refusal 14)).value ≤ 16384
    rest h true true = omega arith
    rest h true false = omega arith
    rest h false b = omega arith

pub word-short : (code u out : List ℕ) → (encoding code u out).reply.value ≤ 16384
unfolding encoding
word-short code u out = under (parse code) refl
  where
    under : (r : Read Code) → parse code ≡ r → (encoding_under r u out).reply.value ≤ 16384
    under (bad k) e = omega arith
    under (good C) e = by (eqb (encode_fault C u (length out)) 0) (parse-good code C e).columns-high
      where
        by : (b : Bool) → C.columns ≤ 256
            → (pick b (wrote (accepted C.columns) (encoded C u ++ drop C.columns out)) (wrote (refusal (encode_fault C u (length out))) out)).reply.value ≤ 16384
        by true h = omega arith
        by false h = omega arith

pub frame-short : (code f g out : List ℕ) → (combining code f g out).reply.value ≤ 16384
unfolding combining
frame-short code f g out = under (parse code) refl
  where
    under : (r : Read Code) → parse code ≡ r → (combining_under r f g out).reply.value ≤ 16384
    under (bad k) e = omega arith
    under (good C) e = by (eqb (combine_fault C f g (length out)) 0) (costs-high C (parse-good code C e))
      where
        by : (b : Bool) → C.columns * size C ≤ 16384
            → (pick b (wrote (accepted (C.columns * size C)) (combined C f g ++ drop (C.columns * size C) out)) (wrote (refusal (combine_fault C f g (length out))) out)).reply.value ≤ 16384
        by true h = h
        by false h = omega arith
