-- Encoding under a code, by the number of its refusal; and under a line that says the code.
use mathlib.Core.Path.{◌≡◌, refl, sym, ap, ap₂, ◌∙◌}
use mathlib.Core.List.{List, ◌++◌}
use Prim.Native.Nat.{ℕ, ◌+◌, ◌≤◌}
use native.Mathlib.Omega.{arith}
use lib.ListN.{length, take, drop, length-append, length-drop, length-take, get_or-append}
use lib.Seq.{take_at, take-append-add, drop-append-add, drop-drop, length-take-le}
use borrow.Author.Tests.{eq-eqb, ne_eqb}
use Rattle.trellis.specs.Reply.{accepted, refusal}
use Rattle.machine.specs.CodeLine.{good, Code, numbers_of, parse}
use Rattle.machine.specs.Encoding.{encoded, encode_fault, wrote, encoding_under, encoding}
use Rattle.machine.proofs.Encoding.{more-columns, encode_none}
use Rattle.codeline.specs.declared.code.Code.{Code as LentCode}
use Rattle.codeline.specs.Codes.{lent_code}
use Rattle.codeline.specs.declared.answers.Numbers.{Numbers}
use Rattle.refusal.specs.declared.Refusal.{Refusal}
use Rattle.refusal.specs.Numbers.{number_of}
use Rattle.std.specs.Prelude.{Result, Err}
use Rattle.codeline.specs.Answers.{header_numbers}
use Rattle.codeline.proofs.Answered.{header_refused}
use Rattle.slices.specs.Copies.{copied_to}
use Rattle.slices.proofs.Copies.{copied_is}
use Rattle.encoder.specs.inner.Rooms.{FillRoom}

-- a call under a code that was read, of which n is N
module _ (K : LentCode) (u out : List ℕ) where
  abbrev C : Code
  C = lent_code K

  pub call_refused : (k : ℕ) → k ≡ encode_fault C u (length out) → (k ≡ 0 → ⊥) → encoding_under (good C) u out ≡ wrote (refusal k) out
  call_refused k o h = rw (← o, ne_eqb k 0 h)

  module _ (no_fault : 0 ≡ encode_fault C u (length out)) (n : ℕ) (N : n ≡ K.numbers.columns) where
    split-n : n ≡ length u + length C.checks
    split-n = let f = encode_none C u (length out) (sym no_fault) in omega (arith, f.1, more-columns C K.coded.good f.0)

    pub call_room : (length u ≤ length out) × (n ≤ length out)
    call_room = let f = encode_none C u (length out) (sym no_fault) in (omega (arith, f.3, split-n), omega (arith, f.3))

    -- after the copy of the message
    module _ (v : List ℕ) (copied : v ≡ copied_to u (take (length u) out)) where
      same : v ≡ u
      same = copied_is u (take (length u) out) v (sym (length-take-le (length u) out call_room.0)) copied

      pub kept_room : n ≤ length (v ++ drop (length u) out)
      kept_room = rw same (simp (length-append, length-drop) (omega (arith, call_room)))

      abbrev rest : List ℕ
      rest = take (length C.checks) (drop (length u) out)

      front : take n (v ++ drop (length u) out) ≡ u ++ rest
      front = ap₂ (λ k a. take k (a ++ drop (length u) out)) split-n same ∙ take-append-add u (drop (length u) out) (length C.checks)

      length_rest : length rest ≡ length C.checks
      length_rest = simp (length-take, length-drop) (omega (arith, call_room, split-n))

      pub call_fill_room : FillRoom K (length u) (take n (v ++ drop (length u) out))
      call_fill_room =
          let f = encode_none C u (length out) (sym no_fault) in
          rw front
          record {
            form = f.0;
            message = f.1;
            full = length-append u rest ∙ omega (arith, length_rest, split-n);
            small = λ j h. rw (get_or-append u rest 0 j h) (f.2 j h);
          }

      pub call_leaves : (x : List ℕ) → x ≡ encoded C (take (length u) (take n (v ++ drop (length u) out)))
          → encoding_under (good C) u out ≡ wrote (accepted n) (x ++ drop n (v ++ drop (length u) out))
      call_leaves x j =
          let a : x ≡ encoded C u = j ∙ ap (encoded C) (ap (take (length u)) front ∙ take_at u rest (length u) refl) in
          let d : drop n (v ++ drop (length u) out) ≡ drop n out =
          ap₂ (λ k a. drop k (a ++ drop (length u) out)) split-n same ∙ drop-append-add u (drop (length u) out) (length C.checks) ∙ drop-drop (length C.checks) (length u) out ∙ ap (λ k. drop k out) (sym split-n) in
          rw (eq-eqb (encode_fault C u (length out)) 0 (sym no_fault), a, d, N)

-- what the reader's answer says of the line
pub line_refused : (s : List ℕ) (h : Result Numbers Refusal) → header_numbers h ≡ numbers_of (parse s) → (r : Refusal) → h ≡ Err r → (u out : List ℕ) → encoding s u out ≡ wrote (refusal (number_of r)) out
unfolding encoding
line_refused s h e r i u out = rw (header_refused s h e r i)

pub line_encodes : (s : List ℕ) (C : Code) → parse s ≡ good C → (u out : List ℕ) → encoding s u out ≡ encoding_under (good C) u out
unfolding encoding
line_encodes s C e u out = rw e
