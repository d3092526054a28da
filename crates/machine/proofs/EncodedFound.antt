-- The two calls together: what is encoded, and arrives undisturbed, is found at t = 0.
use mathlib.Core.Path.{◌≡◌, refl, sym, ap, ◌∙◌}
use mathlib.Core.Bool.{true}
use mathlib.Core.List.{List, [], ◌∷◌, ◌++◌}
use Prim.Native.Nat.{ℕ, zero, suc, ◌+◌, ◌*◌, ◌<◌, ◌≤◌}
use native.Mathlib.Nat.{not-suc-le-zero, suc-mul, mul-le-mul_right}
use native.Mathlib.Omega.{arith}
use lib.Dec.{lt→ltb}
use lib.ListN.{length, get_or, take, drop, length-map, length-take, length-drop}
use lib.Seq.{ext_get_or}
use borrow.Author.Tests.{eq-eqb}
use Rattle.trellis.specs.Lists.{up_to, all_to}
use Rattle.trellis.specs.Check.{first_zero}
use Rattle.trellis.proofs.Tests.{all_of, of_true, to_true}
use Rattle.trellis.proofs.Places.{length-count}
use Rattle.machine.specs.CodeLine.{good, Code, size, column_of, zero_in, parse, frame_fault}
use Rattle.machine.specs.Machine.{symbols, settled, start, found, result, go, run}
use Rattle.machine.specs.Decoding.{Buffers, Room, decoding}
use Rattle.machine.specs.Encoding.{encode_fault, encoding, Codeword, Undisturbed, FoundAtOnce}
use Rattle.machine.proofs.Lists.{at_up_to}
use Rattle.machine.proofs.Encoding.{encode_call}
use Rattle.machine.proofs.Buffers.{accepted_call}

-- the first 0 is where nothing before it is 0
first-at : (l : List ℕ) (x : ℕ) → x < length l → get_or l x 0 ≡ 0 → ((y : ℕ) → y < x → 0 < get_or l y 0) → first_zero l ≡ x
first-at [] x h e b = absurd (not-suc-le-zero h)
first-at (zero ∷ l) zero h e b = refl
first-at (suc v ∷ l) zero h e b = absurd (omega arith)
first-at (zero ∷ l) (suc x) h e b = absurd (omega (arith, b 0 (omega arith)))
first-at (suc v ∷ l) (suc x) h e b = ap suc (first-at l x (omega arith) e (λ y i. b (suc y) (omega arith)))

module _ (C : Code) (w f : List ℕ) (W : Codeword C w) (U : Undisturbed C w f) where
  abbrev q : ℕ
  q = size C

  column-length : (n : ℕ) → n < C.columns → length (column_of q f n) ≡ q
  column-length n h =
      let k : suc n ≤ C.columns = h in
      let m : n * q + q ≤ length f = omega (arith, mul-le-mul_right q k, suc-mul n q, U.full) in
      simp (length-take, length-drop) (omega arith)

  decides : (n : ℕ) → n < C.columns → first_zero (column_of q f n) ≡ get_or w n 0
  decides n h =
      let b : get_or w n 0 < q = W.small n (omega (arith, W.full)) in
      first-at (column_of q f n) (get_or w n 0) (omega (arith, column-length n h, b)) (U.free n h) (λ y i. U.dear n y h (omega (arith, b)) (λ e. omega (arith, e)))

  symbols_are : symbols C f ≡ w
  unfolding symbols
  symbols_are =
      let l : length (symbols C f) ≡ C.columns = length-map (up_to C.columns) _ ∙ length-count 0 C.columns in
      ext_get_or 0 (symbols C f) w (l ∙ sym W.full) (λ i h. at_up_to _ C.columns i 0 (omega (arith, l)) ∙ decides i (omega (arith, l)))

  settles : settled C f ≡ true
  unfolding settled
  settles = to_true (all_of _ (length C.checks) (λ m h. rw symbols_are (of_true (W.holds m h))))

  accepts : frame_fault C f ≡ 0
  unfolding frame_fault
  accepts =
      let z : all_to (zero_in q f) C.columns ≡ true =
      to_true (all_of (zero_in q f) C.columns (λ n h. lt→ltb _ q (omega (arith, decides n h, W.small n (omega (arith, W.full)))))) in
      rw (eq-eqb (length f) (C.columns * q) U.full, z) refl

  runs : run C f ≡ result found (start C f)
  unfolding run go
  runs = at C.limit
    where
      at : (n : ℕ) → go C n (start C f) ≡ result found (start C f)
      at zero = rw settles refl
      at (suc n) = rw settles refl

  pub found_at_once : (code : List ℕ) (b : Buffers) → parse code ≡ good C → Room C b → FoundAtOnce C w f b (decoding code f b)
  found_at_once code b e R =
      rw (accepted_call code f b C (record { line = e; fits = accepts }) R, runs)
      record {
        replies = refl;
        symbols_are = ap (λ z. z ++ drop C.columns b.symbols) symbols_are;
        costs_are = refl;
        store_is = refl;
        margins_are = refl;
      }

-- what `encode` writes, given to `decode` undisturbed
pub encoded_found : (code u out : List ℕ) (C : Code) → parse code ≡ good C → encode_fault C u (length out) ≡ 0
    → (f : List ℕ) → Undisturbed C (take C.columns (encoding code u out).out) f → (b : Buffers) → Room C b
    → FoundAtOnce C (take C.columns (encoding code u out).out) f b (decoding code f b)
encoded_found code u out C e h f U b R = found_at_once C _ f (encode_call code u out C e h).front.word U code b e R
