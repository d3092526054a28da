-- The laws behind a frame's tests: a turn of the loops over columns and costs, and the tests in their order.
use mathlib.Core.Path.{◌≡◌, refl, sym, ap, ap₂, ◌∙◌}
use mathlib.Core.Bool.{Bool, true, false, ◌&&◌}
use mathlib.Core.List.{List, map}
use Prim.Native.Nat.{ℕ, zero, suc, ◌≤◌, ◌+◌, ◌-◌, ◌*◌, ◌<◌, min}
use native.Mathlib.Nat.{add-sub_cancel_left}
use native.Mathlib.Numerals.{add-one}
use native.Mathlib.Omega.{arith}
use lib.Dec.{eqb, ltb}
use borrow.Author.Tests.{eqb-true, eq-eqb, ne_eqb}
use lib.ListN.{length, take, drop, get_or}
use Rattle.refusal.proofs.Numbers.{some_number}
use Rattle.std.specs.List.{list_all, range_with_len}
use Rattle.std.proofs.lemmas.List.{take-map, drop-map, map-id}
use Rattle.std.proofs.lemmas.List.Folds.{list_all_more}
use Rattle.std.proofs.lemmas.List.FromFn.{length-range_with_len, get_or-range_with_len}
use lib.Seq.{take_all}
use Rattle.refusal.specs.Numbers.{number_of}
use Rattle.refusal.specs.declared.Refusal.{Refusal}
use Rattle.trellis.specs.Lists.{part, all_to, pick}
use Rattle.trellis.specs.Check.{first_zero}
use Rattle.trellis.specs.Refusals.{fault_by}
use Rattle.trellis.specs.Rules.{size_of}
use Rattle.trellis.proofs.Refusals.{in_order_lem, by_number, Numbered}
use Rattle.machine.specs.CodeLine.{zero_in, frame_tests}
use Rattle.machine.specs.Decoding.{room_tests, decode_tests}
use Rattle.machine.specs.inner.Tables.{bytes_before}
use Rattle.machine.proofs.Faults.{frame_numbered}
use Rattle.codeline.specs.declared.answers.Numbers.{Numbers}
use Rattle.frame.specs.Answers.{frame_fault_of, room_fault_of, fault_of}

-- a column's test, by the place of its first zero
pub zero_told : {A : Type 0} (v : A → ℕ) (q c z : ℕ) (l : List A) → z ≡ first_zero (map v (take (c * q + q - c * q) (drop (c * q) l))) → ltb z q ≡ zero_in q (map v l) c
zero_told v q c z l e =
    let w : map v (take q (drop (c * q) l)) ≡ part (map v l) (c * q) q = sym (take-map v q (drop (c * q) l)) ∙ ap (take q) (sym (drop-map v (c * q) l)) in
    rw (e, add-sub_cancel_left (c * q) q, w)

-- a test of each member of a list, as one of each place
pub all_members : (p g : ℕ → Bool) (w : List ℕ) → ((i : ℕ) → i < length w → p (get_or w i 0) ≡ g i) → list_all p w ≡ all_to g (length w)
all_members p g w e = ap (list_all p) (sym (take_all (length w) w (omega arith))) ∙ go (length w) (omega arith)
  where
    go : (n : ℕ) → n ≤ length w → list_all p (take n w) ≡ all_to g n
    go zero h = refl
    go (suc n) h =
        ap (λ m. list_all p (take m w)) (sym (add-one n)) ∙ list_all_more p w n 0 (omega arith) ∙ ap₂ (λ a b. a && b) (go n (omega arith)) (e n (omega arith))

all_ranged : (p : ℕ → Bool) (n : ℕ) → list_all p (range_with_len 0 n) ≡ all_to p n
all_ranged p n =
    let l : length (range_with_len 0 n) ≡ n = length-range_with_len 0 n in
    all_members p p (range_with_len 0 n) (λ i h. let e : get_or (range_with_len 0 n) i 0 ≡ i = omega (arith, get_or-range_with_len 0 n i 0 (omega (arith, h, l))) in ap p e) ∙ ap (all_to p) l

-- the test of each column, of costs that are numbers as they are
pub zeros_are : (q n : ℕ) (l : List ℕ) → list_all (zero_in q (map (λ x. x) l)) (range_with_len 0 n) ≡ all_to (zero_in q l) n
zeros_are q n l = all_ranged (zero_in q (map (λ x. x) l)) n ∙ ap (λ k. all_to (zero_in q k) n) (map-id l)

pub frame-counted : (first n : ℕ) (f : List ℕ) → frame_fault_of first n f ≡ 0 → length f ≡ n * size_of first
unfolding frame_fault_of
frame-counted first n f h = go (eqb (length f) (n * size_of first)) refl (all_to (zero_in (size_of first) f) n) h
  where
    go : (a : Bool) → eqb (length f) (n * size_of first) ≡ a → (b : Bool) → ◌≡◌ {A = ℕ} (pick a (pick b 0 13) 12) 0 → length f ≡ n * size_of first
    go true e b h = eqb-true _ _ e
    go false e b h = absurd (omega arith)

-- all tests after the code: the frame's, then those of the buffers
pub decode_numbered : (q n u : ℕ) (f : List ℕ) (y c s v : ℕ) → Numbered (decode_tests q n u f y c s v)
decode_numbered q n u f y c s v =
    ((λ e. omega arith), ((λ e. omega arith), ((λ e. omega arith), ((λ e. omega arith), ((λ e. omega arith), ((λ e. omega arith), tt))))))

pub decode_parts : (q n u : ℕ) (f : List ℕ) (y c s v : ℕ)
    → fault_by (decode_tests q n u f y c s v)
    ≡ pick (eqb (fault_by (frame_tests q n f)) 0) (fault_by (room_tests n (n * q) u y c s v)) (fault_by (frame_tests q n f))
decode_parts q n u f y c s v =
    in_order_lem (frame_tests q n f) (room_tests n (n * q) u y c s v) (λ k. k) 0 ∙ by_number (frame_tests q n f) (frame_numbered q n f) (λ k. k) _

fault_by_lem : (k : Numbers) (ds f : List ℕ) (y c s v : ℕ)
    → fault_of k ds f y c s v
    ≡ pick (eqb (frame_fault_of k.first k.columns f) 0)
    (room_fault_of k.columns (k.columns * size_of k.first) (bytes_before k.first ds (min k.checks (length ds))) y c s v)
    (frame_fault_of k.first k.columns f)
unfolding fault_of frame_fault_of room_fault_of
fault_by_lem k ds f y c s v = decode_parts (size_of k.first) k.columns (bytes_before k.first ds (min k.checks (length ds))) f y c s v

module _ (k : Numbers) (ds f : List ℕ) (y c s v : ℕ) where
  pub decode_refused : (r : Refusal) → number_of r ≡ frame_fault_of k.first k.columns f → number_of r ≡ fault_of k ds f y c s v
  decode_refused r e = e ∙ rw (fault_by_lem k ds f y c s v, ne_eqb (frame_fault_of k.first k.columns f) 0 (λ z. some_number r (e ∙ z)))

  pub decode_room : (n u x : ℕ) → 0 ≡ frame_fault_of k.first k.columns f → n ≡ k.columns → u ≡ bytes_before k.first ds (min k.checks (length ds))
      → x ≡ room_fault_of n (length f) u y c s v → x ≡ fault_of k ds f y c s v
  decode_room n u x e i j o =
      o ∙ rw (fault_by_lem k ds f y c s v, i, j, frame-counted k.first k.columns f (sym e), eq-eqb (frame_fault_of k.first k.columns f) 0 (sym e))
