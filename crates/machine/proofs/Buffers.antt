-- Room in the four buffers, what filling them keeps, and when decoding refuses.
use mathlib.Core.Path.{◌≡◌, refl, sym, ap, ◌∙◌}
use mathlib.Core.Bool.{Bool, true, false}
use mathlib.Core.List.{List}
use Prim.Native.Nat.{ℕ, ◌*◌}
use native.Mathlib.Omega.{arith}
use lib.Dec.{eqb}
use lib.ListN.{length, drop, length-map, length-append}
use lib.Seq.{drop_at}
use borrow.Author.Tests.{ltb-false, le-ltb, eqb-true}
use Rattle.trellis.specs.Lists.{up_to, pick}
use Rattle.trellis.proofs.Places.{length-count}
use Rattle.trellis.proofs.Refusals.{none_applies}
use Rattle.machine.specs.CodeLine.{good, Code, size, parse, frame_fault, bad}
use Rattle.machine.specs.Machine.{decision_at, symbols, margins, used}
use Rattle.machine.specs.Decoding.{Buffers, holding, admitted, decoding_under, decoding, Accepts, Room, room_tests, admitted_under}
use Rattle.machine.specs.inner.Faults.{room_fault}
use Rattle.machine.proofs.Faults.{admitted-by}

-- with room in the buffers none of 2, 3, 4 and 19 applies
pub room-passes : (C : Code) (b : Buffers) → Room C b → room_fault C b ≡ 0
unfolding room_fault
room-passes C b M =
    simp (
      le-ltb (length b.symbols) C.columns M.for_symbols,
      le-ltb (length b.costs) (C.columns * size C) M.for_costs,
      le-ltb (length b.store) (used C) M.for_store,
      le-ltb (length b.margins) C.columns M.for_margins,
    )

pub admits : (code f : List ℕ) (b : Buffers) (C : Code) → Accepts code f C → Room C b → admitted code f b ≡ good C
unfolding admitted
admits code f b C A M = rw A.line (admitted-by C f b ∙ rw (A.fits, room-passes C b M))

-- an accepted call with room in its buffers is filled from the run
pub accepted_call : (code f : List ℕ) (b : Buffers) (C : Code) → Accepts code f C → Room C b → decoding code f b ≡ decoding_under (good C) f b
unfolding decoding
accepted_call code f b C A M = rw (admits code f b C A M)

pub length_symbols : (C : Code) (P : List ℕ) → length (symbols C P) ≡ C.columns
unfolding symbols
length_symbols C P = length-map (up_to C.columns) (λ c. (decision_at C P c).symbol) ∙ length-count 0 C.columns

pub length-margins : (C : Code) (P : List ℕ) → length (margins C P) ≡ C.columns
unfolding margins
length-margins C P = length-map (up_to C.columns) (λ c. (decision_at C P c).margin) ∙ length-count 0 C.columns

-- where none of the buffers' tests applies there is room
pub room_of : (C : Code) (b : Buffers) → room_fault C b ≡ 0 → Room C b
unfolding room_fault
room_of C b h =
    let p = none_applies (room_tests C.columns (C.columns * size C) (used C) (length b.symbols) (length b.costs) (length b.store) (length b.margins))
    ((λ e. omega arith), ((λ e. omega arith), ((λ e. omega arith), ((λ e. omega arith), tt)))) h in
    record { for_symbols = ltb-false _ _ p.0; for_costs = ltb-false _ _ p.1.0; for_store = ltb-false _ _ p.1.1.0; for_margins = ltb-false _ _ p.1.1.1.0 }

-- filled once more, only the last filling shows
pub holding-again : (C : Code) (P P' s s' : List ℕ) (b : Buffers) → length P ≡ C.columns * size C
    → holding C P' s' (holding C P s b) ≡ holding C P' s' b
holding-again C P P' s s' b e =
    rw (
      drop_at (symbols C P) (drop C.columns b.symbols) C.columns (length_symbols C P),
      drop_at (margins C P) (drop C.columns b.margins) C.columns (length-margins C P),
      drop_at P (drop (C.columns * size C) b.costs) (C.columns * size C) e,
    )

pub holding-room : (C : Code) (P s : List ℕ) (b : Buffers) → Room C b → length P ≡ C.columns * size C → length s ≡ length b.store
    → Room C (holding C P s b)
holding-room C P s b R e k =
    record {
      for_symbols = simp (length-append) (omega (arith, length_symbols C P));
      for_costs = simp (length-append) (omega arith);
      for_store = omega (arith, R.for_store);
      for_margins = simp (length-append) (omega (arith, length-margins C P));
    }

pub record Admits (code f : List ℕ) (b : Buffers) (C : Code) : Type 0 where
  pub line : parse code ≡ good C
  pub fits : frame_fault C f ≡ 0
  pub room : Room C b

-- decoding does not refuse: the code is read, the frame fits, and there is room
pub admits_of : (code f : List ℕ) (b : Buffers) (C : Code) → parse code ≡ good C → (decoding code f b).reply.refused ≡ false → Admits code f b C
unfolding decoding admitted
admits_of code f b C e h =
    let g : (decoding_under (pick (eqb (frame_fault C f) 0) (pick (eqb (room_fault C b) 0) (good C) (bad (room_fault C b))) (bad (frame_fault C f))) f b).reply.refused ≡ false =
    ap (λ r. (decoding_under r f b).reply.refused) (sym (admitted-by C f b)) ∙ ap (λ r. (decoding_under (admitted_under r f b) f b).reply.refused) (sym e) ∙ h in
    let z = go (eqb (frame_fault C f) 0) refl (eqb (room_fault C b) 0) refl g in
    record { line = e; fits = z.0; room = room_of C b z.1 }
  where
    go : (i : Bool) → eqb (frame_fault C f) 0 ≡ i → (j : Bool) → eqb (room_fault C b) 0 ≡ j
        → (decoding_under (pick i (pick j (good C) (bad (room_fault C b))) (bad (frame_fault C f))) f b).reply.refused ≡ false
        → (frame_fault C f ≡ 0) × (room_fault C b ≡ 0)
    go true a true c h = (eqb-true _ _ a, eqb-true _ _ c)
    go true a false c h = let z : true ≡ false = h in absurd (differ z)
      where
        differ : true ≡ false → ⊥
        differ e = let z : ◌≡◌ {A = ℕ} 0 1 = cc in omega arith
    go false a j c h = let z : true ≡ false = h in absurd (differ z)
      where
        differ : true ≡ false → ⊥
        differ e = let z : ◌≡◌ {A = ℕ} 0 1 = cc in omega arith

pub decoding-good : (code f : List ℕ) (b : Buffers) (C : Code) → Admits code f b C → decoding code f b ≡ decoding_under (good C) f b
unfolding decoding
decoding-good code f b C A = rw (admits code f b C (record { line = A.line; fits = A.fits }) A.room)
