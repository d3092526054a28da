-- A call's refusals by their numbers: those of the frame, then those of what comes after it.
use mathlib.Core.Path.{◌≡◌, ap, ◌∙◌}
use mathlib.Core.List.{List, [], ◌∷◌}
use Prim.Native.Nat.{ℕ, ◌*◌}
use native.Mathlib.Omega.{arith}
use lib.Dec.{eqb, ltb}
use lib.ListN.{length}
use Rattle.trellis.specs.Lists.{pick}
use Rattle.trellis.specs.Refusals.{when, unless}
use Rattle.trellis.proofs.Refusals.{in_order_lem, by_number, Numbered}
use Rattle.machine.specs.CodeLine.{Read, good, bad, Code, size, frame_tests, frame_fault}
use Rattle.machine.specs.Machine.{used}
use Rattle.machine.specs.Decoding.{Buffers, room_tests, admitted_under}
use Rattle.machine.specs.Combining.{combine_fault}
use Rattle.machine.specs.inner.Faults.{room_fault}

pub frame_numbered : (q n : ℕ) (f : List ℕ) → Numbered (frame_tests q n f)
frame_numbered q n f = ((λ e. omega arith), ((λ e. omega arith), tt))

pub room_numbered : (n w u y c s v : ℕ) → Numbered (room_tests n w u y c s v)
room_numbered n w u y c s v = ((λ e. omega arith), ((λ e. omega arith), ((λ e. omega arith), ((λ e. omega arith), tt))))

pub admitted-by : (C : Code) (f : List ℕ) (b : Buffers)
    → admitted_under (good C) f b
    ≡ pick (eqb (frame_fault C f) 0) (pick (eqb (room_fault C b) 0) (good C) (bad (room_fault C b))) (bad (frame_fault C f))
unfolding frame_fault room_fault
admitted-by C f b =
    let l = frame_tests (size C) C.columns f in
    let m = room_tests C.columns (C.columns * size C) (used C) (length b.symbols) (length b.costs) (length b.store) (length b.margins) in
    in_order_lem l m bad (good C)
    ∙ by_number l (frame_numbered (size C) C.columns f) bad _
    ∙ ap (λ (r : Read Code). pick (eqb (frame_fault C f) 0) r (bad (frame_fault C f))) (by_number m (room_numbered C.columns (C.columns * size C) (used C) (length b.symbols) (length b.costs) (length b.store) (length b.margins)) bad (good C))

pub combine_by : (C : Code) (f g : List ℕ) (room : ℕ)
    → combine_fault C f g room
    ≡ pick (eqb (frame_fault C f) 0) (pick (eqb (frame_fault C g) 0) (pick (ltb room (C.columns * size C)) 2 0) 23) (frame_fault C f)
unfolding combine_fault frame_fault
combine_by C f g room =
    let l = frame_tests (size C) C.columns f in
    in_order_lem l (unless (eqb (frame_fault C g) 0) 23 ∷ when (ltb room (C.columns * size C)) 2 ∷ []) (λ k. k) 0
    ∙ by_number l (frame_numbered (size C) C.columns f) (λ k. k) _
