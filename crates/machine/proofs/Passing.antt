-- One iteration from any costs in range and any records of accepted form, not only those of a run: what each update needs is there, and what it
-- leaves is in range and of accepted form.
use mathlib.Core.Path.{◌≡◌, refl, ap, ◌∙◌}
use mathlib.Core.Bool.{Bool, false}
use mathlib.Core.Logic.{◌≢◌}
use mathlib.Core.List.{List}
use Prim.Native.Nat.{ℕ, zero, suc, ◌+◌, ◌≤◌, ◌<◌}
use native.Mathlib.Nat.{not-suc-le-zero}
use native.Mathlib.Decide.{ℕ_discrete, dec_lt}
use native.Mathlib.Omega.{arith}
use lib.ListN.{length}
use Rattle.trellis.specs.Lists.{upto, patch}
use Rattle.trellis.specs.Check.{Column}
use Rattle.trellis.specs.Record.{record_length, record_of}
use Rattle.trellis.proofs.Form.{record_length_lem, record_ok_lem}
use Rattle.machine.specs.CodeLine.{Edge, Code, size, rule, check}
use Rattle.machine.specs.Machine.{made, message, spread, place, used}
use Rattle.machine.specs.Lent.{Lent, arriving_lent, costs_lent, record_lent, update_lent, iteration_lent}
use Rattle.machine.specs.inner.Accepted.{GoodCheck, GoodCode}
use Rattle.machine.specs.inner.InRange.{piece_in, Formed, Passable, Ranged}
use Rattle.machine.proofs.Updates.{Made, made_proper, arriving-made}
use Rattle.machine.proofs.Ranges.{length-patch, part-patch, part-before, part-after, spread-ranged}
use Rattle.machine.proofs.Lent.{len, place-suc, place_mono, spread_ext, message-made}

module _ (C : Code) (G : GoodCode C) where
  module _ (start : Bool) (l : Lent) (R : Ranged C l.costs) (room : used C ≤ length l.store) (m : ℕ) (h : m < length C.checks) where
    es : List Edge
    es = check C m

    pub cs : List Column
    cs = arriving_lent (rule C) C.scale start (check C m) (piece_in C G l m) l.costs

    H : GoodCheck C.columns (size C) (check C m)
    H = G.each-check m h

    M : Made C (check C m) cs
    unfolding cs
    M = arriving-made C (check C m) H _ l.costs

    in-store : place C m + len C m ≤ length l.store
    in-store = omega (arith, place-suc C m, place_mono C (suc m) (length C.checks) h)

    long : length (record_of (rule C) cs) ≡ len C m
    long = record_length_lem (rule C) cs (made_proper C G (check C m) H cs M) ∙ ap (record_length (rule C)) M.count

    -- the costs sent are those of this Q, as the machine has them
    pub update-costs : (update_lent C start m l).costs ≡ spread (size C) (check C m) cs (message (rule C) C.scale (made cs)) l.costs
    unfolding update_lent costs_lent record_lent cs
    update-costs = spread_ext (size C) (check C m) cs _ _ l.costs (message-made C G l.store room (check C m) H cs M)

    update-store : (update_lent C start m l).store ≡ patch l.store (place C m) (len C m) (record_of (rule C) cs)
    unfolding update_lent costs_lent record_lent cs
    update-store = refl

    pub lent-ranged : Ranged C (update_lent C start m l).costs
    lent-ranged = rw update-costs (spread-ranged C G (check C m) H cs M l.costs R)

    pub update-length : length (update_lent C start m l).store ≡ length l.store
    update-length = rw update-store (length-patch l.store (record_of (rule C) cs) (place C m) (len C m) in-store long)

    -- its record is of accepted form
    pub update-formed : Formed C G (update_lent C start m l) m
    update-formed =
        rw (update-store, part-patch l.store (record_of (rule C) cs) (place C m) (len C m) in-store long, ← M.count)
        (record_ok_lem (rule C) cs (made_proper C G (check C m) H cs M))

    -- the others are as they were
    pub update-others : (j : ℕ) → j < length C.checks → j ≢ m → piece_in C G (update_lent C start m l) j ≡ piece_in C G l j
    update-others j k n =
        rw update-store
        (elim (dec_lt j m) [
          | yes e ↦ part-before l.store (record_of (rule C) cs) (place C m) (len C m) in-store long (place C j) (len C j) (omega (arith, place-suc C j, place_mono C (suc j) m e))
          | no e ↦ part-after l.store (record_of (rule C) cs) (place C m) (len C m) in-store long (place C j) (len C j) (omega (arith, place-suc C m, place_mono C (suc m) j (omega arith)))
        ])

  -- before check k of a pass
  pub record Before (start : Bool) (l : Lent) (k : ℕ) : Type 0 where
    pub ranged : Ranged C (upto (update_lent C start) k l).costs
    pub room : length (upto (update_lent C start) k l).store ≡ length l.store
    pub done : (m : ℕ) → m < k → Formed C G (upto (update_lent C start) k l) m
    pub waiting : (m : ℕ) → k ≤ m → m < length C.checks → piece_in C G (upto (update_lent C start) k l) m ≡ piece_in C G l m

  pub updates-before : (start : Bool) (l : Lent) → Ranged C l.costs → used C ≤ length l.store → (k : ℕ) → k ≤ length C.checks → Before start l k
  updates-before start l R room zero h = record { ranged = R; room = refl; done = λ m i. absurd (not-suc-le-zero i); waiting = λ m i j. refl }
  updates-before start l R room (suc k) h =
      let B = updates-before start l R room k (omega arith) in
      let now : Lent = upto (update_lent C start) k l in
      let r : used C ≤ length now.store = omega (arith, B.room) in
      record {
        ranged = lent-ranged start now B.ranged r k h;
        room = update-length start now B.ranged r k h ∙ B.room;
        done = λ m i. elim (ℕ_discrete m k) [
          | yes e ↦ rw e (update-formed start now B.ranged r k h)
          | no e ↦ rw (update-others start now B.ranged r k h m (omega arith) e) (B.done m (omega arith))
        ];
        waiting = λ m i j. update-others start now B.ranged r k h m j (omega arith) ∙ B.waiting m (omega arith) j;
      }

  -- so each turn finds the record it needs, and after a pass the next one may follow
  pub update_needs : (start : Bool) (l : Lent) → Passable C G start l → (k : ℕ) → k < length C.checks → start ≡ false → Formed C G (upto (update_lent C start) k l) k
  update_needs start l P k h e = rw ((updates-before start l P.ranged P.room k (omega arith)).waiting k (omega arith) h) (P.formed e k h)

  pub iteration-passable : (start : Bool) (l : Lent) → Ranged C l.costs → used C ≤ length l.store → Passable C G false (iteration_lent C start l)
  unfolding iteration_lent
  iteration-passable start l R room =
      let B = updates-before start l R room (length C.checks) (omega arith) in
      record { ranged = B.ranged; room = omega (arith, B.room); formed = λ e m h. B.done m h }
