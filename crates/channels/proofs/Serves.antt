-- What the code's loops ask of the channels holds after the loads, and each serving keeps it: a running channel's costs are in range, its stored
-- records are of accepted form, and it has an iteration left.
use mathlib.Core.Path.{◌≡◌, refl, sym, ap, subst, ◌∙◌}
use mathlib.Core.Bool.{Bool, true, false, not, ◌||◌}
use mathlib.Core.Logic.{◌≢◌}
use mathlib.Core.List.{List, ◌++◌, append-nil}
use Prim.Native.Nat.{ℕ, zero, suc, ◌+◌, ◌*◌, ◌≤◌, ◌<◌}
use native.Mathlib.Decide.{ℕ_discrete}
use native.Mathlib.Omega.{arith}
use lib.Dec.{eqb, leb}
use lib.ListN.{length, get_or, set, drop, length-set, length-append, length-drop, drop_of_length-le}
use lib.Seq.{get_or-set_same, get_or-set_other, take_all}
use borrow.Author.Tests.{ne_eqb, eqb-true, leb-false}
use Rattle.trellis.specs.Lists.{pick, upto}
use Rattle.machine.specs.CodeLine.{Code, size, frame_fault}
use Rattle.machine.specs.Machine.{settled}
use Rattle.machine.specs.Lent.{Lent, iteration_lent}
use Rattle.machine.specs.Decoding.{Buffers}
use Rattle.machine.specs.Moments.{Moment, further, gone}
use Rattle.machine.specs.inner.Accepted.{GoodCode}
use Rattle.machine.specs.inner.InRange.{Below, Passable}
use Rattle.machine.proofs.Ranges.{below-take, below-drop, frame-ranged}
use Rattle.machine.proofs.Passing.{updates-before, iteration-passable}
use Rattle.machine.proofs.Buffers.{length_symbols, length-margins}
use Rattle.channels.specs.Channels.{frame_of, own_of}
use Rattle.channels.specs.inner.Rounds.{opened, next_iteration, step_at, status_of, Standing, status_at, count_at, loaded_to, moved_at, serving_at, round_at, rounds_at, Rooms, lent_in, Serves}
use Rattle.channels.proofs.Parts.{length_part, Exact, own_exact}
use Rattle.channels.proofs.Call.{fault_13}
use Rattle.channels.proofs.Patches.{patch-room, patch_own, patch-other}
use Rattle.channels.proofs.Loads.{Loaded, loaded}

-- costs that fill a part leave nothing of what was there
filled : (P l : List ℕ) (w : ℕ) → length l ≡ w → P ++ drop w l ≡ P
filled P l w e = ap (λ r. P ++ r) (drop_of_length-le l {i = w} (omega arith)) ∙ append-nil P

differ : true ≡ false → ⊥
differ e = let z : ◌≡◌ {A = ℕ} 0 1 = cc in omega arith

module _ (C : Code) (G : GoodCode C) where
  -- a load that leaves a channel running
  opened-fits : (f : List ℕ) (own : Buffers) → length f ≡ C.columns * size C → status_of (opened C f own).stage ≡ 20 → frame_fault C f ≡ 0
  unfolding status_of
  opened-fits f own e h = elim (ℕ_discrete (frame_fault C f) 0) [
    | yes k ↦ k
    | no k ↦ absurd (refused k (rw (ne_eqb (frame_fault C f) 0 k) at h))
  ]
    where
      refused : frame_fault C f ≢ 0 → frame_fault C f ≡ 20 → ⊥
      refused k g = omega (arith, fault_13 C f e k)

  opened-passable : (f : List ℕ) (own : Buffers) → length f ≡ C.columns * size C → Below 255 f → Exact C own
      → status_of (opened C f own).stage ≡ 20 → Passable C G true (lent_in (opened C f own).buffers)
  opened-passable f own e bytes E h =
      let k = opened-fits f own e h in
      rw k
      record {
        ranged = rw (filled f own.costs (C.columns * size C) E.costs) (frame-ranged C f k bytes);
        room = omega (arith, E.store);
        formed = λ z. absurd (differ z);
      }

  -- an iteration over a channel's own parts
  pub further_own : (t : ℕ) (own : Buffers) → Exact C own → further C t own ≡ iteration_lent C (eqb t 0) (lent_in own)
  further_own t own E = ap (λ P. iteration_lent C (eqb t 0) (record { costs = P; store = own.store })) (take_all (C.columns * size C) own.costs (omega (arith, E.costs)))

  module _ (t : ℕ) (own : Buffers) (E : Exact C own) (P : Passable C G (eqb t 0) (lent_in own)) where
    now : Lent
    now = iteration_lent C (eqb t 0) (lent_in own)

    now-passable : Passable C G false now
    unfolding now
    now-passable = iteration-passable C G (eqb t 0) (lent_in own) P.ranged P.room

    now-store : length now.store ≡ length own.store
    unfolding now iteration_lent
    now-store = (updates-before C G (eqb t 0) (lent_in own) P.ranged P.room (length C.checks) (omega arith)).room

    step_is : next_iteration C t own ≡ gone C (t + 1) now own
    unfolding now
    step_is = ap (λ l. gone C (t + 1) l own) (further_own t own E)

    -- keeps the lengths of the parts,
    pub stepped_exact : Exact C (next_iteration C t own).buffers
    stepped_exact =
        subst (λ (m : Moment). Exact C m.buffers) (sym step_is)
        record {
          symbols = simp (length-append, length-drop) (omega (arith, length_symbols C now.costs, E.symbols));
          margins = simp (length-append, length-drop) (omega (arith, length-margins C now.costs, E.margins));
          costs = simp (length-append, length-drop) (omega (arith, now-passable.ranged.full, E.costs));
          store = now-store ∙ E.store;
        }

    -- leaves costs and records from which the next one may go on,
    pub stepped-passable : Passable C G (eqb (t + 1) 0) (lent_in (next_iteration C t own).buffers)
    stepped-passable =
        subst (λ (m : Moment). Passable C G (eqb (t + 1) 0) (lent_in m.buffers)) (sym step_is)
        (rw (ne_eqb (t + 1) 0 (λ (z : t + 1 ≡ 0). omega arith), filled now.costs own.costs (C.columns * size C) E.costs) now-passable)

    -- and leaves the channel running only below the limit
    pub stepped-below : status_of (next_iteration C t own).stage ≡ 20 → t + 1 < C.limit
    unfolding status_of
    stepped-below h =
        go (settled C now.costs) (leb C.limit (t + 1)) refl (ap (λ (m : Moment). status_of m.stage) (sym step_is) ∙ h)
      where
        go : (a b : Bool) → leb C.limit (t + 1) ≡ b → status_of (record { state = pick a 2 (pick b 3 1); number = 0 }) ≡ 20 → t + 1 < C.limit
        go true b e k = absurd (omega arith)
        go false true e k = absurd (omega arith)
        go false false e k = leb-false C.limit (t + 1) e

  module _ (n : ℕ) where
    pub serves_loaded : (fs : List ℕ) (l₀ : Standing) → Rooms C n l₀ → length fs ≡ n * (C.columns * size C) → ((i : ℕ) → get_or fs i 0 ≤ 255)
        → ((c : ℕ) → c < n → count_at l₀ c ≡ 0) → Serves C G n (loaded_to C fs n l₀)
    serves_loaded fs l₀ W long bytes none =
        record {
          rooms = L.rooms;
          passable = λ c h e.
              rw (count c h)
              (subst (λ (o : Buffers). Passable C G true (lent_in o)) (sym (L.parts c h))
              (opened-passable (frame_of C fs c) (own_of C l₀.buffers c) (length_part fs n (C.columns * size C) c (omega arith) h)
              (below-take 255 (C.columns * size C) _ (below-drop 255 (c * (C.columns * size C)) fs bytes))
              (own_exact C n l₀.buffers W.room c h) (sym (L.status c h) ∙ e)));
          below = λ c h e. omega (arith, count c h, G.limit-low);
        }
      where
        L : Loaded C fs n l₀ W long n (loaded_to C fs n l₀)
        L = loaded C fs n l₀ W long

        count : (c : ℕ) → c < n → count_at (loaded_to C fs n l₀) c ≡ 0
        count c h = ap (λ t. get_or t c 0) L.counts ∙ none c h

    module _ (l : Standing) (S : Serves C G n l) (c : ℕ) (h : c < n) where
      own : Buffers
      own = own_of C l.buffers c

      t : ℕ
      t = count_at l c

      E : Exact C own
      unfolding own
      E = own_exact C n l.buffers S.rooms.room c h

      moved-serves : status_at l c ≡ 20 → Serves C G n (moved_at C c l)
      unfolding moved_at step_at own t
      moved-serves e =
          let m : Moment = next_iteration C t own in
          let P : Passable C G (eqb t 0) (lent_in own) = S.passable c h e in
          let X : Exact C m.buffers = stepped_exact t own E P in
          record {
            rooms = record {
              for_status = rw (length-set l.status c (status_of m.stage)) S.rooms.for_status;
              for_counts = rw (length-set l.counts c (t + 1)) S.rooms.for_counts;
              room = patch-room C n l.buffers m.buffers S.rooms.room X c h;
            };
            passable = λ d i g. elim (ℕ_discrete d c) [
              | yes k ↦
                  rw (k, get_or-set_same l.counts c (t + 1) 0 (omega (arith, S.rooms.for_counts)))
                  (subst (λ (o : Buffers). Passable C G (eqb (t + 1) 0) (lent_in o)) (sym (patch_own C n l.buffers m.buffers S.rooms.room X c h)) (stepped-passable t own E P))
              | no k ↦
                  rw (get_or-set_other l.counts c d (t + 1) 0 k)
                  (subst (λ (o : Buffers). Passable C G (eqb (count_at l d) 0) (lent_in o)) (sym (patch-other C n l.buffers m.buffers S.rooms.room X c h d i k))
                  (S.passable d i (sym (get_or-set_other l.status c d (status_of m.stage) 0 k) ∙ g)))
            ];
            below = λ d i g. elim (ℕ_discrete d c) [
              | yes k ↦
                  rw (k, get_or-set_same l.counts c (t + 1) 0 (omega (arith, S.rooms.for_counts)))
                  (stepped-below t own E P (sym (get_or-set_same l.status c (status_of m.stage) 0 (omega (arith, S.rooms.for_status))) ∙ ap (λ x. get_or (set l.status c (status_of m.stage)) x 0) (sym k) ∙ g))
              | no k ↦ rw (get_or-set_other l.counts c d (t + 1) 0 k) (S.below d i (sym (get_or-set_other l.status c d (status_of m.stage) 0 k) ∙ g))
            ];
          }

      pub serving-serves : Serves C G n (serving_at C c l)
      unfolding serving_at
      serving-serves = go (eqb (status_at l c) 20) refl (eqb l.left 0)
        where
          go : (i : Bool) → eqb (status_at l c) 20 ≡ i → (j : Bool) → Serves C G n (pick (not i || j) l (moved_at C c l))
          go false e j = S
          go true e true = S
          go true e false = moved-serves (eqb-true (status_at l c) 20 e)

    pub servings-serve : (l : Standing) → Serves C G n l → (k : ℕ) → k ≤ n → Serves C G n (upto (serving_at C) k l)
    servings-serve l S zero h = S
    servings-serve l S (suc k) h = serving-serves (upto (serving_at C) k l) (servings-serve l S k (omega arith)) k h

    pub round_serves : (l : Standing) → Serves C G n l → Serves C G n (round_at C n l)
    unfolding round_at
    round_serves l S = servings-serve l S n (omega arith)

    pub rounds_serve : (l : Standing) → Serves C G n l → (k : ℕ) → Serves C G n (rounds_at C n k l)
    rounds_serve l S zero = S
    rounds_serve l S (suc k) = round_serves (rounds_at C n k l) (rounds_serve l S k)
