-- The loads: after them each channel stands at its own load, its count and the allowance are as they were.
use mathlib.Core.Path.{◌≡◌, refl, ap, ◌∙◌}
use mathlib.Core.Bool.{Bool, true, false}
use mathlib.Core.List.{List}
use Prim.Native.Nat.{ℕ, zero, suc, ◌*◌, ◌≤◌, ◌<◌}
use native.Mathlib.Nat.{not-suc-le-zero}
use native.Mathlib.Decide.{ℕ_discrete}
use native.Mathlib.Omega.{arith}
use lib.Dec.{eqb}
use lib.ListN.{length, length-set, length-append, length-drop}
use lib.Seq.{get_or-set_same, get_or-set_other, drop-set-lt}
use Rattle.trellis.specs.Lists.{pick, upto}
use Rattle.machine.specs.CodeLine.{Code, size, frame_fault}
use Rattle.machine.specs.Machine.{settled}
use Rattle.machine.specs.Decoding.{Buffers, holding}
use Rattle.machine.specs.Moments.{Moment, moment}
use Rattle.machine.proofs.Buffers.{length_symbols, length-margins}
use Rattle.channels.specs.Channels.{frame_of, own_of}
use Rattle.channels.specs.inner.Rounds.{opened, load_at, status_of, Standing, status_at, loaded_at, loaded_to, Rooms}
use Rattle.channels.proofs.Parts.{length_part, Exact, own_exact}
use Rattle.channels.proofs.Patches.{patch-room, patch_own, patch-other, patch_beyond}
use Rattle.channels.proofs.Stands.{Untouched}

-- a load keeps the lengths of a channel's parts
pub opened_exact : (C : Code) (f : List ℕ) (own : Buffers) → length f ≡ C.columns * size C → Exact C own → Exact C (opened C f own).buffers
opened_exact C f own e E = go (eqb (frame_fault C f) 0)
  where
    go : (b : Bool) → Exact C (pick b (moment (pick (settled C f) 2 1) 0 0 (holding C f own.store own)) (moment 4 (frame_fault C f) 0 own)).buffers
    go false = E
    go true =
        record {
          symbols = simp (length-append, length-drop) (omega (arith, length_symbols C f, E.symbols));
          margins = simp (length-append, length-drop) (omega (arith, length-margins C f, E.margins));
          costs = simp (length-append, length-drop) (omega (arith, e, E.costs));
          store = E.store;
        }

module _ (C : Code) (fs : List ℕ) (n : ℕ) (l₀ : Standing) (W : Rooms C n l₀) (long : length fs ≡ n * (C.columns * size C)) where
  -- channel c's load
  abbrev pub loaded_moment : ℕ → Moment
  loaded_moment c = opened C (frame_of C fs c) (own_of C l₀.buffers c)

  pub first_exact : (c : ℕ) → c < n → Exact C (loaded_moment c).buffers
  first_exact c h =
      opened_exact C (frame_of C fs c) (own_of C l₀.buffers c) (length_part fs n (C.columns * size C) c (omega arith) h) (own_exact C n l₀.buffers W.room c h)

  -- after the loads of the first k channels
  pub record Loaded (k : ℕ) (l : Standing) : Type 0 where
    pub status : (c : ℕ) → c < k → status_at l c ≡ status_of (loaded_moment c).stage
    pub parts : (c : ℕ) → c < k → own_of C l.buffers c ≡ (loaded_moment c).buffers
    pub waiting : (c : ℕ) → k ≤ c → c < n → own_of C l.buffers c ≡ own_of C l₀.buffers c
    pub counts : l.counts ≡ l₀.counts
    pub left : l.left ≡ l₀.left
    pub rooms : Rooms C n l
    pub untouched : Untouched C n l₀ l

  load_is : (k : ℕ) (l : Standing) → k < n → Loaded k l → load_at C fs k l.buffers ≡ loaded_moment k
  unfolding load_at
  load_is k l h L = ap (opened C (frame_of C fs k)) (L.waiting k (omega arith) h)

  next : (k : ℕ) (l : Standing) → k < n → Loaded k l → Loaded (suc k) (loaded_at C fs k l)
  unfolding loaded_at
  next k l h L =
      rw (load_is k l h L)
      record {
        status = λ c i. elim (ℕ_discrete c k) [
          | yes e ↦ rw e (get_or-set_same l.status k (status_of (loaded_moment k).stage) 0 (omega (arith, L.rooms.for_status)))
          | no e ↦ get_or-set_other l.status k c (status_of (loaded_moment k).stage) 0 e ∙ L.status c (omega arith)
        ];
        parts = λ c i. elim (ℕ_discrete c k) [
          | yes e ↦ rw e (patch_own C n l.buffers (loaded_moment k).buffers L.rooms.room (first_exact k h) k h)
          | no e ↦ patch-other C n l.buffers (loaded_moment k).buffers L.rooms.room (first_exact k h) k h c (omega arith) e ∙ L.parts c (omega arith)
        ];
        waiting = λ c i j. patch-other C n l.buffers (loaded_moment k).buffers L.rooms.room (first_exact k h) k h c j (omega arith) ∙ L.waiting c (omega arith) j;
        counts = L.counts;
        left = L.left;
        rooms = record {
          for_status = rw (length-set l.status k (status_of (loaded_moment k).stage)) L.rooms.for_status;
          for_counts = L.rooms.for_counts;
          room = patch-room C n l.buffers (loaded_moment k).buffers L.rooms.room (first_exact k h) k h;
        };
        untouched = record {
          status = drop-set-lt n l.status k (status_of (loaded_moment k).stage) h ∙ L.untouched.status;
          counts = L.untouched.counts;
          buffers = patch_beyond C n l.buffers (loaded_moment k).buffers L.rooms.room (first_exact k h) k h l₀.buffers L.untouched.buffers;
        };
      }

  pub loads : (k : ℕ) → k ≤ n → Loaded k (upto (loaded_at C fs) k l₀)
  loads zero h =
      record {
        status = λ c i. absurd (not-suc-le-zero i);
        parts = λ c i. absurd (not-suc-le-zero i);
        waiting = λ c i j. refl;
        counts = refl;
        left = refl;
        rooms = W;
        untouched = record { status = refl; counts = refl; buffers = record { symbols = refl; costs = refl; store = refl; margins = refl } };
      }
  loads (suc k) h = next k (upto (loaded_at C fs) k l₀) h (loads k (omega arith))

  pub loaded : Loaded n (loaded_to C fs n l₀)
  unfolding loaded_to
  loaded = loads n (omega arith)

-- a load keeps the room
pub loaded_rooms : (C : Code) (fs : List ℕ) (n : ℕ) (l : Standing) → Rooms C n l → length fs ≡ n * (C.columns * size C) → (c : ℕ) → c < n → Rooms C n (loaded_at C fs c l)
unfolding loaded_at load_at
loaded_rooms C fs n l W long c h =
    let own : Buffers = own_of C l.buffers c in
    let f : List ℕ = frame_of C fs c in
    let E : Exact C (opened C f own).buffers = opened_exact C f own (length_part fs n (C.columns * size C) c (omega arith) h) (own_exact C n l.buffers W.room c h) in
    record {
      for_status = rw (length-set l.status c (status_of (opened C f own).stage)) W.for_status;
      for_counts = W.for_counts;
      room = patch-room C n l.buffers (opened C f own).buffers W.room E c h;
    }

-- and the loads keep what is left of the allowance
pub loaded_left : (C : Code) (fs : List ℕ) (n : ℕ) (l : Standing) → (loaded_to C fs n l).left ≡ l.left
unfolding loaded_to loaded_at
loaded_left C fs zero l = refl
loaded_left C fs (suc n) l = loaded_left C fs n l
