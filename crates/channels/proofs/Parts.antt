-- One channel's parts of the buffers: their lengths, the parts of buffers made of parts, and what a channel receives in its own.
use mathlib.Core.Path.{◌≡◌, refl}
use mathlib.Core.Bool.{Bool, true, false}
use mathlib.Core.Logic.{◌≢◌}
use mathlib.Core.List.{List, ◌++◌, append_assoc}
use Prim.Native.Nat.{ℕ, zero, suc, ◌+◌, ◌*◌, ◌≤◌, ◌<◌}
use native.Mathlib.Nat.{not-suc-le-zero, suc-mul, zero-mul}
use native.Mathlib.Decide.{ℕ_discrete}
use native.Mathlib.Omega.{arith}
use lib.Dec.{eqb}
use lib.ListN.{length, drop, length-append, length-take, length-drop, length-replicate, get_or-replicate}
use lib.Seq.{take_at, drop_at}
use borrow.Author.Tests.{eqb-true, eqb-false, ne_eqb}
use Rattle.trellis.specs.Lists.{pick, part, blocks}
use Rattle.machine.specs.CodeLine.{Code, size, frame_fault}
use Rattle.machine.specs.Machine.{none, records, used}
use Rattle.machine.specs.inner.Accepted.{GoodCode}
use Rattle.machine.specs.inner.InRange.{Below, Ranged}
use Rattle.machine.proofs.Updates.{Reached, iteration-kept, length-records}
use Rattle.machine.proofs.Ranges.{column-room, frame-ranged, iteration-ranged}
use Rattle.machine.specs.Decoding.{Buffers, holding, Room}
use Rattle.machine.proofs.Buffers.{length_symbols, length-margins}
use Rattle.channels.specs.Channels.{after, received, own_of, together}
use Rattle.channels.specs.inner.Rounds.{RoomFor}
use Rattle.channels.proofs.Alone.{after-t}

-- the machine after j iterations
module _ (C : Code) (G : GoodCode C) (f : List ℕ) where
  after-reached : (j : ℕ) → Reached C G (after C f j)
  unfolding after
  after-reached zero =
      record {
        kept = record { full = length-replicate (length C.checks) none; fine = λ m h. rw (get_or-replicate (length C.checks) m none none h) tt };
        after = λ h. absurd (not-suc-le-zero h);
      }
  after-reached (suc j) =
      let r = iteration-kept C G (after C f j) (after-reached j).kept in
      record { kept = r.0; after = λ h. r.1 }

  pub after-ranged : frame_fault C f ≡ 0 → Below 255 f → (j : ℕ) → Ranged C (after C f j).costs
  unfolding after
  after-ranged h b zero = frame-ranged C f h b
  after-ranged h b (suc j) = iteration-ranged C G (after C f j) (after-ranged h b j)

-- parts of one length, end to end
pub length_part : (l : List ℕ) (n w c : ℕ) → n * w ≤ length l → c < n → length (part l (c * w) w) ≡ w
length_part l n w c h k = let r : c * w + w ≤ n * w = column-room c n w k in simp (length-take, length-drop) (omega arith)

module _ (g : ℕ → List ℕ) (w : ℕ) where
  length-all : (n : ℕ) → ((m : ℕ) → m < n → length (g m) ≡ w) → length (blocks g n) ≡ n * w
  length-all zero h = omega (arith, zero-mul w)
  length-all (suc n) h = simp (length-append, length-all n (λ m i. h m (omega arith)), h n (omega arith)) (omega (arith, suc-mul n w))

  part-blocks : (n : ℕ) → ((m : ℕ) → m < n → length (g m) ≡ w) → (rest : List ℕ) (c : ℕ) → c < n → part (blocks g n ++ rest) (c * w) w ≡ g c
  part-blocks zero h rest c k = absurd (not-suc-le-zero k)
  part-blocks (suc n) h rest c k =
      elim (ℕ_discrete c n) [
        | yes e ↦
            rw (e, append_assoc (blocks g n) (g n) rest, drop_at (blocks g n) (g n ++ rest) (n * w) (length-all n (λ m i. h m (omega arith))))
            (take_at (g n) rest w (h n (omega arith)))
        | no e ↦ rw (append_assoc (blocks g n) (g n) rest) (part-blocks n (λ m i. h m (omega arith)) (g n ++ rest) c (omega arith))
      ]

-- buffers of exactly one channel's lengths
pub record Exact (C : Code) (b : Buffers) : Type 0 where
  pub symbols : length b.symbols ≡ C.columns
  pub margins : length b.margins ≡ C.columns
  pub costs : length b.costs ≡ C.columns * size C
  pub store : length b.store ≡ used C

pub exact_room : (C : Code) (b : Buffers) → Exact C b → Room C b
exact_room C b E = record { for_symbols = omega (arith, E.symbols); for_costs = omega (arith, E.costs); for_store = omega (arith, E.store); for_margins = omega (arith, E.margins) }

pub own_exact : (C : Code) (n : ℕ) (b : Buffers) → RoomFor C n b → (c : ℕ) → c < n → Exact C (own_of C b c)
own_exact C n b R c h =
    record {
      symbols = length_part b.symbols n C.columns c R.for_symbols h;
      margins = length_part b.margins n C.columns c R.for_margins h;
      costs = length_part b.costs n (C.columns * size C) c R.for_costs h;
      store = length_part b.store n (used C) c R.for_store h;
    }

-- the parts of buffers made of parts
pub own_together : (C : Code) (n : ℕ) (own : ℕ → Buffers) (b : Buffers) → ((c : ℕ) → c < n → Exact C (own c)) → (c : ℕ) → c < n → own_of C (together C n own b) c ≡ own c
own_together C n own b E c h =
    rw (
      part-blocks (λ c. (own c).symbols) C.columns n (λ m i. (E m i).symbols) (drop (n * C.columns) b.symbols) c h,
      part-blocks (λ c. (own c).margins) C.columns n (λ m i. (E m i).margins) (drop (n * C.columns) b.margins) c h,
      part-blocks (λ c. (own c).costs) (C.columns * size C) n (λ m i. (E m i).costs) (drop (n * (C.columns * size C)) b.costs) c h,
      part-blocks (λ c. (own c).store) (used C) n (λ m i. (E m i).store) (drop (n * used C) b.store) c h,
    )

pub received_exact : (C : Code) → GoodCode C → (f : List ℕ) → Below 255 f → (j : ℕ) (own : Buffers) → Exact C own → Exact C (received C f j own)
unfolding received
received_exact C G f b j own E = go (eqb (frame_fault C f) 0) refl
  where
    positive : (j : ℕ) → j ≢ 0 → 0 < (after C f j).t
    positive zero n = absurd (n refl)
    positive (suc j) n = omega (arith, after-t C f (suc j))

    store_long : (i : Bool) → eqb j 0 ≡ i → length (pick i own.store (records C (after C f j) ++ drop (used C) own.store)) ≡ used C
    store_long true e = E.store
    store_long false e =
        let k = length-records C G (after C f j) (after-reached C G f j) (positive j (eqb-false j 0 e)) in
        simp (length-append, length-drop) (omega (arith, E.store))

    go : (i : Bool) → eqb (frame_fault C f) 0 ≡ i
        → Exact C (pick i (holding C (after C f j).costs (pick (eqb j 0) own.store (records C (after C f j) ++ drop (used C) own.store)) own) own)
    go false e = E
    go true e =
        let P = after-ranged C G f (eqb-true _ _ e) b j in
        record {
          symbols = simp (length-append, length-drop) (omega (arith, length_symbols C (after C f j).costs, E.symbols));
          margins = simp (length-append, length-drop) (omega (arith, length-margins C (after C f j).costs, E.margins));
          costs = simp (length-append, length-drop) (omega (arith, P.full, E.costs));
          store = store_long (eqb j 0) refl;
        }

pub received-refused : (C : Code) (f : List ℕ) (j : ℕ) (own : Buffers) → frame_fault C f ≢ 0 → received C f j own ≡ own
unfolding received
received-refused C f j own x = rw (ne_eqb (frame_fault C f) 0 x)
