-- From a layout and the tables of a code to one channel's load and iteration in its parts of the buffers.
use mathlib.Core.Path.{◌≡◌, refl, sym, ap, ap₂, subst, ◌∙◌}
use mathlib.Core.Bool.{Bool, false}
use mathlib.Core.List.{List, append-nil}
use Prim.Native.Nat.{ℕ, ◌+◌, ◌-◌, ◌*◌, ◌≤◌}
use native.Mathlib.Nat.{add-sub_cancel_left}
use lib.Dec.{eqb, leb}
use borrow.Author.Tests.{eq-eqb, ne_eqb, lt-leb}
use lib.ListN.{length, drop}
use lib.Seq.{drop-length}
use borrow.Author.Rules.{rules}
use Rattle.refusal.specs.Numbers.{number_of}
use Rattle.refusal.specs.declared.Refusal.{Refusal}
use Rattle.trellis.specs.Lists.{pick, part, patch}
use Rattle.machine.specs.CodeLine.{Code, size, frame_fault}
use Rattle.machine.specs.Machine.{symbols, margins, settled, used}
use Rattle.machine.specs.Lent.{Lent, lent, iteration_lent}
use Rattle.machine.specs.Decoding.{Buffers, lending, holding}
use Rattle.machine.specs.Moments.{Stage, moment, further}
use Rattle.machine.specs.inner.InRange.{Below, Ranged, Passable}
use Rattle.machine.proofs.Ranges.{part-patch, below-take, below-drop, frame-ranged}
use Rattle.slices.specs.Copies.{copied_to}
use Rattle.slices.proofs.Copies.{copied_is as copied_whole}
use Rattle.frame.specs.Answers.{frame_fault_of}
use Rattle.layered.specs.Answers.{ends}
use Rattle.layered.specs.inner.Stages.{stage_after, TestRoom}
use Rattle.layered.specs.inner.Stages.{StepRoom as IterateRoom}
use Rattle.channels.specs.declared.layout.Layout.{Layout}
use Rattle.channels.specs.Channels.{frame_of, own_of}
use Rattle.channels.specs.inner.Rounds.{lent_in, status_of, patch_at, load_at, step_at}
use Rattle.channels.specs.inner.Layouts.{code_for, Puts}
use Rattle.machine.proofs.Places.{length_part}
use Rattle.channels.proofs.Parts.{Exact}
use Rattle.channels.proofs.Patches.{patch-same}
use Rattle.channels.proofs.Serves.{further_own}

-- no refusal has the number 0
pub not_0 : (r : Refusal) → number_of r ≡ 0 → ⊥
not_0 r = search rules

-- a part between two places
between : (l : List ℕ) (w k : ℕ) → w ≡ k → (c : ℕ) → part l (c * w) (c * w + w - c * w) ≡ part l (c * k) k
between l w k e c = rw (add-sub_cancel_left (c * w) w, e)

put-between : (l x : List ℕ) (w k : ℕ) → w ≡ k → (c : ℕ) → patch l (c * w) (c * w + w - c * w) x ≡ patch l (c * k) k x
put-between l x w k e c = rw (add-sub_cancel_left (c * w) w, e)

module _ (z : Layout) where
  abbrev C : Code
  C = code_for z

  -- what costs P leave in parts that they fill
  holds_exact : (P s : List ℕ) (own : Buffers) → length own.symbols ≡ C.columns → length own.costs ≡ C.columns * size C
      → length own.margins ≡ C.columns → holding C P s own ≡ lending (symbols C P) P s (margins C P)
  holds_exact P s own i j k =
      let a : drop C.columns own.symbols ≡ drop (length own.symbols) own.symbols = ap (λ k. drop k own.symbols) (sym i) in
      let b : drop (C.columns * size C) own.costs ≡ drop (length own.costs) own.costs = ap (λ k. drop k own.costs) (sym j) in
      let d : drop C.columns own.margins ≡ drop (length own.margins) own.margins = ap (λ k. drop k own.margins) (sym k) in
      rw (a, b, d, drop-length own.symbols, drop-length own.costs, drop-length own.margins, append-nil (symbols C P), append-nil P, append-nil (margins C P))

  -- where an iteration ends
  ends_there : (found : Bool) (t : ℕ) (P : List ℕ) → found ≡ settled C P
      → stage_after found t z.code.numbers.limit ≡ ends (pick (settled C P) 2 (pick (leb C.limit t) 3 1)) 0
  unfolding stage_after
  ends_there found t P e = rw e refl

  -- the parts of channel c, of the three buffers that a load is lent
  module _ (c : ℕ) (b : Buffers) (for_symbols : c * z.columns + z.columns ≤ length b.symbols) (for_costs : c * z.costs + z.costs ≤ length b.costs)
      (for_margins : c * z.columns + z.columns ≤ length b.margins) where
    abbrev own : Buffers
    own = own_of C b c

    -- the same parts by the layout
    abbrev pub symbols_part : List ℕ
    symbols_part = part b.symbols (c * z.columns) (c * z.columns + z.columns - c * z.columns)

    abbrev pub costs_part : List ℕ
    costs_part = part b.costs (c * z.costs) (c * z.costs + z.costs - c * z.costs)

    abbrev pub margins_part : List ℕ
    margins_part = part b.margins (c * z.columns) (c * z.columns + z.columns - c * z.columns)

    symbols-own : symbols_part ≡ own.symbols
    symbols-own = between b.symbols z.columns C.columns z.columns_is c

    costs-own : costs_part ≡ own.costs
    costs-own = between b.costs z.costs (C.columns * size C) z.costs_is c

    margins-own : margins_part ≡ own.margins
    margins-own = between b.margins z.columns C.columns z.columns_is c

    full-symbols : length own.symbols ≡ C.columns
    full-symbols = length_part b.symbols (c * C.columns) C.columns (rw z.columns_is at for_symbols)

    full-costs : length own.costs ≡ C.columns * size C
    full-costs = length_part b.costs (c * (C.columns * size C)) (C.columns * size C) (rw z.costs_is at for_costs)

    full-margins : length own.margins ≡ C.columns
    full-margins = length_part b.margins (c * C.columns) C.columns (rw z.columns_is at for_margins)

    count-symbols : length symbols_part ≡ C.columns
    count-symbols = ap length symbols-own ∙ full-symbols

    count-margins : length margins_part ≡ C.columns
    count-margins = ap length margins-own ∙ full-margins

    put_same : b ≡ patch_at C c b own
    put_same =
        rw (
          patch-same b.symbols (c * C.columns) C.columns,
          patch-same b.costs (c * (C.columns * size C)) (C.columns * size C),
          patch-same b.store (c * used C) (used C),
          patch-same b.margins (c * C.columns) C.columns,
        )

    -- an iteration, after t
    module _ (for_store : c * z.store + z.store ≤ length b.store) (t : ℕ) where
      E : Exact C (own_of C b c)
      E =
          record {
            symbols = full-symbols;
            margins = full-margins;
            costs = full-costs;
            store = length_part b.store (c * used C) (used C) (rw z.store_is at for_store);
          }

      abbrev pub store_part : List ℕ
      store_part = part b.store (c * z.store) (c * z.store + z.store - c * z.store)

      store-own : store_part ≡ own.store
      store-own = between b.store z.store (used C) z.store_is c

      -- put back
      abbrev pub put_back : List ℕ → List ℕ → List ℕ → List ℕ → Buffers
      put_back x P u x' =
          lending
          (patch b.symbols (c * z.columns) (c * z.columns + z.columns - c * z.columns) x)
          (patch b.costs (c * z.costs) (c * z.costs + z.costs - c * z.costs) P)
          (patch b.store (c * z.store) (c * z.store + z.store - c * z.store) u)
          (patch b.margins (c * z.columns) (c * z.columns + z.columns - c * z.columns) x')

      put-there : (x P u x' : List ℕ) → put_back x P u x' ≡ patch_at C c b (lending x P u x')
      put-there x P u x' =
          rw (
            put-between b.symbols x z.columns C.columns z.columns_is c,
            put-between b.costs P z.costs (C.columns * size C) z.costs_is c,
            put-between b.store u z.store (used C) z.store_is c,
            put-between b.margins x' z.columns C.columns z.columns_is c,
          )

      -- it may be made
      pub step_asks : Passable C z.code.coded.good (eqb t 0) (lent_in (own_of C b c)) → (A S : List ℕ) → 2048 ≤ length A → 2048 ≤ length S
          → IterateRoom z.code (eqb t 0) costs_part store_part symbols_part margins_part A S
      step_asks Q A S i j =
          record {
            iterate = record {
              running = record {
                passable = subst (λ (l : Lent). Passable C z.code.coded.good (eqb t 0) l) (ap₂ lent (sym costs-own) (sym store-own)) Q;
              };
              arrived = i;
              sent = j;
            };
            symbols = count-symbols;
            margins = count-margins;
          }

      -- and what it leaves
      pub step_puts : (found : Bool) (P u x x' : List ℕ) → found ≡ settled C P → lent P u ≡ iteration_lent C (eqb t 0) (lent costs_part store_part)
          → x ≡ symbols C P → x' ≡ margins C P → (e : Stage) → e ≡ stage_after found (t + 1) z.code.numbers.limit → (r : ℕ) → r ≡ status_of e
          → Puts C c b (step_at C c t b) r (put_back x P u x')
      unfolding step_at
      step_puts found P u x x' i p q q' e j r k =
          let l₁ : lent P u ≡ further C t own =
          p ∙ ap₂ (λ a s. iteration_lent C (eqb t 0) (lent a s)) costs-own store-own ∙ sym (further_own C z.code.coded.good t own E) in
          let m₁ : step_at C c t b ≡ moment (pick (settled C P) 2 (pick (leb C.limit (t + 1)) 3 1)) 0 (t + 1) (lending (symbols C P) P u (margins C P)) =
          rw (← l₁) (ap (moment (pick (settled C P) 2 (pick (leb C.limit (t + 1)) 3 1)) 0 (t + 1)) (holds_exact P u own full-symbols full-costs full-margins)) in
          rw m₁ record { status_is = k ∙ ap status_of (j ∙ ends_there found (t + 1) P i); buffers_are = put-there x P u x' ∙ ap₂ (λ a d. patch_at C c b (lending a P u d)) q q' }

    -- a load
    module _ (fs : List ℕ) (room : c * z.costs + z.costs ≤ length fs) where
      abbrev pub frame_at : List ℕ
      frame_at = part fs (c * z.costs) (c * z.costs + z.costs - c * z.costs)

      frame-own : frame_at ≡ frame_of C fs c
      frame-own = between fs z.costs (C.columns * size C) z.costs_is c

      fault-there : (f : List ℕ) → frame_fault_of z.code.numbers.first z.code.numbers.columns f ≡ frame_fault C f
      unfolding frame_fault_of frame_fault
      fault-there f = refl

      module _ (k : ℕ) (e : k ≡ frame_fault_of z.code.numbers.first z.code.numbers.columns frame_at) where
        fault-own : k ≡ frame_fault C (frame_of C fs c)
        fault-own = e ∙ fault-there frame_at ∙ ap (frame_fault C) frame-own

        -- refused
        pub load_refused : (k ≡ 0 → ⊥) → Puts C c b (load_at C fs c b) (status_of (ends 4 k)) b
        unfolding load_at
        load_refused h =
            let m₁ : load_at C fs c b ≡ moment 4 k 0 own = rw (← fault-own, ne_eqb k 0 h) in
            rw m₁ record { status_is = refl; buffers_are = put_same }

        module _ (h : k ≡ 0) (f' : List ℕ) (o : f' ≡ copied_to frame_at costs_part) where
          same-lengths : length frame_at ≡ length costs_part
          same-lengths =
              ap length frame-own
              ∙ length_part fs (c * (C.columns * size C)) (C.columns * size C) (rw z.costs_is at room)
              ∙ sym (ap length costs-own ∙ full-costs)

          i : f' ≡ frame_at
          i = copied_whole frame_at costs_part f' same-lengths o

          -- the costs with the frame in channel c's part
          abbrev pub copied_costs : List ℕ
          copied_costs = patch b.costs (c * z.costs) (c * z.costs + z.costs - c * z.costs) f'

          abbrev pub copied_at : List ℕ
          copied_at = part copied_costs (c * z.costs) (c * z.costs + z.costs - c * z.costs)

          frame-full : length f' ≡ z.costs
          frame-full =
              ap length (i ∙ frame-own)
              ∙ length_part fs (c * (C.columns * size C)) (C.columns * size C) (rw z.costs_is at room)
              ∙ sym z.costs_is

          copied_is : copied_at ≡ frame_of C fs c
          copied_is =
              let d : c * z.costs + z.costs - c * z.costs ≡ z.costs = add-sub_cancel_left (c * z.costs) z.costs in
              rw (d, part-patch b.costs f' (c * z.costs) z.costs for_costs frame-full) (i ∙ frame-own)

          -- the test may be made
          pub load_asks : Below 255 fs → TestRoom z.code copied_at symbols_part margins_part
          load_asks bytes =
              let R : Ranged C copied_at =
              rw copied_is (frame-ranged C (frame_of C fs c) (sym fault-own ∙ h) (below-take 255 (C.columns * size C) _ (below-drop 255 (c * (C.columns * size C)) fs bytes))) in
              record { settled = record { ranged = R; symbols = count-symbols }; margins = count-margins }

          pub load_puts : (found : Bool) (x x' : List ℕ) → found ≡ settled C copied_at → x ≡ symbols C copied_at → x' ≡ margins C copied_at
              → (e : Stage) → e ≡ stage_after found 0 z.code.numbers.limit → (r : ℕ) → r ≡ status_of e
              → Puts C c b (load_at C fs c b) r
              (lending (patch b.symbols (c * z.columns) (c * z.columns + z.columns - c * z.columns) x) copied_costs b.store
              (patch b.margins (c * z.columns) (c * z.columns + z.columns - c * z.columns) x'))
          unfolding load_at
          load_puts found x x' p q q' e j r l =
              let f : List ℕ = frame_of C fs c in
              let s₁ : found ≡ settled C f = p ∙ ap (settled C) copied_is in
              let u : leb C.limit 0 ≡ false = lt-leb C.limit 0 z.code.coded.good.limit-low in
              let st : stage_after found 0 z.code.numbers.limit ≡ ends (pick (settled C f) 2 1) 0 = ends_there found 0 f s₁ ∙ rw u in
              let m₁ : load_at C fs c b ≡ moment (pick (settled C f) 2 1) 0 0 (lending (symbols C f) f own.store (margins C f)) =
              rw (← fault-own, eq-eqb k 0 h) (ap (moment (pick (settled C f) 2 1) 0 0) (holds_exact f own.store own full-symbols full-costs full-margins)) in
              let x₁ : x ≡ symbols C f = q ∙ ap (symbols C) copied_is in
              let x₂ : x' ≡ margins C f = q' ∙ ap (margins C) copied_is in
              let y : b.store ≡ patch b.store (c * used C) (used C) own.store = sym (patch-same b.store (c * used C) (used C)) in
              rw m₁
              record {
                status_is = l ∙ ap status_of (j ∙ st);
                buffers_are = rw (
                  put-between b.symbols x z.columns C.columns z.columns_is c,
                  put-between b.costs f' z.costs (C.columns * size C) z.costs_is c,
                  put-between b.margins x' z.columns C.columns z.columns_is c,
                  x₁,
                  x₂,
                  i,
                  frame-own,
                  ← y,
                );
              }
