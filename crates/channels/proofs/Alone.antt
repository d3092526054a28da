-- A channel and decoding it alone with iteration limit j.
use mathlib.Core.Path.{◌≡◌, refl, sym, ap, ap₂, ◌∙◌}
use mathlib.Core.Bool.{Bool, true, false, not, ◌||◌, true≢false}
use mathlib.Core.Logic.{◌≢◌}
use mathlib.Core.List.{List, ◌++◌}
use Prim.Native.Nat.{ℕ, zero, suc, ◌+◌, ◌<◌}
use native.Mathlib.Nat.{add-zero}
use native.Mathlib.Omega.{arith}
use lib.Dec.{eqb}
use lib.ListN.{length, drop}
use Rattle.trellis.specs.Lists.{pick, upto}
use Rattle.trellis.specs.Reply.{Reply, found_in, not_found_in}
use Rattle.machine.specs.CodeLine.{good, Code, parse, frame_fault}
use Rattle.machine.specs.Machine.{State, update, iteration, settled, found, not_found, Result, result, go, run, records, used}
use Rattle.machine.specs.Decoding.{Buffers, holding, Room, outcome, decoding, store_of}
use Rattle.machine.proofs.Buffers.{Admits, decoding-good}
use Rattle.channels.specs.Channels.{after, finished, spent_in, answer, received}
use Rattle.channels.specs.Claims.{limited, Alone}
use Rattle.channels.proofs.Limit.{with_limit, limited-parse, run-limit, fault_limit, used-limit, records-limit, symbols-limit, margins-limit}

holding-limit : (C : Code) (j : ℕ) (P s : List ℕ) (b : Buffers) → holding (with_limit j C) P s b ≡ holding C P s b
holding-limit C j P s b = rw (symbols-limit C j P, margins-limit C j P)

store-limit : (C : Code) (j : ℕ) (end : State) (s : List ℕ) → store_of (with_limit j C) end s ≡ store_of C end s
store-limit C j end s = rw (records-limit C j end, used-limit C j)

module _ (C : Code) (f : List ℕ) where
  pub after-t : (j : ℕ) → (after C f j).t ≡ j
  unfolding after iteration update
  after-t zero = refl
  after-t (suc j) = keeps (record { costs = (after C f j).costs; last = (after C f j).last; t = (after C f j).t + 1 }) (length C.checks) ∙ omega (arith, after-t j)
    where
      keeps : (s : State) (k : ℕ) → (upto (update C) k s).t ≡ s.t
      keeps s zero = refl
      keeps s (suc k) = keeps s k

  pub after_none : (after C f 0).costs ≡ f
  unfolding after
  after_none = refl

  pub after-suc : (j : ℕ) → after C f (suc j) ≡ iteration C (after C f j)
  unfolding after
  after-suc j = refl

  -- how a run with limit j ends, where the machine is unsettled before
  abbrev ending : ℕ → Result
  ending j = result (pick (settled C (after C f j).costs) found not_found) (after C f j)

  go-after : (n i : ℕ) → ((x : ℕ) → x < i + n → settled C (after C f x).costs ≡ false) → go C n (after C f i) ≡ ending (i + n)
  unfolding go
  go-after zero i h = rw (add-zero i) (at (settled C (after C f i).costs))
    where
      at : (b : Bool) → pick b (result found (after C f i)) (result not_found (after C f i)) ≡ result (pick b found not_found) (after C f i)
      at true = refl
      at false = refl
  go-after (suc n) i h = rw (h i (omega arith), ← after-suc i, go-after n (suc i) (λ x l. h x (omega arith))) (ap ending (omega arith))

  -- a settled machine is finished
  settled-finished : (x : ℕ) → settled C (after C f x).costs ≡ true → finished C f x ≡ true
  unfolding finished
  settled-finished x e = rw e (either (not (eqb (frame_fault C f) 0)))
    where
      either : (a : Bool) → (a || true) ≡ true
      either true = refl
      either false = refl

  unsettled : (j : ℕ) → ((i : ℕ) → i < j → finished C f i ≡ false) → (x : ℕ) → x < j → settled C (after C f x).costs ≡ false
  unsettled j h x l = go (settled C (after C f x).costs) refl
    where
      go : (b : Bool) → settled C (after C f x).costs ≡ b → b ≡ false
      go true e = absurd (true≢false (sym (settled-finished x e) ∙ h x l))
      go false e = refl

  module _ (j : ℕ) (h : (i : ℕ) → i < j → finished C f i ≡ false) where
    run_ends : run (with_limit j C) f ≡ ending j
    unfolding after
    run_ends = let e : 0 + j ≡ j = omega arith in run-limit C j f ∙ go-after j 0 (λ x l. unsettled j h x (omega arith)) ∙ ap ending e

  pub received_is : (j : ℕ) (b : Buffers) → frame_fault C f ≡ 0
      → received C f j b ≡ holding C (after C f j).costs (pick (eqb j 0) b.store (records C (after C f j) ++ drop (used C) b.store)) b
  unfolding received
  received_is j b e = rw e

  answer-is : (j : ℕ) → frame_fault C f ≡ 0 → answer C f j ≡ pick (settled C (after C f j).costs) (found_in j) (pick (eqb j C.limit) (not_found_in j) (spent_in j))
  unfolding answer
  answer-is j e = rw e

pub alone : (code f : List ℕ) (C : Code) (j : ℕ) (own : Buffers) → parse code ≡ good C → frame_fault C f ≡ 0 → Room C own
    → ((i : ℕ) → i < j → finished C f i ≡ false) → Alone code C f j own (received C f j own) (answer C f j)
alone code f C j own line fits room h =
    record {
      some = λ k.
          let d = there k in
          record {
            buffers = received_is C f j own fits ∙ sym (ap (λ x. x.buffers) d);
            not-refused = ap (λ x. x.reply.refused) d ∙ never (settled C (after C f j).costs);
            iterations = rw (answer-is C f j fits) (counts (settled C (after C f j).costs) (eqb j C.limit) ∙ sym (ap (λ x. x.reply.value) d));
            status = rw (answer-is C f j fits) (λ n. same (settled C (after C f j).costs) (eqb j C.limit) n ∙ sym (ap (λ x. x.reply) d));
          };
      none = λ k. rw k (received_is C f 0 own fits ∙ first);
    }
  where
    first : holding C (after C f 0).costs own.store own ≡ holding C f own.store own
    first = ap (λ P. holding C P own.store own) (after_none C f)

    said : Bool → Reply
    said b = outcome (pick b found not_found) j

    there : 0 < j → decoding (limited code j) f own
        ≡ record { reply = said (settled C (after C f j).costs); buffers = holding C (after C f j).costs (pick (eqb j 0) own.store (records C (after C f j) ++ drop (used C) own.store)) own }
    there k =
        let A : Admits (limited code j) f own (with_limit j C) = record {
          line = limited-parse code C j line k;
          fits = fault_limit C j f ∙ fits;
          room = record { for_symbols = room.for_symbols; for_costs = room.for_costs; for_store = rw (used-limit C j) room.for_store; for_margins = room.for_margins };
        } in
        decoding-good (limited code j) f own (with_limit j C) A
        ∙ ap (λ r. record { reply = outcome r.status r.end.t; buffers = holding (with_limit j C) r.end.costs (store_of (with_limit j C) r.end own.store) own }) (run_ends C f j h)
        ∙ ap₂ (λ x b. record { reply = x; buffers = b })
        (ap (outcome (pick (settled C (after C f j).costs) found not_found)) (after-t C f j))
        (holding-limit C j (after C f j).costs _ own
        ∙ ap (λ s. holding C (after C f j).costs s own)
        (store-limit C j (after C f j) own.store ∙ ap (λ t. pick (eqb t 0) own.store (records C (after C f j) ++ drop (used C) own.store)) (after-t C f j)))

    never : (b : Bool) → (said b).refused ≡ false
    never true = refl
    never false = refl

    counts : (a b : Bool) → (pick a (found_in j) (pick b (not_found_in j) (spent_in j))).value ≡ (said a).value
    counts true b = refl
    counts false true = refl
    counts false false = refl

    same : (a b : Bool) → (pick a (found_in j) (pick b (not_found_in j) (spent_in j))).number ≢ 20 → pick a (found_in j) (pick b (not_found_in j) (spent_in j)) ≡ said a
    same true b n = refl
    same false true n = refl
    same false false n = absurd (n refl)
