-- What a load and an iteration leave is what loading and iterating say: each refusal by its own test, the first test on the frame, and one
-- iteration from costs and records that passed the tests.
use mathlib.Core.Path.{◌≡◌, refl, sym, ap, ap₂, ◌∙◌}
use mathlib.Core.Bool.{Bool, true, false, ◌&&◌, ◌||◌}
use mathlib.Core.List.{List, ◌++◌}
use Prim.Native.Nat.{ℕ, zero, suc, ◌+◌, ◌*◌, ◌≤◌, ◌<◌, min}
use native.Mathlib.Omega.{arith}
use lib.Dec.{eqb, leb}
use borrow.Author.Tests.{eq-eqb, ne_eqb, lt-leb, le-leb}
use lib.ListN.{length, take, drop}
use Rattle.trellis.specs.Lists.{pick, all_to}
use Rattle.trellis.specs.Rules.{size_of}
use Rattle.machine.specs.CodeLine.{Read, good, bad, Code, numbers_of, parse, size}
use Rattle.machine.specs.Machine.{symbols, margins, settled}
use Rattle.machine.specs.Lent.{lent, iteration_lent}
use Rattle.machine.specs.Decoding.{Buffers, lending, holding, admitted_under, admitted, Room}
use Rattle.machine.specs.Moments.{Stage as Ends, moment, Moves, loading_under, loading, costs_ok, store_ok, resumable_under, resumable, iterating_under, iterating, further}
use Rattle.machine.specs.inner.Tables.{edges_before}
use Rattle.machine.specs.inner.InRange.{Below}
use Rattle.machine.proofs.Ranges.{frame-ranged}
use Rattle.machine.proofs.InTables.{degree_is, place_is}
use Rattle.machine.proofs.Tested.{tested}
use Rattle.codeline.specs.declared.answers.Numbers.{Numbers}
use Rattle.std.specs.Prelude.{Result, Err}
use Rattle.refusal.specs.Numbers.{number_of}
use Rattle.refusal.specs.declared.Refusal.{Refusal}
use Rattle.codeline.specs.declared.code.Code.{Code as LentCode}
use Rattle.codeline.specs.Answers.{numbers_in, header_numbers}
use Rattle.codeline.specs.Codes.{lent_code}
use Rattle.codeline.proofs.Answered.{header_refused}
use Rattle.layered.specs.inner.Iterations.{Running}
use Rattle.frame.specs.Answers.{fault_of, costs_in, formed_at, records_in, resume_fault}
use Rattle.layered.specs.Answers.{ends}
use Rattle.layered.specs.inner.Stages.{stage_after, loading_of, iterating_of, TestRoom, StepRoom}
use Rattle.layered.proofs.Runs.{checks-count, iteration-running, test_room}
use Rattle.layered.proofs.Decoded.{by_fault, holds_then, fault_is, none, rooms, frame-length, copied_front}

-- tests that agree one by one
all_ext : (n : ℕ) (f g : ℕ → Bool) → ((k : ℕ) → k < n → f k ≡ g k) → all_to f n ≡ all_to g n
all_ext zero f g h = refl
all_ext (suc n) f g h = ap₂ (λ a b. a && b) (all_ext n f g (λ k i. h k (omega arith))) (h n (omega arith))

-- the three stages that are no refusal
module _ (t limit : ℕ) where
  pub stage_found : (found : Bool) → found ≡ true → ends 2 0 ≡ stage_after found t limit
  unfolding stage_after
  stage_found found e = rw e

  pub stage-by : (found : Bool) → found ≡ false → (b : Bool) → leb limit t ≡ b → ends (pick b 3 1) 0 ≡ stage_after found t limit
  unfolding stage_after
  stage-by found e b i = rw (e, i)

-- a running machine has what the test asks
module _ (K : LentCode) (P s : List ℕ) (start : Bool) (R : Running K start P s) where
  pub tested_room : (z v : List ℕ) → length z ≡ K.numbers.columns → length v ≡ K.numbers.columns → TestRoom K P z v
  tested_room z v e i = record { settled = test_room K P s start R z e; margins = i }

-- the test after an iteration
pub after-room : (K : LentCode) (P s z v A S : List ℕ) (start : Bool) → StepRoom K start P s z v A S → (P' s' z' v' : List ℕ)
    → lent P' s' ≡ iteration_lent (lent_code K) start (lent P s) → length z' ≡ length z → length v' ≡ length v → TestRoom K P' z' v'
after-room K P s z v A S start R P' s' z' v' e i j =
    tested_room K P' s' false (iteration-running K P s start R.iterate.running P' s' e) z' v' (i ∙ R.symbols) (j ∙ R.margins)

module _ (K : LentCode) (n : ℕ) (N : n ≡ K.numbers.columns) where
  abbrev C : Code
  C = lent_code K

  abbrev hc : edges_before K.degrees.now K.numbers.checks ≤ length K.columns.now
  hc = K.coded.for_columns

  abbrev hw : edges_before K.degrees.now K.numbers.checks ≤ length K.weights.now
  hw = K.coded.for_weights

  -- the tests are the definition's
  costs-there : (c : List ℕ) → K.numbers.columns * size_of K.numbers.first ≤ length c → costs_in (size_of K.numbers.first) K.numbers.columns c ≡ costs_ok C c
  unfolding costs_in costs_ok
  costs-there c h = rw (le-leb (K.numbers.columns * size_of K.numbers.first) (length c) h)

  all-checks : min K.numbers.checks (length K.degrees.now) ≡ length C.checks
  all-checks = omega (arith, K.coded.for_degrees, checks-count K)

  records-there : (t : ℕ) (s : List ℕ) → records_in K.numbers.first K.degrees.now (min K.numbers.checks (length K.degrees.now)) t s ≡ (eqb t 0 || store_ok C s)
  unfolding records_in store_ok
  records-there t s =
      ap (λ b. eqb t 0 || b)
      (ap (all_to (formed_at K.numbers.first K.degrees.now s)) all-checks
      ∙ all_ext (length C.checks) _ _ (λ j h.
      let i : j < K.numbers.checks = omega (arith, checks-count K) in
      rw (degree_is (numbers_in K.numbers) K.degrees.now K.columns.now K.weights.now hc hw j i, place_is (numbers_in K.numbers) K.degrees.now K.columns.now K.weights.now hc hw j (omega arith))))

  -- by the number of the test that fails, 0 for none
  resumes : (t : ℕ) (b : Buffers) → K.numbers.columns * size_of K.numbers.first ≤ length b.costs → (r : ℕ) → r ≡ resume_fault K.numbers K.degrees.now t b.costs b.store
      → resumable_under (good C) t b ≡ pick (eqb r 0) (good C) (bad r)
  unfolding resume_fault
  resumes t b l r e = rw (e, costs-there b.costs l, records-there t b.store) (go (costs_ok C b.costs) (eqb t 0 || store_ok C b.store))
    where
      go : (i j : Bool) → pick i (pick j (good C) (bad 16)) (bad 13) ≡ pick (eqb (pick i (pick j 0 16) 13) 0) (good C) (bad (pick i (pick j 0 16) 13))
      go true true = refl
      go true false = refl
      go false j = refl

  passes : (t : ℕ) (b : Buffers) → K.numbers.columns * size_of K.numbers.first ≤ length b.costs → resume_fault K.numbers K.degrees.now t b.costs b.store ≡ 0 → (costs_ok C b.costs ≡ true) × ((eqb t 0 || store_ok C b.store) ≡ true)
  unfolding resume_fault
  passes t b l h =
      go (costs_in (size_of K.numbers.first) K.numbers.columns b.costs) (costs-there b.costs l) (records_in K.numbers.first K.degrees.now (min K.numbers.checks (length K.degrees.now)) t b.store) (records-there t b.store) h
    where
      go : (i : Bool) → i ≡ costs_ok C b.costs → (j : Bool) → j ≡ (eqb t 0 || store_ok C b.store) → ◌≡◌ {A = ℕ} (pick i (pick j 0 16) 13) 0
          → (costs_ok C b.costs ≡ true) × ((eqb t 0 || store_ok C b.store) ≡ true)
      go true e true i h = (sym e, sym i)
      go true e false i h = absurd (omega arith)
      go false e j i h = absurd (omega arith)

  module _ (f y c s v : List ℕ) (r : ℕ) (e : r ≡ fault_of K.numbers K.degrees.now f (length y) (length c) (length s) (length v)) where
    abbrev b : Buffers
    b = lending y c s v

    admits-by : {A : Type 0} (h : Read Code → A) → h (admitted_under (good C) f b) ≡ pick (eqb r 0) (h (good C)) (h (bad r))
    admits-by {A} h = by_fault C f b h ∙ rw (← fault_is K n N f y c s v r e)

    -- refused as decoding is
    pub load-refused : (r ≡ 0 → ⊥) → Moves (loading_of C f b) (ends 4 r) b
    load-refused z =
        let x : loading_of C f b ≡ moment 4 r 0 b = admits-by (λ r. loading_under r f b) ∙ rw (ne_eqb r 0 z) in
        rw x record { staged = refl; symbols-then = refl; costs-then = refl; store_then = refl; margins-then = refl }

    pub step-refused : (r ≡ 0 → ⊥) → (t : ℕ) → Moves (iterating_of C f t b) (ends 4 r) b
    step-refused z t =
        let x : iterating_of C f t b ≡ moment 4 r 0 b = admits-by (λ r. iterating_under (resumable_under r t b) t b) ∙ rw (ne_eqb r 0 z) in
        rw x record { staged = refl; symbols-then = refl; costs-then = refl; store_then = refl; margins-then = refl }

    module _ (z : r ≡ 0) where
      R : Room C b
      R = rooms K n N f y c s v r e z

      width : length f ≡ C.columns * size C
      width = frame-length K n N f y c s v r e z

      -- a load: the test on the frame in the front of the cost buffer
      module _ (f' : List ℕ) (i : f' ≡ f) where
        front : take (length f) (f' ++ drop (length f) c) ≡ f
        front = copied_front K n N f y c s v r e z f' i

        pub first-room : Below 255 f → (x x' : List ℕ) → length x ≡ n → length x' ≡ n → TestRoom K (take (length f) (f' ++ drop (length f) c)) x x'
        first-room d x x' l l' =
            rw front
            record {
              settled = record { ranged = frame-ranged C f (none K n N f y c s v r e z).0 d; symbols = l ∙ N };
              margins = l' ∙ N;
            }

        pub load-leaves : (found : Bool) (x x' : List ℕ) → found ≡ settled C (take (length f) (f' ++ drop (length f) c))
            → x ≡ symbols C (take (length f) (f' ++ drop (length f) c)) → x' ≡ margins C (take (length f) (f' ++ drop (length f) c))
            → (q : Ends) → q ≡ stage_after found 0 K.numbers.limit
            → Moves (loading_of C f b) q (lending (x ++ drop n y) (f' ++ drop (length f) c) s (x' ++ drop n v))
        unfolding stage_after
        load-leaves found x x' o p p' q w =
            let a : loading_of C f b ≡ moment (pick (settled C f) 2 1) 0 0 (holding C f s b) = admits-by (λ r. loading_under r f b) ∙ rw (eq-eqb r 0 z) in
            let t : found ≡ settled C f = o ∙ ap (settled C) front in
            let u : leb K.numbers.limit 0 ≡ false = lt-leb K.numbers.limit 0 K.coded.good.limit-low in
            let h : lending (x ++ drop n y) (f' ++ drop (length f) c) s (x' ++ drop n v) ≡ holding C f s b =
            rw i (holds_then K n N f s s y c v x x' (length f) width (p ∙ ap (symbols C) front) (p' ∙ ap (margins C) front)) in
            rw (a, h) record { staged = w ∙ rw (t, u); symbols-then = refl; costs-then = refl; store_then = refl; margins-then = refl }

      module _ (t j : ℕ) (o : j ≡ resume_fault K.numbers K.degrees.now t c s) where
        -- refused by 13 or 16
        pub resume_refused : (j ≡ 0 → ⊥) → Moves (iterating_of C f t b) (ends 4 j) b
        resume_refused h =
            let x : iterating_of C f t b ≡ moment 4 j 0 b =
            admits-by (λ r. iterating_under (resumable_under r t b) t b) ∙ rw (eq-eqb r 0 z) (ap (λ r. iterating_under r t b) (resumes t b R.for_costs j o) ∙ rw (ne_eqb j 0 h)) in
            rw x record { staged = refl; symbols-then = refl; costs-then = refl; store_then = refl; margins-then = refl }

        module _ (h : j ≡ 0) where
          -- or it goes on
          pub step_room : (x x' A S : List ℕ) → length x ≡ n → length x' ≡ n → 2048 ≤ length A → 2048 ≤ length S → StepRoom K (eqb t 0) (take (length f) c) s x x' A S
          step_room x x' A S l l' a b =
              let u = passes t (lending y c s v) R.for_costs (sym o ∙ h) in
              record {
                iterate = record {
                  running = record { passable = rw width (tested C K.coded.good c s t R.for_costs R.for_store u.0 u.1) };
                  arrived = a;
                  sent = b;
                };
                symbols = l ∙ N;
                margins = l' ∙ N;
              }

          pub step-leaves : (found : Bool) (P u x x' : List ℕ) → found ≡ settled C P → lent P u ≡ iteration_lent C (eqb t 0) (lent (take (length f) c) s)
              → x ≡ symbols C P → x' ≡ margins C P
              → (q : Ends) → q ≡ stage_after found (t + 1) K.numbers.limit
              → Moves (iterating_of C f t b) q (lending (x ++ drop n y) (P ++ drop (length f) c) u (x' ++ drop n v))
          unfolding stage_after
          step-leaves found P u x x' i p d d' q w =
              let a : iterating_of C f t b ≡ iterating_under (good C) t b =
              admits-by (λ r. iterating_under (resumable_under r t b) t b) ∙ rw (eq-eqb r 0 z) (ap (λ r. iterating_under r t b) (resumes t b R.for_costs j o) ∙ rw (eq-eqb j 0 h)) in
              let g : lent P u ≡ further C t b = p ∙ ap (λ k. iteration_lent C (eqb t 0) (lent (take k c) s)) width in
              let l : lending (x ++ drop n y) (P ++ drop (length f) c) u (x' ++ drop n v) ≡ holding C P u b =
              holds_then K n N P u s y c v x x' (length f) width d d' in
              rw (a, ← g, l) record { staged = w ∙ rw i; symbols-then = refl; costs-then = refl; store_then = refl; margins-then = refl }

-- a code line that is refused, and one that says C
module _ (s₀ f : List ℕ) (b : Buffers) where
  module _ (h : Result Numbers Refusal) (e : header_numbers h ≡ numbers_of (parse s₀)) (r : Refusal) (i : h ≡ Err r) where
    pub refused_loads : Moves (loading s₀ f b) (ends 4 (number_of r)) b
    unfolding loading admitted
    refused_loads =
        let x : loading s₀ f b ≡ moment 4 (number_of r) 0 b = ap (λ l. loading_under (admitted_under l f b) f b) (header_refused s₀ h e r i) in
        rw x record { staged = refl; symbols-then = refl; costs-then = refl; store_then = refl; margins-then = refl }

    pub refused_steps : (t : ℕ) → Moves (iterating s₀ f t b) (ends 4 (number_of r)) b
    unfolding iterating resumable admitted
    refused_steps t =
        let x : iterating s₀ f t b ≡ moment 4 (number_of r) 0 b = ap (λ l. iterating_under (resumable_under (admitted_under l f b) t b) t b) (header_refused s₀ h e r i) in
        rw x record { staged = refl; symbols-then = refl; costs-then = refl; store_then = refl; margins-then = refl }

  module _ (C : Code) (e : parse s₀ ≡ good C) (q : Ends) (b' : Buffers) where
    pub said_loads : Moves (loading_of C f b) q b' → Moves (loading s₀ f b) q b'
    unfolding loading admitted
    said_loads L = rw e L

    pub said_steps : (t : ℕ) → Moves (iterating_of C f t b) q b' → Moves (iterating s₀ f t b) q b'
    unfolding iterating resumable admitted
    said_steps t L = rw e L
