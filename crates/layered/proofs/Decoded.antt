-- What decode's tests and the run leave is what decoding says: each refusal by its own test, and the run by the machine over the lent buffers.
use mathlib.Core.Path.{◌≡◌, refl, sym, ap, ap₂, ◌∙◌}
use mathlib.Core.Bool.{Bool, true, false, true≢false}
use mathlib.Core.List.{List, ◌++◌}
use Prim.Native.Nat.{ℕ, ◌*◌, ◌≤◌, min}
use native.Mathlib.Omega.{arith}
use lib.Dec.{eqb}
use borrow.Author.Tests.{eqb-true, eqb-false, eq-eqb, ne_eqb}
use lib.ListN.{length, take, drop}
use lib.Seq.{take_at, drop_at}
use Rattle.trellis.specs.Lists.{pick}
use Rattle.trellis.specs.Refusals.{Test, fault_by}
use Rattle.trellis.proofs.Refusals.{then-ends, by_number}
use Rattle.trellis.specs.Reply.{Reply, refusal}
use Rattle.machine.specs.CodeLine.{Read, good, bad, Code, numbers_of, parse, size, frame_fault}
use Rattle.machine.specs.Machine.{Status, symbols, margins, place, used}
use Rattle.machine.specs.Lent.{Lent, lent, Ended, ended, go_lent}
use Rattle.machine.specs.Early.{most_updates, decoding_early}
use Rattle.machine.specs.inner.LentEarly.{stop_lent}
use Rattle.machine.proofs.EarlyLent.{early_stands}
use Rattle.machine.specs.Decoding.{Buffers, After, lending, outcome, holding, decode_tests, admitted_under, admitted, decoding, Leaves, Room}
use Rattle.machine.specs.inner.Faults.{room_fault}
use Rattle.machine.specs.inner.Tables.{bytes_before}
use Rattle.machine.proofs.Ranges.{frame-ranged}
use Rattle.machine.proofs.Buffers.{room_of}
use Rattle.machine.proofs.Lent.{run-stands}
use Rattle.machine.proofs.InTables.{place_is}
use Rattle.codeline.specs.declared.answers.Numbers.{Numbers}
use Rattle.std.specs.Prelude.{Result, Ok, Err}
use Rattle.refusal.specs.Numbers.{number_of}
use Rattle.refusal.specs.declared.Refusal.{Refusal}
use Rattle.codeline.specs.declared.code.Code.{Code as LentCode}
use Rattle.codeline.specs.Answers.{numbers_in, header_numbers}
use Rattle.codeline.specs.Codes.{lent_code}
use Rattle.codeline.proofs.Answered.{header_refused}
use Rattle.layered.specs.declared.answers.Outcome.{Outcome}
use Rattle.layered.specs.declared.answers.Outcome.TheVariants.{Found, NotFound}
use Rattle.layered.specs.Answers.{answer_reply}
use Rattle.machine.specs.inner.InRange.{Below}
use Rattle.layered.specs.inner.Iterations.{ended_in, RunRoom}
use Rattle.layered.specs.inner.Calls.{run_lent, call_under, decoding_of, called}
use Rattle.frame.specs.Answers.{frame_fault_of, fault_of}
use Rattle.frame.proofs.Frames.{decode_numbered, decode_parts, frame-counted}
use Rattle.layered.proofs.Runs.{checks-count}

-- what decoding's refusals lead to, by the number of the refusal, 0 for none
module _ (C : Code) (f : List ℕ) (b : Buffers) where
  abbrev tests : List Test
  tests = decode_tests (size C) C.columns (used C) f (length b.symbols) (length b.costs) (length b.store) (length b.margins)

  abbrev pub fault_in : ℕ
  fault_in = fault_by tests

  pub by_fault : {A : Type 0} (h : Read Code → A) → h (admitted_under (good C) f b) ≡ pick (eqb fault_in 0) (h (good C)) (h (bad fault_in))
  by_fault {A} h =
      then-ends h tests bad (good C)
      ∙ by_number tests (decode_numbered (size C) C.columns (used C) f (length b.symbols) (length b.costs) (length b.store) (length b.margins)) (λ k. h (bad k)) (h (good C))

  fault-parts : fault_in ≡ pick (eqb (frame_fault C f) 0) (room_fault C b) (frame_fault C f)
  unfolding frame_fault room_fault
  fault-parts = decode_parts (size C) C.columns (used C) f (length b.symbols) (length b.costs) (length b.store) (length b.margins)

-- a refusal changes no buffer
bad_call : (early : Bool) (k : ℕ) (f : List ℕ) (b : Buffers) → call_under early (bad k) f b ≡ record { reply = refusal k; buffers = b }
bad_call false k f b = refl
bad_call true k f b = refl

-- no number but 0 in two steps
split_fault : (x r : ℕ) → pick (eqb x 0) r x ≡ 0 → (x ≡ 0) × (r ≡ 0)
split_fault x r h = go (eqb x 0) refl h
  where
    go : (b : Bool) → eqb x 0 ≡ b → pick b r x ≡ 0 → (x ≡ 0) × (r ≡ 0)
    go true e h = (eqb-true x 0 e, h)
    go false e h = absurd (eqb-false x 0 e h)

-- an outcome is its status and t
reply_is : (o : Outcome) (l : Lent) (st : Status) (t : ℕ) (l' : Lent) → ended_in o l ≡ ended st t l' → (answer_reply (Ok o) ≡ outcome st t) × (l ≡ l')
reply_is (Found u) l st t l' e = (ap₂ outcome (ap (λ (x : Ended). x.status) e) (ap (λ (x : Ended). x.t) e), ap (λ (x : Ended). x.lent) e)
reply_is (NotFound u) l st t l' e = (ap₂ outcome (ap (λ (x : Ended). x.status) e) (ap (λ (x : Ended). x.t) e), ap (λ (x : Ended). x.lent) e)

-- a decoding over the tables of a code, of which n is N
module _ (K : LentCode) (n : ℕ) (N : n ≡ K.numbers.columns) where
  abbrev C : Code
  C = lent_code K

  pub used_is : bytes_before K.numbers.first K.degrees.now (min K.numbers.checks (length K.degrees.now)) ≡ used C
  used_is =
      let m : min K.numbers.checks (length K.degrees.now) ≡ K.numbers.checks = omega (arith, K.coded.for_degrees) in
      ap (bytes_before K.numbers.first K.degrees.now) m
      ∙ place_is (numbers_in K.numbers) K.degrees.now K.columns.now K.weights.now K.coded.for_columns K.coded.for_weights K.numbers.checks (omega arith)
      ∙ ap (place C) (sym (checks-count K))

  -- what the buffers hold of costs P and a store u
  pub holds_then : (P u s y c v x x' : List ℕ) (w : ℕ) → w ≡ C.columns * size C → x ≡ symbols C P → x' ≡ margins C P
      → lending (x ++ drop n y) (P ++ drop w c) u (x' ++ drop n v) ≡ holding C P u (lending y c s v)
  holds_then P u s y c v x x' w e i j = rw (i, j, e, N)

  module _ (f y c s v : List ℕ) (r : ℕ) (e : r ≡ fault_of K.numbers K.degrees.now f (length y) (length c) (length s) (length v)) where
    abbrev b : Buffers
    b = lending y c s v

    pub fault_is : r ≡ fault_in C f b
    unfolding fault_of
    fault_is = e ∙ rw used_is

    pub refused-leaves : (early : Bool) → (r ≡ 0 → ⊥) → Leaves (decoding_of early C f b) (refusal r) b
    refused-leaves early h =
        let call : Read Code → After = λ l. call_under early l f b in
        let x : call (admitted_under (good C) f b) ≡ record { reply = refusal r; buffers = b } = let q : call (admitted_under (good C) f b) ≡ call (bad r) = by_fault C f b call ∙ rw (← fault_is, ne_eqb r 0 h) in q ∙ bad_call early r f b in
        rw x record { replies = refl; symbols-then = refl; costs-then = refl; store_then = refl; margins-then = refl }

    -- no refusal
    module _ (z : r ≡ 0) where
      pub none : (frame_fault C f ≡ 0) × (room_fault C b ≡ 0)
      none = split_fault (frame_fault C f) _ (sym (fault-parts C f b) ∙ sym fault_is ∙ z)

      pub rooms : Room C b
      rooms = room_of C b none.1

      pub frame-length : length f ≡ C.columns * size C
      unfolding frame_fault_of frame_fault
      frame-length = frame-counted K.numbers.first K.numbers.columns f none.0

      -- the buffers have room
      pub fits : (n ≤ length y) × ((length f ≤ length c) × (n ≤ length v))
      fits = rw (frame-length, N) (rooms.for_symbols, (rooms.for_costs, rooms.for_margins))

      -- the run starts on the frame with no record
      pub start-room : Below 255 f → (P x A S : List ℕ) → P ≡ f → length x ≡ n → 2048 ≤ length A → 2048 ≤ length S → RunRoom K true P s x A S
      start-room d P x A S i l p q =
          record {
            iterate = record {
              running = record {
                passable = rw i record { ranged = frame-ranged C f none.0 d; room = rooms.for_store; formed = λ e. absurd (true≢false e) };
              };
              arrived = p;
              sent = q;
            };
            symbols = l ∙ N;
          }

      -- a call that replies o and whose run leaves the costs P and the store u leaves these, and the decisions and margins of P
      module _ (call : Read Code → After) (o : Reply) (P u x x' : List ℕ) where
        pub holds-leaves : call (good C) ≡ record { reply = o; buffers = holding C P u b } → x ≡ symbols C P → x' ≡ margins C P
            → Leaves (call (admitted_under (good C) f b)) o (lending (x ++ drop n y) (P ++ drop (length f) c) u (x' ++ drop n v))
        holds-leaves i j j' =
            let d : call (admitted_under (good C) f b) ≡ record { reply = o; buffers = holding C P u b } = let q : call (admitted_under (good C) f b) ≡ call (good C) = by_fault C f b call ∙ rw (← fault_is, eq-eqb r 0 z) in q ∙ i in
            rw (d, holds_then P u s y c v x x' (length f) frame-length j j') record { replies = refl; symbols-then = refl; costs-then = refl; store_then = refl; margins-then = refl }

      -- the costs copied into the front of the cost buffer
      module _ (f' : List ℕ) (i : f' ≡ f) where
        pub copied_front : take (length f) (f' ++ drop (length f) c) ≡ f
        copied_front = ap (λ a. take (length f) (a ++ drop (length f) c)) i ∙ take_at f (drop (length f) c) (length f) refl

        pub copied_rest : drop (length f) (f' ++ drop (length f) c) ≡ drop (length f) c
        copied_rest = ap (λ a. drop (length f) (a ++ drop (length f) c)) i ∙ drop_at f (drop (length f) c) (length f) refl

        pub copied_room : Below 255 f → (x A S : List ℕ) → length x ≡ n → 2048 ≤ length A → 2048 ≤ length S → RunRoom K true (take (length f) (f' ++ drop (length f) c)) s x A S
        copied_room d x A S l p q = start-room d _ x A S copied_front l p q

        -- the run, by the machine over the lent buffers
        call-of : (early : Bool) (o : Outcome) (P u : List ℕ) → ended_in o (lent P u) ≡ run_lent early K.numbers C (lent (take (length f) (f' ++ drop (length f) c)) s)
            → call_under early (good C) f b ≡ record { reply = answer_reply (Ok o); buffers = holding C P u b }
        call-of false o P u a =
            let E = reply_is o (lent P u) _ _ _ (a ∙ ap (λ q. go_lent C K.numbers.limit 0 (lent q s)) copied_front ∙ run-stands C K.coded.good s rooms.for_store f) in
            ap₂ (λ r (l : Lent). record { reply = r; buffers = holding C l.costs l.store b }) (sym E.0) (sym E.1)
        call-of true o P u a =
            let q : K.numbers.checks * K.numbers.limit ≡ most_updates C = ap (λ a. a * K.numbers.limit) (sym (checks-count K)) in
            let E = reply_is o (lent P u) _ _ _ (a ∙ ap₂ (λ n l. stop_lent C n 0 (lent l s)) q copied_front ∙ early_stands C K.coded.good s rooms.for_store f) in
            ap₂ (λ r (l : Lent). record { reply = r; buffers = holding C l.costs l.store b }) (sym E.0) (sym E.1)

        pub copied_leaves : (early : Bool) (o : Outcome) (P x u x' : List ℕ)
            → ended_in o (lent P u) ≡ run_lent early K.numbers C (lent (take (length f) (f' ++ drop (length f) c)) s)
            → x ≡ symbols C P → x' ≡ margins C P
            → Leaves (decoding_of early C f b) (answer_reply (Ok o)) (lending (x ++ drop n y) (P ++ drop (length f) (f' ++ drop (length f) c)) u (x' ++ drop n v))
        copied_leaves early o P x u x' a j j' =
            rw copied_rest (holds-leaves (λ r. call_under early r f b) (answer_reply (Ok o)) P u x x' (call-of early o P u a) j j')

-- a call whose code line is refused, and one whose code line says C
module _ (s₀ f : List ℕ) (b : Buffers) where
  call-is : (early : Bool) → called early s₀ f b ≡ call_under early (admitted s₀ f b) f b
  unfolding decoding decoding_early
  call-is false = refl
  call-is true = refl

  module _ (early : Bool) where
    pub refused-calls : (h : Result Numbers Refusal) → header_numbers h ≡ numbers_of (parse s₀) → (r : Refusal) → h ≡ Err r → Leaves (called early s₀ f b) (refusal (number_of r)) b
    unfolding admitted
    refused-calls h e r i =
        let x : called early s₀ f b ≡ record { reply = refusal (number_of r); buffers = b } = call-is early ∙ ap (λ l. call_under early (admitted_under l f b) f b) (header_refused s₀ h e r i) ∙ bad_call early (number_of r) f b in
        rw x record { replies = refl; symbols-then = refl; costs-then = refl; store_then = refl; margins-then = refl }

    pub said-calls : (C : Code) → parse s₀ ≡ good C → (r : Reply) (b' : Buffers) → Leaves (decoding_of early C f b) r b' → Leaves (called early s₀ f b) r b'
    unfolding admitted
    said-calls C e r b' L = rw (call-is early, e) L
