-- A load that is not refused, and I commands 2: the outcome, t and buffers of one decode call.
use mathlib.Core.Path.{◌≡◌, refl, sym, ap, ◌∙◌}
use mathlib.Core.Bool.{Bool, true, false, ◌&&◌}
use mathlib.Core.Logic.{◌⊎◌, inl, inr, ⊎_elim}
use mathlib.Core.List.{List, [], ◌∷◌}
use Prim.Native.Nat.{ℕ, zero, suc, ◌+◌, ◌≤◌}
use native.Mathlib.Omega.{arith}
use lib.Dec.{eqb, leb}
use lib.ListN.{get_or}
use borrow.Author.Tests.{eqb-true, ne_eqb, eq-eqb, leb-true, leb-false}
use Rattle.trellis.specs.Lists.{pick}
use Rattle.machine.specs.CodeLine.{good, Code, parse, frame_fault}
use Rattle.machine.specs.Machine.{State, start, iteration, settled, Status, found, not_found, Result, result, go, run}
use Rattle.machine.specs.Decoding.{outcome}
use Rattle.machine.specs.inner.Accepted.{GoodCode}
use Rattle.machine.proofs.Lines.{parse-good}
use Rattle.machine.proofs.Early.{limit-read}
use Rattle.machine.proofs.Ranges.{frame-ranged}
use Rattle.machine.proofs.Lent.{iteration-t}
use Rattle.machine.specs.Decoding.{Buffers, admitted, Room}
use Rattle.machine.proofs.Buffers.{admits, admits_of, decoding-good}
use Rattle.machine.specs.Moments.{state_for, loading_under, loading, state_after, iterating}
use Rattle.window.specs.Window.{Registers, Window, entering, taking, load, iterate, masked, cleared, second, command, write}
use Rattle.window.specs.Writes.{Write, writes, commands, Bytes, LoadAndIterate}
use Rattle.machine.proofs.Onward.{go_open, go_found, go_missed, start-ready, start-at, end-at}
use Rattle.machine.proofs.Resume.{at, SoundState, iteration_sound, iterating-at}

-- one command 2, where the buffers hold a state of a run
iterate-at : (C : Code) (G : GoodCode C) (b₀ : Buffers) (room : Room C b₀) (code f : List ℕ) (line : parse code ≡ good C) (fits : frame_fault C f ≡ 0)
    (s : State) → SoundState C G b₀ room s → (r : Registers) → r.iterations ≡ s.t
    → iterate code f (record { registers = r; buffers = at C G b₀ room s })
    ≡ record { registers = entering (state_after C (s.t + 1) (iteration C s).costs) 0 (s.t + 1) r; buffers = at C G b₀ room (iteration C s) }
iterate-at C G b₀ room code f line fits s S r e =
    ap (λ t. taking (iterating code f t (at C G b₀ room s)) r) e ∙ ap (λ m. taking m r) (iterating-at C G b₀ room code f line fits s S)

-- all but mask and pending are as they were
record Alike (w w' : Window) : Type 0 where
  pub state : w'.registers.state ≡ w.registers.state
  pub refusal : w'.registers.refusal ≡ w.registers.refusal
  pub iterations : w'.registers.iterations ≡ w.registers.iterations
  pub buffers : w'.buffers ≡ w.buffers

alike : (w : Window) → Alike w w
alike w = record { state = refl; refusal = refl; iterations = refl; buffers = refl }

module _ (code f : List ℕ) where
  -- a write that is neither command 1 nor command 2
  other : (a v : ℕ) (w : Window) → (eqb a 0 && eqb v 1) ≡ false → (eqb a 0 && eqb v 2) ≡ false → Alike w (write code f a v w)
  unfolding write command second
  other a v w = pickings (eqb a 0) (eqb v 1) (eqb v 2) (eqb v 3) (eqb a 4)
    where
      pickings : (i j k l m : Bool) → (i && j) ≡ false → (i && k) ≡ false
          → Alike w (pick i (pick j (load code f w) (pick k (pick (eqb w.registers.state 1) (pick (eqb w.registers.iterations 255) w (iterate code f w)) w) (pick l (cleared w) w))) (pick m (masked v w) w))
      pickings true true k l m d e = let z : true ≡ false = d in let y : ◌≡◌ {A = ℕ} 0 1 = cc in absurd (omega arith)
      pickings true false true l m d e = let z : true ≡ false = e in let y : ◌≡◌ {A = ℕ} 0 1 = cc in absurd (omega arith)
      pickings true false false true m d e = record { state = refl; refusal = refl; iterations = refl; buffers = refl }
      pickings true false false false m d e = alike w
      pickings false j k l true d e = record { state = refl; refusal = refl; iterations = refl; buffers = refl }
      pickings false j k l false d e = alike w

  -- command 2
  second-write : (a v : ℕ) (w : Window) → (eqb a 0 && eqb v 2) ≡ true
      → write code f a v w ≡ pick (eqb w.registers.state 1) (pick (eqb w.registers.iterations 255) w (iterate code f w)) w
  unfolding write command second
  second-write a v w e = let h = split (eqb a 0) refl (eqb v 2) refl e in rw (h.0, h.1)
    where
      split : (i : Bool) → eqb a 0 ≡ i → (k : Bool) → eqb v 2 ≡ k → (i && k) ≡ true → (a ≡ 0) × (v ≡ 2)
      split true x true y e = (eqb-true _ _ x, eqb-true _ _ y)
      split true x false y e = let z : ◌≡◌ {A = ℕ} 0 1 = cc in absurd (omega arith)
      split false x k y e = let z : ◌≡◌ {A = ℕ} 0 1 = cc in absurd (omega arith)

module _ (C : Code) (G : GoodCode C) (b₀ : Buffers) (room : Room C b₀) (code f : List ℕ) (line : parse code ≡ good C) (fits : frame_fault C f ≡ 0) (small : C.limit ≤ 255) where
  -- the window stands at a state of a run, with n iterations more after the next
  record Running (n : ℕ) (s : State) (w : Window) : Type 0 where
    pub state : w.registers.state ≡ 1
    pub refusal : w.registers.refusal ≡ 0
    pub iterations : w.registers.iterations ≡ s.t
    pub buffers : w.buffers ≡ at C G b₀ room s
    pub sound : SoundState C G b₀ room s
    pub unsettled : settled C s.costs ≡ false
    pub left : s.t + suc n ≡ C.limit

  -- or at the end of one
  record Ended (r : Result) (w : Window) : Type 0 where
    pub state : w.registers.state ≡ state_for r.status
    pub refusal : w.registers.refusal ≡ 0
    pub iterations : w.registers.iterations ≡ r.end.t
    pub buffers : w.buffers ≡ at C G b₀ room r.end

  running-alike : (n : ℕ) (s : State) (w w' : Window) → Alike w w' → Running n s w → Running n s w'
  running-alike n s w w' A R =
      record {
        state = A.state ∙ R.state;
        refusal = A.refusal ∙ R.refusal;
        iterations = A.iterations ∙ R.iterations;
        buffers = A.buffers ∙ R.buffers;
        sound = R.sound;
        unsettled = R.unsettled;
        left = R.left;
      }

  ended-alike : (r : Result) (w w' : Window) → Alike w w' → Ended r w → Ended r w'
  ended-alike r w w' A R = record { state = A.state ∙ R.state; refusal = A.refusal ∙ R.refusal; iterations = A.iterations ∙ R.iterations; buffers = A.buffers ∙ R.buffers }

  not-running : (o : Status) → eqb (state_for o) 1 ≡ false
  not-running found = refl
  not-running not_found = refl

  -- once ended, no write but a load changes more than mask and pending
  ended-stays : (r : Result) (l : List Write) (w : Window) → commands 1 l ≡ 0 → Ended r w → Ended r (writes code f l w)
  ended-stays r [] w h E = E
  ended-stays r (x ∷ l) w h E = by (eqb x.byte 0 && eqb x.value 1) refl (eqb x.byte 0 && eqb x.value 2) refl h (ended-stays r l (write code f x.byte x.value w))
    where
      by : (i : Bool) → (eqb x.byte 0 && eqb x.value 1) ≡ i → (j : Bool) → (eqb x.byte 0 && eqb x.value 2) ≡ j
          → pick i 1 0 + commands 1 l ≡ 0 → (commands 1 l ≡ 0 → Ended r (write code f x.byte x.value w) → Ended r (writes code f l (write code f x.byte x.value w)))
          → Ended r (writes code f l (write code f x.byte x.value w))
      by true a j c h k = absurd (omega arith)
      by false a true c h k =
          let e : write code f x.byte x.value w ≡ w =
          second-write code f x.byte x.value w c ∙ ap (λ b. pick b (pick (eqb w.registers.iterations 255) w (iterate code f w)) w) (ap (λ o. eqb o 1) E.state ∙ not-running r.status) in
          k (omega arith) (rw e E)
      by false a false c h k = k (omega arith) (ended-alike r w (write code f x.byte x.value w) (other code f x.byte x.value w a c) E)

  -- one iteration of a running window
  iterates : (n : ℕ) (s : State) (w : Window) → Running n s w
      → pick (eqb w.registers.state 1) (pick (eqb w.registers.iterations 255) w (iterate code f w)) w
      ≡ record { registers = entering (state_after C (s.t + 1) (iteration C s).costs) 0 (s.t + 1) w.registers; buffers = at C G b₀ room (iteration C s) }
  iterates n s w R =
      ap (λ b. pick b (pick (eqb w.registers.iterations 255) w (iterate code f w)) w) (eq-eqb w.registers.state 1 R.state)
      ∙ ap (λ b. pick b w (iterate code f w)) (ne_eqb w.registers.iterations 255 (λ e. omega (arith, R.iterations, R.left)))
      ∙ ap (λ b. iterate code f (record { registers = w.registers; buffers = b })) R.buffers
      ∙ iterate-at C G b₀ room code f line fits s R.sound w.registers R.iterations

  -- what stands after it, with n iterations left
  stands : (n : ℕ) (s : State) (w w' : Window) → Running n s w
      → w' ≡ record { registers = entering (state_after C (s.t + 1) (iteration C s).costs) 0 (s.t + 1) w.registers; buffers = at C G b₀ room (iteration C s) }
      → Ended (go C n (iteration C s)) w' ⊎ ((k : ℕ) × (n ≡ suc k) × Running k (iteration C s) w')
  stands n s w w' R e = by (settled C (iteration C s).costs) refl (leb C.limit (s.t + 1)) refl e
    where
      t-is : (iteration C s).t ≡ s.t + 1
      t-is = iteration-t C G b₀.store room.for_store s

      by : (i : Bool) → settled C (iteration C s).costs ≡ i → (j : Bool) → leb C.limit (s.t + 1) ≡ j
          → w' ≡ record { registers = entering (pick i 2 (pick j 3 1)) 0 (s.t + 1) w.registers; buffers = at C G b₀ room (iteration C s) }
          → Ended (go C n (iteration C s)) w' ⊎ ((k : ℕ) × (n ≡ suc k) × Running k (iteration C s) w')
      by true a j c e =
          inl (rw (go_found C n (iteration C s) a) (rw e record { state = refl; refusal = refl; iterations = sym t-is; buffers = refl }))
      by false a true c e =
          let z : n ≡ 0 = omega (arith, R.left, leb-true C.limit (s.t + 1) c) in
          inl (rw (z, go_missed C (iteration C s) a) (rw e record { state = refl; refusal = refl; iterations = sym t-is; buffers = refl }))
      by false a false c e = more n R.left
        where
          more : (m : ℕ) → s.t + suc m ≡ C.limit → Ended (go C m (iteration C s)) w' ⊎ ((k : ℕ) × (m ≡ suc k) × Running k (iteration C s) w')
          more zero g = absurd (omega (arith, leb-false C.limit (s.t + 1) c))
          more (suc k) g =
              inr (
                k,
                refl,
                rw e record {
                  state = refl;
                  refusal = refl;
                  iterations = sym t-is;
                  buffers = refl;
                  sound = iteration_sound C G b₀ room s R.sound;
                  unsettled = a;
                  left = omega (arith, t-is);
                },
              )

  -- a running window, and enough commands 2
  running-ends : (l : List Write) (n : ℕ) (s : State) (w : Window) → Running n s w → commands 1 l ≡ 0 → suc n ≤ commands 2 l
      → Ended (go C n (iteration C s)) (writes code f l w)
  running-ends [] n s w R h k = absurd (omega arith)
  running-ends (x ∷ l) n s w R h k =
      by (eqb x.byte 0 && eqb x.value 1) refl (eqb x.byte 0 && eqb x.value 2) refl h k
      (λ m u S. running-ends l m u (write code f x.byte x.value w) S)
    where
      w' : Window
      w' = write code f x.byte x.value w

      by : (i : Bool) → (eqb x.byte 0 && eqb x.value 1) ≡ i → (j : Bool) → (eqb x.byte 0 && eqb x.value 2) ≡ j
          → pick i 1 0 + commands 1 l ≡ 0 → suc n ≤ pick j 1 0 + commands 2 l
          → ((m : ℕ) (u : State) → Running m u w' → commands 1 l ≡ 0 → suc m ≤ commands 2 l → Ended (go C m (iteration C u)) (writes code f l w'))
          → Ended (go C n (iteration C s)) (writes code f l w')
      by true a j c h k next = absurd (omega arith)
      by false a false c h k next = next n s (running-alike n s w w' (other code f x.byte x.value w a c) R) (omega arith) (omega arith)
      by false a true c h k next =
          ⊎_elim (λ E. ended-stays (go C n (iteration C s)) l w' (omega arith) E)
          (λ S. rw (S.1, go_open C S.0 (iteration C s) S.2.unsettled) (next S.0 (iteration C s) S.2 (omega arith) (omega (arith, S.1))))
          (stands n s w w' R (second-write code f x.byte x.value w c ∙ iterates n s w R))

  -- the load, and what comes after it
  loaded : (r : Registers) → admitted code f b₀ ≡ good C
      → write code f 0 1 (record { registers = r; buffers = b₀ }) ≡ record { registers = entering (pick (settled C f) 2 1) 0 0 r; buffers = at C G b₀ room (start C f) }
  unfolding write command loading
  loaded r e =
      ap (λ c. taking (loading_under c f b₀) r) e
      ∙ ap (λ b. record { registers = entering (pick (settled C f) 2 1) 0 0 r; buffers = b }) (sym (start-at C G b₀ room code f line fits))

  load-ends : Bytes f → (r : Registers) (l : List Write) (w : Window) → w ≡ record { registers = entering (pick (settled C f) 2 1) 0 0 r; buffers = at C G b₀ room (start C f) }
      → commands 1 l ≡ 0 → C.limit ≤ commands 2 l → Ended (run C f) (writes code f l w)
  unfolding run
  load-ends b r l w e h k = by (settled C f) refl C.limit refl e
    where
      by : (i : Bool) → settled C f ≡ i → (n : ℕ) → C.limit ≡ n → w ≡ record { registers = entering (pick i 2 1) 0 0 r; buffers = at C G b₀ room (start C f) }
          → Ended (go C n (start C f)) (writes code f l w)
      by true a n c e =
          rw (go_found C n (start C f) a) (ended-stays (result found (start C f)) l w h (rw e record { state = refl; refusal = refl; iterations = refl; buffers = refl }))
      by false a zero c e = absurd (omega (arith, G.limit-low))
      by false a (suc n) c e =
          rw (go_open C n (start C f) a)
          (running-ends l n (start C f) w
          (rw e record {
            state = refl;
            refusal = refl;
            iterations = refl;
            buffers = refl;
            sound = record { ready = start-ready C G b₀ room code f line fits; ranged = frame-ranged C f fits b };
            unsettled = a;
            left = omega arith;
          })
          h (omega arith))

state-number : (o : Status) (t : ℕ) → state_for o ≡ get_or (2 ∷ 3 ∷ []) (outcome o t).number 0
state-number found t = refl
state-number not_found t = refl

value_is : (o : Status) (t : ℕ) → t ≡ (outcome o t).value
value_is found t = refl
value_is not_found t = refl

pub load-and-iterate : LoadAndIterate
load-and-iterate code f C w l bc bf line free no-loads enough =
    let G = parse-good code C line in
    let A = admits_of code f w.buffers C line free in
    let small : C.limit ≤ 255 = omega (arith, limit-read code C line, bc 5) in
    let e = loaded C G w.buffers A.room code f line A.fits small w.registers (admits code f w.buffers C (record { line = line; fits = A.fits }) A.room) in
    let E = load-ends C G w.buffers A.room code f line A.fits small bf w.registers l (write code f 0 1 w) e no-loads enough in
    let d = decoding-good code f w.buffers C A in
    record {
      outcome = E.state ∙ state-number (run C f).status (run C f).end.t ∙ ap (λ x. get_or (2 ∷ 3 ∷ []) x.reply.number 0) (sym d);
      no_refusal = E.refusal;
      iterations = E.iterations ∙ value_is (run C f).status (run C f).end.t ∙ ap (λ x. x.reply.value) (sym d);
      buffers = E.buffers ∙ end-at C G w.buffers A.room code f line A.fits ∙ ap (λ x. x.buffers) (sym d);
    }
