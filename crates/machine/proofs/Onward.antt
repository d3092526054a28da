-- A load that is not refused, and iterations while the state is running, are one decoding.
use mathlib.Core.Path.{◌≡◌, refl, sym, ap, ◌∙◌}
use mathlib.Core.Bool.{Bool, true, false}
use mathlib.Core.List.{List}
use Prim.Native.Nat.{ℕ, zero, suc, ◌+◌, ◌≤◌, ◌<◌}
use native.Mathlib.Omega.{arith}
use lib.Dec.{leb}
use lib.ListN.{length, get_or, length-replicate, get_or-replicate}
use borrow.Author.Tests.{leb-true, leb-false}
use Rattle.trellis.specs.Lists.{pick}
use Rattle.machine.specs.CodeLine.{good, Code, parse, frame_fault}
use Rattle.machine.specs.Machine.{none, State, last_of, start, iteration, settled, Status, found, not_found, Result, result, go, run}
use Rattle.machine.specs.Decoding.{Buffers, Room, holding, store_of}
use Rattle.machine.specs.Moments.{Moment, moment, loading_under, loading, state_for, onward, LoadThenSteps}
use Rattle.machine.specs.inner.Accepted.{GoodCode}
use Rattle.machine.proofs.Lines.{parse-good}
use Rattle.machine.proofs.Ranges.{frame-ranged}
use Rattle.machine.proofs.Lent.{held_none, held-end, ReadyState, iteration-t, go-stands}
use Rattle.machine.proofs.Buffers.{admits, accepted_call}
use Rattle.machine.proofs.Resume.{at, SoundState, iteration_sound, iterating-at}

-- what is left of a run, by its first test
pub go_open : (C : Code) (n : ℕ) (s : State) → settled C s.costs ≡ false → go C (suc n) s ≡ go C n (iteration C s)
unfolding go
go_open C n s e = rw e

pub go_found : (C : Code) (n : ℕ) (s : State) → settled C s.costs ≡ true → go C n s ≡ result found s
unfolding go
go_found C zero s e = rw e
go_found C (suc n) s e = rw e

pub go_missed : (C : Code) (s : State) → settled C s.costs ≡ false → go C 0 s ≡ result not_found s
unfolding go
go_missed C s e = rw e

module _ (C : Code) (G : GoodCode C) (b₀ : Buffers) (room : Room C b₀) (code f : List ℕ) (line : parse code ≡ good C) (fits : frame_fault C f ≡ 0) where
  -- the moment at the end of a run
  abbrev end_of : Result → Moment
  end_of r = moment (state_for r.status) 0 r.end.t (at C G b₀ room r.end)

  stays : (n : ℕ) (o : Status) (t : ℕ) (b : Buffers) → onward code f n (moment (state_for o) 0 t b) ≡ moment (state_for o) 0 t b
  unfolding onward
  stays zero o t b = refl
  stays (suc n) found t b = refl
  stays (suc n) not_found t b = refl

  -- from a state that does not satisfy every check, with n iterations left after the next
  goes_on : (k n : ℕ) (s : State) → SoundState C G b₀ room s → settled C s.costs ≡ false → s.t + suc n ≡ C.limit → suc n ≤ k
      → onward code f k (moment 1 0 s.t (at C G b₀ room s)) ≡ end_of (go C n (iteration C s))
  unfolding onward
  goes_on zero n s S e l h = absurd (omega arith)
  goes_on (suc k) n s S e l h =
      ap (onward code f k) (iterating-at C G b₀ room code f line fits s S) ∙ by (λ m u. goes_on k m u) (settled C (iteration C s).costs) refl (leb C.limit (s.t + 1)) refl
    where
      t-is : (iteration C s).t ≡ s.t + 1
      t-is = iteration-t C G b₀.store room.for_store s

      by : ((m : ℕ) (u : State) → SoundState C G b₀ room u → settled C u.costs ≡ false → u.t + suc m ≡ C.limit → suc m ≤ k
          → onward code f k (moment 1 0 u.t (at C G b₀ room u)) ≡ end_of (go C m (iteration C u)))
          → (i : Bool) → settled C (iteration C s).costs ≡ i → (j : Bool) → leb C.limit (s.t + 1) ≡ j
          → onward code f k (moment (pick i 2 (pick j 3 1)) 0 (s.t + 1) (at C G b₀ room (iteration C s))) ≡ end_of (go C n (iteration C s))
      by go-k true a j c = stays k found (s.t + 1) _ ∙ rw (go_found C n (iteration C s) a, t-is) refl
      by go-k false a true c =
          let z : n ≡ 0 = omega (arith, l, leb-true C.limit (s.t + 1) c) in
          stays k not_found (s.t + 1) _ ∙ rw (z, go_missed C (iteration C s) a, t-is) refl
      by go-k false a false c = more n l h
        where
          more : (m : ℕ) → s.t + suc m ≡ C.limit → suc m ≤ suc k
              → onward code f k (moment 1 0 (s.t + 1) (at C G b₀ room (iteration C s))) ≡ end_of (go C m (iteration C s))
          more zero g h = absurd (omega (arith, leb-false C.limit (s.t + 1) c))
          more (suc m) g h =
              rw (go_open C m (iteration C s) a, ← t-is)
              (go-k m (iteration C s) (iteration_sound C G b₀ room s S) a (omega (arith, t-is)) (omega arith))

  no_last : (m : ℕ) → m < length C.checks → last_of (start C f) m ≡ none
  no_last m h = get_or-replicate (length C.checks) m none none h

  pub start-ready : ReadyState C G b₀.store room.for_store (start C f)
  start-ready = record { kept = record { full = length-replicate (length C.checks) none; fine = λ m h. rw (no_last m h) tt }; when = no_last }

  pub start-at : at C G b₀ room (start C f) ≡ holding C f b₀.store b₀
  start-at = ap (λ s. holding C f s b₀) (held_none C G b₀.store room.for_store (start C f) no_last)

  -- the end of the run, as decoding has it
  pub end-at : at C G b₀ room (run C f).end ≡ holding C (run C f).end.costs (store_of C (run C f).end b₀.store) b₀
  unfolding run
  end-at =
      ap (λ s. holding C (run C f).end.costs s b₀)
      (held-end C G b₀.store room.for_store (run C f).end (go-stands C G b₀.store room.for_store C.limit (start C f) start-ready).1)

  pub run-onward : ((i : ℕ) → get_or f i 0 ≤ 255) → (n : ℕ) → C.limit ≤ n
      → onward code f n (moment (pick (settled C f) 2 1) 0 0 (holding C f b₀.store b₀)) ≡ end_of (run C f)
  unfolding run
  run-onward bytes n h = rw (← start-at) (by (settled C f) refl C.limit refl)
    where
      by : (i : Bool) → settled C f ≡ i → (l : ℕ) → C.limit ≡ l
          → onward code f n (moment (pick i 2 1) 0 0 (at C G b₀ room (start C f))) ≡ end_of (go C l (start C f))
      by true a l c = stays n found 0 _ ∙ rw (go_found C l (start C f) a) refl
      by false a zero c = absurd (omega (arith, G.limit-low))
      by false a (suc l) c =
          rw (go_open C l (start C f) a)
          (goes_on n l (start C f) (record { ready = start-ready; ranged = frame-ranged C f fits bytes }) a (omega arith) (omega arith))

pub load-then_steps : LoadThenSteps
unfolding loading
load-then_steps code f C b A M bytes n h =
    let G : GoodCode C = parse-good code C A.line in
    ap (λ r. onward code f n (loading_under r f b)) (admits code f b C A M)
    ∙ run-onward C G b M code f A.line A.fits bytes n h
    ∙ ap (moment (state_for (run C f).status) 0 (run C f).end.t) (end-at C G b M code f A.line A.fits ∙ sym (ap (λ x. x.buffers) (accepted_call code f b C A M)))
