-- A channel by its load and its iterations in its own parts is the channel of the definition: its stage, its iterations and its parts.
use mathlib.Core.Path.{◌≡◌, refl, sym, ap, ◌∙◌}
use mathlib.Core.Bool.{Bool, true, false, not, ◌||◌}
use mathlib.Core.Logic.{◌≢◌}
use mathlib.Core.List.{List, ◌++◌}
use Prim.Native.Nat.{ℕ, zero, suc, ◌+◌, ◌*◌, ◌≤◌, ◌<◌}
use native.Mathlib.Decide.{dec_lt}
use native.Mathlib.Omega.{arith}
use lib.Dec.{eqb, leb}
use lib.ListN.{length, drop, length-replicate, get_or-replicate}
use lib.Seq.{take_at}
use borrow.Author.Tests.{eq-eqb, ne_eqb, le-leb, lt-leb, eqb-true, eqb-false}
use Rattle.trellis.specs.Lists.{pick}
use Rattle.trellis.specs.Reply.{found_in, not_found_in}
use Rattle.machine.specs.CodeLine.{Code, size, frame_fault}
use Rattle.machine.specs.Machine.{none, State, last_of, start, iteration, settled, records, used, held}
use Rattle.machine.specs.Lent.{iteration_lent}
use Rattle.machine.specs.Decoding.{Buffers, holding, Room}
use Rattle.machine.specs.Moments.{Moment, moment, state_after, further, gone}
use Rattle.machine.specs.inner.Accepted.{GoodCode}
use Rattle.machine.specs.inner.InRange.{Below}
use Rattle.machine.proofs.Ranges.{frame-ranged}
use Rattle.machine.proofs.Lent.{lent_of, held_none, held-end, iteration-stands, ReadyState}
use Rattle.machine.proofs.Buffers.{holding-again}
use Rattle.machine.proofs.Resume.{at, SoundState, iteration_sound}
use Rattle.channels.specs.Channels.{after, finished, spent_in, answer, received}
use Rattle.channels.specs.inner.Rounds.{opened, next_iteration, status_of}
use Rattle.channels.proofs.Alone.{after-t, after-suc, received_is}

-- a channel's moment after j iterations, each from the parts that the one before left
unfoldable pub ran : Code → List ℕ → Buffers → ℕ → Moment
ran C f own zero = opened C f own
ran C f own (suc j) = next_iteration C j (ran C f own j).buffers

-- an accepted channel
module _ (C : Code) (G : GoodCode C) (f : List ℕ) (own : Buffers) (fits : frame_fault C f ≡ 0) (room : Room C own) (bytes : Below 255 f) where
  no_last : (m : ℕ) → m < length C.checks → last_of (start C f) m ≡ none
  no_last m h = get_or-replicate (length C.checks) m none none h

  start-ready : ReadyState C G own.store room.for_store (start C f)
  start-ready = record { kept = record { full = length-replicate (length C.checks) none; fine = λ m h. rw (no_last m h) tt }; when = no_last }

  after_first : after C f 0 ≡ start C f
  unfolding after
  after_first = refl

  after-sound : (j : ℕ) → SoundState C G own room (after C f j)
  after-sound zero = rw after_first record { ready = start-ready; ranged = frame-ranged C f fits bytes }
  after-sound (suc j) = rw (after-suc C f j) (iteration_sound C G own room (after C f j) (after-sound j))

  -- one iteration, where the parts hold a state of a run
  stepped-at : (s : State) → SoundState C G own room s
      → next_iteration C s.t (at C G own room s) ≡ moment (state_after C (s.t + 1) (iteration C s).costs) 0 (s.t + 1) (at C G own room (iteration C s))
  stepped-at s S =
      ap (λ l. gone C (s.t + 1) l (at C G own room s)) further-at
      ∙ ap (moment (state_after C (s.t + 1) (iteration C s).costs) 0 (s.t + 1))
      (holding-again C s.costs (iteration C s).costs (held C own.store s) (held C own.store (iteration C s)) own S.ranged.full)
    where
      further-at : further C s.t (at C G own room s) ≡ lent_of C own.store (iteration C s)
      further-at =
          ap (λ P. iteration_lent C (eqb s.t 0) (record { costs = P; store = held C own.store s }))
          (take_at s.costs (drop (C.columns * size C) own.costs) (C.columns * size C) S.ranged.full)
          ∙ iteration-stands C G own.store room.for_store (eqb s.t 0) s S.ready.kept S.ready.when

  -- its state after j iterations
  abbrev pub state_of : ℕ → ℕ
  state_of j = state_after C j (after C f j).costs

  pub ran_at : (j : ℕ) → ran C f own j ≡ moment (state_of j) 0 j (at C G own room (after C f j))
  unfolding ran
  ran_at zero =
      rw (fits, after_first, lt-leb C.limit 0 G.limit-low)
      (ap (λ s. moment (pick (settled C f) 2 1) 0 0 (holding C f s own)) (sym (held_none C G own.store room.for_store (start C f) no_last)))
  ran_at (suc j) =
      let s : State = after C f j in
      let e : j + 1 ≡ suc j = omega arith in
      ap (λ (m : Moment). next_iteration C j m.buffers) (ran_at j)
      ∙ ap (λ t. next_iteration C t (at C G own room s)) (sym (after-t C f j))
      ∙ stepped-at s (after-sound j)
      ∙ ap (λ t. moment (state_after C t (iteration C s).costs) 0 t (at C G own room (iteration C s))) (ap (λ t. t + 1) (after-t C f j) ∙ e)
      ∙ ap (λ s. moment (state_after C (suc j) s.costs) 0 (suc j) (at C G own room s)) (sym (after-suc C f j))

  received-at : (j : ℕ) → at C G own room (after C f j) ≡ received C f j own
  received-at j =
      ap (λ s. holding C (after C f j).costs s own)
      (held-end C G own.store room.for_store (after C f j) (after-sound j).ready
      ∙ ap (λ t. pick (eqb t 0) own.store (records C (after C f j) ++ drop (used C) own.store)) (after-t C f j))
      ∙ sym (received_is C f j own fits)

  -- what the channel's parts hold after j iterations
  pub ran_buffers : (j : ℕ) → (ran C f own j).buffers ≡ received C f j own
  ran_buffers j = ap (λ (m : Moment). m.buffers) (ran_at j) ∙ received-at j

  -- I is reached, not passed
  limit-agree : (j : ℕ) → ((i : ℕ) → i < j → finished C f i ≡ false) → leb C.limit j ≡ eqb j C.limit
  unfolding finished
  limit-agree j h = go (eqb j C.limit) refl
    where
      never : (a b : Bool) → (a || (b || true)) ≡ false → ⊥
      never true b z = let y : ◌≡◌ {A = ℕ} 0 1 = cc in omega arith
      never false true z = let y : ◌≡◌ {A = ℕ} 0 1 = cc in omega arith
      never false false z = let y : ◌≡◌ {A = ℕ} 0 1 = cc in omega arith

      at-limit : (x : ℕ) → x ≡ C.limit → finished C f x ≡ false → ⊥
      at-limit x e k = never (not (eqb (frame_fault C f) 0)) (settled C (after C f x).costs) (rw (eq-eqb x C.limit e) at k)

      low : j ≤ C.limit
      low = elim (dec_lt C.limit j) [
        | yes l ↦ absurd (at-limit C.limit refl (h C.limit l))
        | no l ↦ omega arith
      ]

      below : (x y : ℕ) → x ≤ y → (x ≡ y → ⊥) → x < y
      below x y l n = elim (dec_lt x y) [ yes i ↦ i | no i ↦ absurd (n (omega arith)) ]

      go : (b : Bool) → eqb j C.limit ≡ b → leb C.limit j ≡ b
      go true e = le-leb C.limit j (omega (arith, eqb-true j C.limit e))
      go false e = lt-leb C.limit j (below j C.limit low (eqb-false j C.limit e))

  -- whether it is finished, as long as it was not
  pub ran_ended : (j : ℕ) → ((i : ℕ) → i < j → finished C f i ≡ false) → finished C f j ≡ not (eqb (ran C f own j).stage.state 1)
  unfolding finished
  ran_ended j h =
      sym (ap (λ (m : Moment). not (eqb m.stage.state 1)) (ran_at j)
      ∙ rw fits (tests (settled C (after C f j).costs) (leb C.limit j) (eqb j C.limit) (limit-agree j h)))
    where
      tests : (a b c : Bool) → b ≡ c → not (eqb (pick a 2 (pick b 3 1)) 1) ≡ (a || c)
      tests true b c e = refl
      tests false true c e = e
      tests false false c e = e

  -- its status is its answer's
  pub ran_status : (j : ℕ) → ((i : ℕ) → i < j → finished C f i ≡ false) → status_of (ran C f own j).stage ≡ (answer C f j).number
  unfolding answer status_of
  ran_status j h =
      ap (λ (m : Moment). status_of m.stage) (ran_at j)
      ∙ rw (fits, limit-agree j h) (tests (settled C (after C f j).costs) (eqb j C.limit))
    where
      tests : (a b : Bool) → status_of (record { state = pick a 2 (pick b 3 1); number = 0 }) ≡ (pick a (found_in j) (pick b (not_found_in j) (spent_in j))).number
      tests true b = refl
      tests false true = refl
      tests false false = refl

-- a refused one
pub ran_refused : (C : Code) (f : List ℕ) (own : Buffers) → frame_fault C f ≢ 0 → ran C f own 0 ≡ moment 4 (frame_fault C f) 0 own
unfolding ran
ran_refused C f own n = rw (ne_eqb (frame_fault C f) 0 n)
