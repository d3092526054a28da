-- Where the buffers hold a state of a run, an iteration's own tests pass, and it leaves them with the machine's next state.
use mathlib.Core.Path.{◌≡◌, refl, sym, ap, ◌∙◌}
use mathlib.Core.Bool.{Bool, true, false, ◌||◌}
use mathlib.Core.List.{List, ◌++◌}
use Prim.Native.Nat.{ℕ, ◌+◌, ◌*◌, ◌≤◌, ◌<◌}
use native.Mathlib.Omega.{arith}
use lib.Dec.{eqb, leb, lt→ltb, le→leb}
use lib.ListN.{length, get_or, drop, length-take, length-drop, get_or-append}
use lib.Seq.{take_at}
use Rattle.trellis.specs.Lists.{part, all_to}
use Rattle.trellis.specs.Check.{first_zero}
use Rattle.trellis.specs.Record.{record_length, record_of, record_ok}
use Rattle.trellis.proofs.Tests.{both, all_of, of_true, to_true}
use Rattle.trellis.proofs.Form.{record_ok_lem}
use Rattle.trellis.proofs.Instances.{first-zero}
use Rattle.machine.specs.CodeLine.{good, Code, size, rule, check, column_of, zero_in, parse, frame_fault}
use Rattle.machine.specs.Machine.{Last, none, made, State, last_of, iteration, place, held, piece_of}
use Rattle.machine.specs.Lent.{iteration_lent}
use Rattle.machine.specs.inner.Accepted.{GoodCode}
use Rattle.machine.proofs.Updates.{Fine, IsMade, made_proper}
use Rattle.machine.specs.inner.InRange.{Ranged}
use Rattle.machine.proofs.Ranges.{part-front, column-room, iteration-ranged}
use Rattle.machine.proofs.Lent.{lent_of, When, length-held, held-part, iteration-stands, ReadyState, iteration-ready}
use Rattle.machine.specs.Decoding.{Buffers, holding, admitted, Room}
use Rattle.machine.proofs.Buffers.{holding-again, holding-room, admits}
use Rattle.machine.specs.Moments.{moment, costs_ok, store_ok, resumable, further, state_after, gone, iterating_under, iterating}

-- costs in range pass the test, whatever follows them
pub costs_pass : (C : Code) (P rest : List ℕ) → Ranged C P → costs_ok C (P ++ rest) ≡ true
unfolding costs_ok
costs_pass C P rest R =
    to_true (both (all_to (λ i. leb (get_or (P ++ rest) i 0) 510) (C.columns * size C)) (all_to (zero_in (size C) (P ++ rest)) C.columns)
    (all_of _ (C.columns * size C) (λ i h. le→leb (get_or (P ++ rest) i 0) 510 (rw (get_or-append P rest 0 i (omega (arith, R.full))) (R.small i))))
    (all_of _ C.columns (λ c h.
    let r : c * size C + size C ≤ length P = omega (arith, R.full, column-room c C.columns (size C) h) in
    let k : length (column_of (size C) P c) ≡ size C = simp (length-take, length-drop) (omega arith) in
    lt→ltb (first_zero (column_of (size C) (P ++ rest) c)) (size C) (rw (part-front P rest (c * size C) (size C) r) (omega (arith, (first-zero (R.has_zero c h)).0))))))

module _ (C : Code) (G : GoodCode C) (b₀ : Buffers) (room : Room C b₀) where
  -- the buffers that hold a state, after others held b₀
  abbrev pub at : State → Buffers
  at s = holding C s.costs (held C b₀.store s) b₀

  pub record SoundState (s : State) : Type 0 where
    pub ready : ReadyState C G b₀.store room.for_store s
    pub ranged : Ranged C s.costs

  pub iteration_sound : (s : State) → SoundState s → SoundState (iteration C s)
  iteration_sound s S = record { ready = iteration-ready C G b₀.store room.for_store s S.ready; ranged = iteration-ranged C G s S.ranged }

  piece_ok : (m : ℕ) → m < length C.checks → (l : Last) → Fine C (check C m) l → IsMade l → record_ok (rule C) (length (check C m)) (piece_of C b₀.store m l) ≡ true
  piece_ok m h none f i = absurd i
  piece_ok m h (made cs) f i =
      ap (λ d. record_ok (rule C) d (record_of (rule C) cs)) (sym f.count) ∙ record_ok_lem (rule C) cs (made_proper C G (check C m) (G.each-check m h) cs f)

  pub store_pass : (s : State) → SoundState s → (eqb s.t 0 || store_ok C (held C b₀.store s)) ≡ true
  unfolding store_ok
  store_pass s S = go (eqb s.t 0) S.ready.when
    where
      go : (b : Bool) → ((m : ℕ) → m < length C.checks → When C b (last_of s m)) → (b || store_ok C (held C b₀.store s)) ≡ true
      go true w = refl
      go false w =
          to_true (all_of _ (length C.checks) (λ m h.
          of_true {b = record_ok (rule C) (length (check C m)) (part (held C b₀.store s) (place C m) (record_length (rule C) (length (check C m))))}
          (rw (held-part C G b₀.store room.for_store s S.ready.kept m h) (piece_ok m h (last_of s m) (S.ready.kept.fine m h) (w m h)))))

  module _ (code f : List ℕ) (line : parse code ≡ good C) (fits : frame_fault C f ≡ 0) where
    pub admitted-at : (s : State) → SoundState s → admitted code f (at s) ≡ good C
    admitted-at s S =
        admits code f (at s) C (record { line = line; fits = fits })
        (holding-room C s.costs (held C b₀.store s) b₀ room S.ranged.full (length-held C G b₀.store room.for_store s S.ready.kept))

    pub resumable-at : (s : State) → SoundState s → resumable code f s.t (at s) ≡ good C
    unfolding resumable
    resumable-at s S =
        rw (admitted-at s S, costs_pass C s.costs (drop (C.columns * size C) b₀.costs) S.ranged, store_pass s S)

    pub further-at : (s : State) → SoundState s → further C s.t (at s) ≡ lent_of C b₀.store (iteration C s)
    further-at s S =
        ap (λ P. iteration_lent C (eqb s.t 0) (record { costs = P; store = held C b₀.store s }))
        (take_at s.costs (drop (C.columns * size C) b₀.costs) (C.columns * size C) S.ranged.full)
        ∙ iteration-stands C G b₀.store room.for_store (eqb s.t 0) s S.ready.kept S.ready.when

    -- one iteration
    pub iterating-at : (s : State) → SoundState s → iterating code f s.t (at s) ≡ moment (state_after C (s.t + 1) (iteration C s).costs) 0 (s.t + 1) (at (iteration C s))
    unfolding iterating
    iterating-at s S =
        ap (λ c. iterating_under c s.t (at s)) (resumable-at s S)
        ∙ ap (λ l. gone C (s.t + 1) l (at s)) (further-at s S)
        ∙ ap (moment (state_after C (s.t + 1) (iteration C s).costs) 0 (s.t + 1))
        (holding-again C s.costs (iteration C s).costs (held C b₀.store s) (held C b₀.store (iteration C s)) b₀ S.ranged.full)
