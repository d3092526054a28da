-- The machine over the lent buffers is the machine.
use mathlib.Core.Path.{◌≡◌, refl, sym, ap, ap₂, ◌∙◌}
use mathlib.Core.Bool.{Bool, true, false}
use mathlib.Core.Logic.{◌≢◌}
use mathlib.Core.List.{List, ◌++◌, append_assoc}
use Prim.Native.Nat.{ℕ, zero, suc, ◌+◌, ◌*◌, ◌≤◌, ◌<◌}
use native.Mathlib.Nat.{not-suc-le-zero}
use native.Mathlib.Decide.{ℕ_discrete}
use native.Mathlib.Omega.{arith}
use lib.Dec.{eqb}
use lib.ListN.{length, take, drop, length-take, length-drop, length-replicate, get_or-replicate, take-append-drop, length-append}
use lib.Seq.{take_at, drop_at, take-add}
use borrow.Author.Tests.{ne_eqb}
use Rattle.trellis.specs.Lists.{pick, upto, part, patch, blocks}
use Rattle.trellis.specs.Check.{Column, column}
use Rattle.trellis.specs.Record.{record_length, record_of}
use Rattle.machine.specs.CodeLine.{Edge, Code, size, rule, check, edge_at}
use Rattle.machine.specs.Machine.{Last, none, made, State, last_of, scaled, message, arriving, outgoing, spread, update, iteration, start, Result, result, go, run, settled, found, not_found, place, used, record_in, records, piece_of, held}
use Rattle.machine.specs.Lent.{Lent, weights_of, message_lent, arriving_lent, costs_lent, record_lent, update_lent, iteration_lent, Ended, ended, go_lent}
use Rattle.trellis.proofs.Lists.{of_up_to}
use Rattle.trellis.proofs.Places.{map_ext}
use Rattle.trellis.proofs.Records.{expand_record}
use Rattle.trellis.proofs.Form.{record_length_lem}
use Rattle.trellis.proofs.Loops.{length-blocks, blocks_ext}
use Rattle.machine.specs.inner.Accepted.{GoodCheck, GoodCode}
use Rattle.machine.proofs.Updates.{Made, made_proper, arriving-made, Fine, IsMade, GoodUpdates, MadeTo, updates-kept, last-same, last-other, iteration-kept}

-- blocks: one of them, and one of them replaced
blocks_split : (f : ℕ → List ℕ) (n : ℕ) (r : List ℕ) (m : ℕ) → m < n → (t : List ℕ) × (blocks f n ++ r ≡ blocks f m ++ (f m ++ t))
    × ((g : ℕ → List ℕ) → ((k : ℕ) → k < n → k ≢ m → g k ≡ f k) → blocks g n ++ r ≡ blocks f m ++ (g m ++ t))
blocks_split f zero r m h = absurd (not-suc-le-zero h)
blocks_split f (suc n) r m h =
    elim (ℕ_discrete m n) [
      | yes e ↦ (r, rw e (append_assoc (blocks f n) (f n) r), λ g k. rw (e, append_assoc (blocks g n) (g n) r) (ap (λ b. b ++ (g n ++ r)) (blocks_ext g f n (λ j i. k j (omega arith) (omega arith)))))
      | no e ↦
          let s = blocks_split f n (f n ++ r) m (omega arith) in (
            s.0,
            append_assoc (blocks f n) (f n) r ∙ s.1,
            λ g k. append_assoc (blocks g n) (g n) r ∙ ap (λ b. blocks g n ++ (b ++ r)) (k n (omega arith) (omega arith)) ∙ s.2 g (λ j i. k j (omega arith)),
          )
    ]

part_at : (x y t : List ℕ) (a n : ℕ) → length x ≡ a → length y ≡ n → part (x ++ (y ++ t)) a n ≡ y
part_at x y t a n e k = rw (drop_at x (y ++ t) a e) (take_at y t n k)

patch-at : (x y t s : List ℕ) (a n : ℕ) → length x ≡ a → length y ≡ n → patch (x ++ (y ++ t)) a n s ≡ x ++ (s ++ t)
patch-at x y t s a n e k = rw (take_at x (y ++ t) a e, drop_at x (y ++ t) a e, drop_at y t n k)

pub arriving_ext : (p : ℕ) (es : List Edge) (f g : ℕ → List ℕ) (P : List ℕ) → ((n : ℕ) → n < length es → f n ≡ g n) → arriving p es f P ≡ arriving p es g P
unfolding arriving
arriving_ext p es f g P h = map_ext (λ n i. rw (h n (of_up_to i)))

pub spread_ext : (p : ℕ) (es : List Edge) (cs : List Column) (f g : ℕ → List ℕ) (P : List ℕ) → ((n : ℕ) → n < length es → f n ≡ g n) → spread p es cs f P ≡ spread p es cs g P
unfolding spread
spread_ext p es cs f g P h = upto_ext (length es) (put f) (put g) P (λ n i Q. rw (h n i))
  where
    put : (ℕ → List ℕ) → ℕ → List ℕ → List ℕ
    put k n Q = patch Q ((edge_at es n).column * p) p (outgoing p (column cs n).costs (k n))

    upto_ext : (k : ℕ) (a b : ℕ → List ℕ → List ℕ) (P : List ℕ) → ((n : ℕ) → n < k → (Q : List ℕ) → a n Q ≡ b n Q) → upto a k P ≡ upto b k P
    upto_ext zero a b P h = refl
    upto_ext (suc k) a b P h = h k (omega arith) (upto a k P) ∙ ap (b k) (upto_ext k a b P (λ n i. h n (omega arith)))

module _ (C : Code) where
  abbrev pub len : ℕ → ℕ
  len m = record_length (rule C) (length (check C m))

  pub place-suc : (m : ℕ) → place C (suc m) ≡ place C m + len m
  unfolding place
  place-suc m = refl

  pub place_mono : (m n : ℕ) → m ≤ n → place C m ≤ place C n
  place_mono m zero h = let e : m ≡ 0 = omega arith in rw e (omega arith)
  place_mono m (suc n) h =
      elim (ℕ_discrete m (suc n)) [
        | yes e ↦ rw e (omega arith)
        | no e ↦ omega (arith, place_mono m n (omega arith), place-suc n)
      ]

  abbrev pub lent_of : List ℕ → State → Lent
  lent_of s₀ s = record { costs = s.costs; store = held C s₀ s }

  -- in the first iteration no check has a record, later each has
  abbrev pub When : Bool → Last → Type 0
  When true l = l ≡ none
  When false l = IsMade l

module _ (C : Code) (G : GoodCode C) (s₀ : List ℕ) (room : used C ≤ length s₀) where
  length-piece : (m : ℕ) → m < length C.checks → (l : Last) → Fine C (check C m) l → length (piece_of C s₀ m l) ≡ len C m
  length-piece m h none f =
      let k : place C m + len C m ≤ length s₀ = omega (arith, place-suc C m, place_mono C (suc m) (length C.checks) h) in
      simp (length-take, length-drop) (omega arith)
  length-piece m h (made cs) f =
      record_length_lem (rule C) cs (made_proper C G (check C m) (G.each-check m h) cs f) ∙ ap (record_length (rule C)) f.count

  module _ (s : State) (K : GoodUpdates C s) where
    length_front : (m : ℕ) → m ≤ length C.checks → length (blocks (λ m. piece_of C s₀ m (last_of s m)) m) ≡ place C m
    unfolding place
    length_front m h = length-blocks (λ m. piece_of C s₀ m (last_of s m)) (len C) m (λ k i. length-piece k (omega arith) (last_of s k) (K.fine k (omega arith)))

    pub length-held : length (held C s₀ s) ≡ length s₀
    unfolding held
    length-held = simp (length-append, length-drop) (omega (arith, length_front (length C.checks) (omega arith)))

    module _ (m : ℕ) (h : m < length C.checks) where
      pub held-part : part (held C s₀ s) (place C m) (len C m) ≡ piece_of C s₀ m (last_of s m)
      unfolding held
      held-part =
          let b = blocks_split (λ m. piece_of C s₀ m (last_of s m)) (length C.checks) (drop (used C) s₀) m h in
          rw b.1 (part_at (blocks (λ m. piece_of C s₀ m (last_of s m)) m) _ b.0 _ _ (length_front m (omega arith)) (length-piece m h (last_of s m) (K.fine m h)))

      pub held_update : (s' : State) (cs : List Column) → last_of s' m ≡ made cs → ((k : ℕ) → k ≢ m → last_of s' k ≡ last_of s k)
          → held C s₀ s' ≡ patch (held C s₀ s) (place C m) (len C m) (record_of (rule C) cs)
      unfolding held
      held_update s' cs e o =
          let b = blocks_split (λ m. piece_of C s₀ m (last_of s m)) (length C.checks) (drop (used C) s₀) m h in
          let x : piece_of C s₀ m (last_of s' m) ≡ record_of (rule C) cs = ap (piece_of C s₀ m) e in
          b.2 (λ m. piece_of C s₀ m (last_of s' m)) (λ k i n. ap (piece_of C s₀ k) (o k n))
          ∙ ap (λ y. blocks (λ m. piece_of C s₀ m (last_of s m)) m ++ (y ++ b.0)) x
          ∙ sym (ap (λ y. patch y (place C m) (len C m) (record_of (rule C) cs)) b.1
          ∙ patch-at (blocks (λ m. piece_of C s₀ m (last_of s m)) m) (piece_of C s₀ m (last_of s m)) b.0 (record_of (rule C) cs) _ _ (length_front m (omega arith)) (length-piece m h (last_of s m) (K.fine m h)))

  -- what a record's expansion says is what its columns were sent
  pub message-made : (es : List Edge) → GoodCheck C.columns (size C) es → (cs : List Column) → Made C es cs → (n : ℕ) → n < length es
      → message_lent (rule C) C.scale false (weights_of es) (record_of (rule C) cs) n ≡ message (rule C) C.scale (made cs) n
  unfolding message_lent message
  message-made es H cs M n h =
      rw (← M.same) (map_ext (λ x i. ap (scaled C.scale) (expand_record (rule C) cs (made_proper C G es H cs M) n x (omega (arith, M.count)) (of_up_to i))))

  message-lent : (es : List Edge) → GoodCheck C.columns (size C) es → (start : Bool) (m : ℕ) (l : Last) → Fine C es l → When C start l → (n : ℕ) → n < length es
      → message_lent (rule C) C.scale start (weights_of es) (piece_of C s₀ m l) n ≡ message (rule C) C.scale l n
  unfolding message_lent message
  message-lent es H true m none f w n h = refl
  message-lent es H true m (made cs) f w n h = let z : ◌≡◌ {A = ℕ} 0 1 = cc in absurd (omega arith)
  message-lent es H false m none f w n h = absurd w
  message-lent es H false m (made cs) f w n h = message-made es H cs f n h

  pub update-stands : (start : Bool) (s : State) → GoodUpdates C s → (m : ℕ) → m < length C.checks → When C start (last_of s m)
      → update_lent C start m (lent_of C s₀ s) ≡ lent_of C s₀ (update C m s)
  unfolding update_lent costs_lent record_lent update
  update-stands start s K m h w =
      ap₂ (λ a b. record { costs = a; store = b })
      (ap (λ cs. spread (size C) es cs (message_lent (rule C) C.scale false (weights_of es) (record_of (rule C) cs)) s.costs) same
      ∙ spread_ext (size C) es now _ _ s.costs (message-made es H now M))
      (ap (λ cs. patch (held C s₀ s) (place C m) (len C m) (record_of (rule C) cs)) same ∙ sym (held_update s K m h (update C m s) now (last-same C G s K m h) (last-other C G s K m h)))
    where
      es : List Edge
      es = check C m

      H : GoodCheck C.columns (size C) es
      H = G.each-check m h

      now : List Column
      now = arriving (size C) es (message (rule C) C.scale (last_of s m)) s.costs

      M : Made C es now
      M = arriving-made C es H _ s.costs

      same : arriving_lent (rule C) C.scale start es (part (held C s₀ s) (place C m) (len C m)) s.costs ≡ now
      same =
          rw (held-part s K m h)
          (arriving_ext (size C) es _ _ s.costs (message-lent es H start m (last_of s m) (K.fine m h) w))

  -- the checks from k on are as they were
  pub untouched : (s : State) → GoodUpdates C s → (k : ℕ) → k ≤ length C.checks → (j : ℕ) → k ≤ j → last_of (upto (update C) k s) j ≡ last_of s j
  untouched s K zero h j i = refl
  untouched s K (suc k) h j i =
      last-other C G (upto (update C) k s) (updates-kept C G s K k (omega arith)).0 k h j (omega arith) ∙ untouched s K k (omega arith) j (omega arith)

  pub updates_stand : (start : Bool) (s : State) → GoodUpdates C s → ((m : ℕ) → m < length C.checks → When C start (last_of s m)) → (k : ℕ) → k ≤ length C.checks
      → upto (update_lent C start) k (lent_of C s₀ s) ≡ lent_of C s₀ (upto (update C) k s)
  updates_stand start s K w zero h = refl
  updates_stand start s K w (suc k) h =
      ap (update_lent C start k) (updates_stand start s K w k (omega arith))
      ∙ update-stands start (upto (update C) k s) (updates-kept C G s K k (omega arith)).0 k h (rw (untouched s K k (omega arith) k (omega arith)) (w k h))

  pub iteration-stands : (start : Bool) (s : State) → GoodUpdates C s → ((m : ℕ) → m < length C.checks → When C start (last_of s m))
      → iteration_lent C start (lent_of C s₀ s) ≡ lent_of C s₀ (iteration C s)
  unfolding iteration_lent iteration held
  iteration-stands start s K w = updates_stand start (record { costs = s.costs; last = s.last; t = s.t + 1 }) (record { full = K.full; fine = K.fine }) w (length C.checks) (omega arith)

  pub iteration-t : (s : State) → (iteration C s).t ≡ s.t + 1
  unfolding iteration update
  iteration-t s = keeps (record { costs = s.costs; last = s.last; t = s.t + 1 }) (length C.checks)
    where
      keeps : (s : State) (k : ℕ) → (upto (update C) k s).t ≡ s.t
      keeps s zero = refl
      keeps s (suc k) = keeps s k

  -- a state of a run, with the records that its t says
  pub record ReadyState (s : State) : Type 0 where
    pub kept : GoodUpdates C s
    pub when : (m : ℕ) → m < length C.checks → When C (eqb s.t 0) (last_of s m)

  pub iteration-ready : (s : State) → ReadyState s → ReadyState (iteration C s)
  iteration-ready s R =
      let r = iteration-kept C G s R.kept in
      let e : eqb (iteration C s).t 0 ≡ false = ne_eqb (iteration C s).t 0 (λ (z : (iteration C s).t ≡ 0). omega (arith, iteration-t s)) in
      record { kept = r.0; when = λ m h. rw e (r.1 m h) }

  abbrev ended_of : Result → Ended
  ended_of r = ended r.status r.end.t (lent_of C s₀ r.end)

  -- the buffers' run is the machine's
  pub go-stands : (n : ℕ) (s : State) → ReadyState s → (go_lent C n s.t (lent_of C s₀ s) ≡ ended_of (go C n s)) × ReadyState (go C n s).end
  unfolding go_lent go
  go-stands zero s R = at (settled C s.costs)
    where
      at : (b : Bool) → (pick b (ended found s.t (lent_of C s₀ s)) (ended not_found s.t (lent_of C s₀ s)) ≡ ended_of (pick b (result found s) (result not_found s)))
          × ReadyState (pick b (result found s) (result not_found s)).end
      at true = (refl, R)
      at false = (refl, R)
  go-stands (suc n) s R = at (settled C s.costs) (go-stands n (iteration C s) (iteration-ready s R))
    where
      step : go_lent C n (s.t + 1) (iteration_lent C (eqb s.t 0) (lent_of C s₀ s)) ≡ go_lent C n (iteration C s).t (lent_of C s₀ (iteration C s))
      step = ap₂ (go_lent C n) (sym (iteration-t s)) (iteration-stands (eqb s.t 0) s R.kept R.when)

      at : (b : Bool) → (go_lent C n (iteration C s).t (lent_of C s₀ (iteration C s)) ≡ ended_of (go C n (iteration C s))) × ReadyState (go C n (iteration C s)).end
          → (pick b (ended found s.t (lent_of C s₀ s)) (go_lent C n (s.t + 1) (iteration_lent C (eqb s.t 0) (lent_of C s₀ s))) ≡ ended_of (pick b (result found s) (go C n (iteration C s))))
          × ReadyState (pick b (result found s) (go C n (iteration C s))).end
      at true i = (refl, R)
      at false i = (step ∙ i.0, i.1)

  -- with no record the store is as it was; with all of them it starts with the records
  pub held_none : (s : State) → ((m : ℕ) → m < length C.checks → last_of s m ≡ none) → held C s₀ s ≡ s₀
  unfolding held place
  held_none s h = ap (λ b. b ++ drop (used C) s₀) (front (length C.checks) (omega arith)) ∙ take-append-drop (used C) s₀
    where
      front : (k : ℕ) → k ≤ length C.checks → blocks (λ m. piece_of C s₀ m (last_of s m)) k ≡ take (place C k) s₀
      front zero i = refl
      front (suc k) i = rw (front k (omega arith), h k i) (sym (take-add (place C k) (len C k) s₀))

  held_all_lem : (s : State) → MadeTo (length C.checks) s → held C s₀ s ≡ records C s ++ drop (used C) s₀
  unfolding held records
  held_all_lem s h = ap (λ b. b ++ drop (used C) s₀) (blocks_ext _ _ (length C.checks) (λ m i. same m (last_of s m) (h m i)))
    where
      same : (m : ℕ) (l : Last) → IsMade l → piece_of C s₀ m l ≡ record_in C l
      same m none i = absurd i
      same m (made cs) i = refl

  pub held-end : (s : State) → ReadyState s → held C s₀ s ≡ pick (eqb s.t 0) s₀ (records C s ++ drop (used C) s₀)
  held-end s R = at (eqb s.t 0) R.when
    where
      at : (b : Bool) → ((m : ℕ) → m < length C.checks → When C b (last_of s m)) → held C s₀ s ≡ pick b s₀ (records C s ++ drop (used C) s₀)
      at true w = held_none s w
      at false w = held_all_lem s w

  -- the run over the buffers: the frame in the cost buffer, any store
  pub run-stands : (f : List ℕ)
      → go_lent C C.limit 0 (record { costs = f; store = s₀ })
      ≡ ended (run C f).status (run C f).end.t (record { costs = (run C f).end.costs; store = pick (eqb (run C f).end.t 0) s₀ (records C (run C f).end ++ drop (used C) s₀) })
  unfolding run
  run-stands f =
      let no : (m : ℕ) → m < length C.checks → last_of (start C f) m ≡ none = λ m h. get_or-replicate (length C.checks) m none none h in
      let R : ReadyState (start C f) = record { kept = record { full = length-replicate (length C.checks) none; fine = λ m h. rw (no m h) tt }; when = no } in
      let g = go-stands C.limit (start C f) R in
      ap (λ l. go_lent C C.limit 0 (record { costs = f; store = l })) (sym (held_none (start C f) no))
      ∙ g.0
      ∙ ap (λ l. ended (run C f).status (run C f).end.t (record { costs = (run C f).end.costs; store = l })) (held-end (go C C.limit (start C f)).end g.1)
