-- The struct's channels one by one, as the rounds see them.
use mathlib.Core.Path.{◌≡◌, refl, sym, ap, subst, ◌∙◌}
use mathlib.Core.List.{List, map}
use Prim.Native.Nat.{ℕ, ◌+◌, ◌-◌, ◌≤◌, ◌<◌}
use native.Mathlib.Omega.{arith}
use lib.ListN.{get_or, set, get_or-map}
use lib.Seq.{map-set, map-set_same}
use mathlib.Core.Bool.{true, false}
use lib.Dec.{eqb}
use borrow.Author.Tests.{eqb-true, eqb-false}
use Rattle.machine.specs.CodeLine.{Code}
use Rattle.machine.specs.Decoding.{Buffers, lending}
use Rattle.channels.specs.declared.layout.Layout.{Layout}
use Rattle.channels.specs.declared.standing.Channel.{Channel}
use Rattle.channels.specs.declared.standing.Channels.{Channels}
use Rattle.channels.specs.declared.standing.Status.{Status}
use Rattle.channels.specs.declared.standing.Status.TheVariants.{Absent}
use Rattle.channels.specs.inner.Statuses.{status_number}
use Rattle.channels.specs.inner.Rounds.{Standing, standing, loaded_to, rounds_at, status_at, count_at, load_at, step_at, loaded_at, serving_at}
use Rattle.channels.specs.inner.Standing.{standing_of, ChannelLoans}
use Rattle.channels.specs.inner.Layouts.{Puts, RoundRoom, NextRoom, run_at}
use Rattle.channels.proofs.Quiet.{rounds_left}
use Rattle.channels.proofs.Loads.{loaded_left}
use Rattle.channels.proofs.Moves.{serve_skips, serve_spent, serve_moves, load_moves, step_room}

abbrev pub none : Channel
none = record { status = Absent; iterations = 0 }

abbrev pub statuses : List Channel → List ℕ
statuses l = map (λ (c : Channel). status_number c.status) l

abbrev pub counts : List Channel → List ℕ
counts l = map (λ (c : Channel). c.iterations) l

pub same_loans : (s t u : Channels) → ChannelLoans s t → ChannelLoans t u → ChannelLoans s u
same_loans s t u E F = record { symbols = F.symbols ∙ E.symbols; costs = F.costs ∙ E.costs; store = F.store ∙ E.store; margins = F.margins ∙ E.margins }

module _ (s : Channels) (c : ℕ) where
  abbrev pub one : Channel
  one = get_or s.each c none

  pub status_is : status_at (standing_of s) c ≡ status_number one.status
  status_is = get_or-map (λ (c : Channel). status_number c.status) s.each c none

  pub count_is : count_at (standing_of s) c ≡ one.iterations
  count_is = get_or-map (λ (c : Channel). c.iterations) s.each c none

  abbrev pub lent : Buffers
  lent = lending s.symbols.now s.costs.now s.store.now s.margins.now

  module _ (C : Code) where
    pub each_skips : eqb (status_number one.status) 20 ≡ false → standing_of s ≡ serving_at C c (standing_of s)
    each_skips h = serve_skips C c (standing_of s) (λ e. eqb-false _ _ h (sym status_is ∙ e))

    pub each_spent : eqb (status_number one.status) 20 ≡ true → s.left ≡ 0 → standing_of s ≡ serving_at C c (standing_of s)
    each_spent h e = serve_spent C c (standing_of s) (status_is ∙ eqb-true _ _ h) e

    pub each_moves : eqb (status_number one.status) 20 ≡ true → (s.left ≡ 0 → ⊥) → (r : Status) (k : ℕ) → status_number r ≡ k → (b : Buffers) → Puts C c lent (step_at C c one.iterations lent) k b
        → standing (statuses (set s.each c (record { status = r; iterations = one.iterations + 1 })))
        (counts (set s.each c (record { status = r; iterations = one.iterations + 1 }))) (s.left - 1) b ≡ serving_at C c (standing_of s)
    each_moves h e r k i b P =
        let x : Channel = record { status = r; iterations = one.iterations + 1 } in
        rw (map-set (λ (c : Channel). status_number c.status) s.each c x, map-set (λ (c : Channel). c.iterations) s.each c x, ← count_is)
        (serve_moves C c (standing_of s) (status_is ∙ eqb-true _ _ h) e (status_number r) b (subst (λ t. Puts C c lent (step_at C c t lent) (status_number r) b) (sym count_is) (subst (λ k. Puts C c lent (step_at C c one.iterations lent) k b) (sym i) P)))

    pub each_loads : (fs : List ℕ) (r : Status) (k : ℕ) → status_number r ≡ k → (b : Buffers) → Puts C c lent (load_at C fs c lent) k b
        → standing (statuses (set s.each c (record { status = r; iterations = one.iterations })))
        (counts (set s.each c (record { status = r; iterations = one.iterations }))) s.left b ≡ loaded_at C fs c (standing_of s)
    each_loads fs r k i b P =
        let x : Channel = record { status = r; iterations = one.iterations } in
        rw (map-set (λ (c : Channel). status_number c.status) s.each c x, map-set_same (λ (c : Channel). c.iterations) s.each c x none refl)
        (load_moves C c (standing_of s) fs (status_number r) b (subst (λ k. Puts C c lent (load_at C fs c lent) k b) (sym i) P))

-- what an iteration of a running channel asks
pub each_asks : (s : Channels) (c n : ℕ) (z : Layout) (A S : List ℕ) → RoundRoom n z (standing_of s) A S → c < n → eqb (status_number (one s c).status) 20 ≡ true
    → NextRoom c (one s c).iterations z (lent s c) A S
each_asks s c n z A S R h e =
    subst (λ t. NextRoom c t z (lent s c) A S) (count_is s c) (step_room n z (standing_of s) A S R c h (status_is s c ∙ eqb-true _ _ e))

-- the loads, then the rounds
pub ran : (C : Code) (fs : List ℕ) (n : ℕ) (l l₁ l₂ : Standing) → l₁ ≡ loaded_to C fs n l → l₂ ≡ rounds_at C n l₁.left l₁ → l₂ ≡ run_at C fs n l
ran C fs n l l₁ l₂ e f = f ∙ ap (λ (x : Standing). rounds_at C n x.left x) e ∙ ap (λ k. rounds_at C n k (loaded_to C fs n l)) (loaded_left C fs n l)

pub ran_left : (C : Code) (fs : List ℕ) (n : ℕ) (l : Standing) → (run_at C fs n l).left ≤ l.left
ran_left C fs n l = omega (arith, rounds_left C n l.left (loaded_to C fs n l), loaded_left C fs n l)
