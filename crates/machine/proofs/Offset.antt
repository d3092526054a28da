-- The offset of `incoming` cuts no difference off: in every update of a run each old scaled cost is at most 255, so P + 255 less it is never
-- below 0, and Q is how far a symbol's difference P - old lies above the least of them, capped at 255.
use mathlib.Core.Path.{◌≡◌, refl, sym, ap, ◌∙◌}
use mathlib.Core.List.{List}
use Prim.Native.Nat.{ℕ, zero, suc, ◌+◌, ◌-◌, ◌≤◌, ◌<◌, min}
use native.Mathlib.Omega.{arith}
use lib.ListN.{length, get_or, length-replicate, get_or-replicate}
use Rattle.trellis.specs.Lists.{upto}
use Rattle.trellis.specs.Check.{Column, column, blank, cost_at}
use Rattle.machine.specs.CodeLine.{Edge, Code, size, check, edge_at, column_of, rule}
use Rattle.machine.specs.Machine.{Last, none, made, State, last_of, columns_in, message, incoming, arriving, update, iteration, start, result, found, not_found, go, run, settled}
use Rattle.machine.specs.Decoding.{Accepts}
use Rattle.machine.proofs.Lists.{at_up_to, pick_elim}
use Rattle.machine.specs.inner.Accepted.{GoodCheck, GoodCode}
use Rattle.machine.proofs.Lines.{parse-good}
use Rattle.machine.specs.inner.InRange.{Below}
use Rattle.machine.proofs.Updates.{Fine, GoodUpdates, size-some, last-same, updates-kept, iteration-kept}
use Rattle.machine.proofs.Ranges.{below_up_to, message-small, incoming_is}

-- the state after k iterations from the start
abbrev pub after_iterations : Code → List ℕ → ℕ → State
after_iterations C f k = upto (λ i s. iteration C s) k (start C f)

-- in the iteration after these: the state before the update of check m
abbrev pub before_update : Code → List ℕ → ℕ → ℕ → State
before_update C f k m = upto (update C) m (record { costs = (after_iterations C f k).costs; last = (after_iterations C f k).last; t = (after_iterations C f k).t + 1 })

-- P, the old scaled cost ("0 if none"), and the Q of check m's update, for its column n at symbol x
abbrev pub edge_cost_in : Code → State → ℕ → ℕ → ℕ → ℕ
edge_cost_in C s m n x = get_or (column_of (size C) s.costs (edge_at (check C m) n).column) x 0

abbrev pub old_in : Code → State → ℕ → ℕ → ℕ → ℕ
old_in C s m n x = get_or (message (rule C) C.scale (last_of s m) n) x 0

abbrev pub arrives_in : Code → State → ℕ → ℕ → ℕ → ℕ
arrives_in C s m n x = cost_at (column (columns_in (last_of (update C m s) m)) n) x

-- The differences P - old may be below 0, so they are compared crosswise: one is least at the symbol y, and Q is each one less that one.
-- No `-` below is cut off at 0: raised and least say so
pub record Uncut (C : Code) (s : State) (m n : ℕ) : Type 0 where
  pub old-small : (x : ℕ) → x < size C → old_in C s m n x ≤ 255
  pub raised : (x : ℕ) → x < size C → edge_cost_in C s m n x + 255 - old_in C s m n x + old_in C s m n x ≡ edge_cost_in C s m n x + 255
  pub y : ℕ
  pub y_small : y < size C
  pub least : (x : ℕ) → x < size C → edge_cost_in C s m n y + old_in C s m n x ≤ edge_cost_in C s m n x + old_in C s m n y
  pub arrives : (x : ℕ) → x < size C → arrives_in C s m n x ≡ min 255 (edge_cost_in C s m n x + old_in C s m n y - (edge_cost_in C s m n y + old_in C s m n x))

module _ (C : Code) (G : GoodCode C) where
  message-below : (es : List Edge) → GoodCheck C.columns (size C) es → (l : Last) → Fine C es l → (n : ℕ) → n < length es → Below 255 (message (rule C) C.scale l n)
  unfolding message
  message-below es H none f n h = below_up_to 255 (size C) (λ x. 0) (λ x i. omega arith)
  message-below es H (made cs) f n h = message-small C G es H cs f n h

  kept-uncut : (s : State) → GoodUpdates C s → (m : ℕ) → m < length C.checks → (n : ℕ) → n < length (check C m) → Uncut C s m n
  unfolding arriving
  kept-uncut s K m h n l =
      let b : Below 255 (old n) = message-below (check C m) (G.each-check m h) (last_of s m) (K.fine m h) n l in
      let r = incoming_is (size C) (P n) (old n) (size-some C) b in
      record {
        old-small = λ x i. b x;
        raised = λ x i. omega (arith, b x);
        y = r.0;
        y_small = r.1;
        least = λ x i. (r.2 x i).0;
        arrives = λ x i. ap (λ c. cost_at c x) now ∙ (r.2 x i).1;
      }
    where
      P : ℕ → List ℕ
      P n = column_of (size C) s.costs (edge_at (check C m) n).column

      old : ℕ → List ℕ
      old = message (rule C) C.scale (last_of s m)

      f : ℕ → Column
      f n = record { weight = (edge_at (check C m) n).weight; costs = incoming (size C) (P n) (old n) }

      now : column (columns_in (last_of (update C m s) m)) n ≡ f n
      now = ap (λ k. column (columns_in k) n) (last-same C G s K m h) ∙ at_up_to f (length (check C m)) n blank l

  after_kept : (f : List ℕ) (k : ℕ) → GoodUpdates C (after_iterations C f k)
  after_kept f zero = record { full = length-replicate (length C.checks) none; fine = λ m h. rw (get_or-replicate (length C.checks) m none none h) tt }
  after_kept f (suc k) = (iteration-kept C G (after_iterations C f k) (after_kept f k)).0

  before-kept : (f : List ℕ) (k m : ℕ) → m ≤ length C.checks → GoodUpdates C (before_update C f k m)
  before-kept f k m h =
      let K = after_kept f k in
      (updates-kept C G (record { costs = (after_iterations C f k).costs; last = (after_iterations C f k).last; t = (after_iterations C f k).t + 1 }) (record { full = K.full; fine = K.fine }) m h).0

-- these are the states of the run: each iteration is its checks' updates, and the run ends after as many iterations as its t says
pub after_next : (C : Code) (f : List ℕ) (k : ℕ) → after_iterations C f (suc k) ≡ before_update C f k (length C.checks)
unfolding iteration
after_next C f k = refl

pub after-t : (C : Code) (f : List ℕ) (k : ℕ) → (after_iterations C f k).t ≡ k
unfolding iteration update
after-t C f zero = refl
after-t C f (suc k) = keeps (length C.checks) ∙ omega (arith, after-t C f k)
  where
    keeps : (m : ℕ) → (before_update C f k m).t ≡ (after_iterations C f k).t + 1
    keeps zero = refl
    keeps (suc m) = keeps m

pub run-after : (C : Code) (f : List ℕ) → (run C f).end ≡ after_iterations C f (run C f).end.t
unfolding run go
run-after C f = let r = ends C.limit 0 in r.1 ∙ ap (after_iterations C f) (sym (ap (λ s. s.t) r.1 ∙ after-t C f r.0))
  where
    ends : (n k : ℕ) → (j : ℕ) × ((go C n (after_iterations C f k)).end ≡ after_iterations C f j)
    ends zero k = let s = after_iterations C f k in pick_elim (λ r. (j : ℕ) × (r.end ≡ after_iterations C f j)) (settled C s.costs) (result found s) (result not_found s) (k, refl) (k, refl)
    ends (suc n) k =
        let s = after_iterations C f k in
        pick_elim (λ r. (j : ℕ) × (r.end ≡ after_iterations C f j)) (settled C s.costs) (result found s) (go C n (iteration C s)) (k, refl) (ends n (suc k))

-- every update of every iteration, for each column of the check
pub never_cut : (code f : List ℕ) (C : Code) → Accepts code f C → (k m : ℕ) → m < length C.checks → (n : ℕ) → n < length (check C m) → Uncut C (before_update C f k m) m n
never_cut code f C A k m h n l =
    let G : GoodCode C = parse-good code C A.line in
    kept-uncut C G (before_update C f k m) (before-kept C G f k m (omega arith)) m h n l
