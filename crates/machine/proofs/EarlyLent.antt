-- Stopping inside an iteration over the lent buffers is the machine's; what each update finds there.
use mathlib.Core.Path.{◌≡◌, refl, sym, ap, ap₂, ◌∙◌}
use mathlib.Core.Bool.{Bool, true, false}
use mathlib.Core.List.{List}
use Prim.Native.Nat.{ℕ, zero, suc, ◌+◌, ◌%◌, ◌≤◌, ◌<◌}
use native.Mathlib.Nat.{mod-eq_of_lt}
use native.Mathlib.Decide.{dec_lt}
use native.Mathlib.Omega.{arith}
use lib.Dec.{ltb}
use lib.ListN.{length, get_or-replicate}
use borrow.Author.Tests.{le-ltb, lt-ltb}
use Rattle.trellis.specs.Lists.{pick}
use Rattle.machine.specs.CodeLine.{Code, frame_fault}
use Rattle.machine.specs.Machine.{none, last_of, start, found, not_found, used, held}
use Rattle.machine.specs.Lent.{Lent, Ended, ended}
use Rattle.machine.specs.inner.LentEarly.{next_lent, stop_lent}
use Rattle.machine.specs.Early.{moment_after, test_after, first_from, most_updates, updates, state_early, status_early}
use Rattle.machine.specs.inner.Accepted.{GoodCode}
use Rattle.machine.specs.inner.InRange.{Below, Ranged}
use Rattle.machine.proofs.Ranges.{update-ranged, frame-ranged}
use Rattle.machine.proofs.Lent.{lent_of, When, held_none, update-stands}
use Rattle.machine.proofs.Early.{moment-suc, moment-start}
use Rattle.machine.proofs.EarlyStores.{update-small, moment-kept, none_yet, made_then}

module _ (C : Code) (G : GoodCode C) (s₀ : List ℕ) (room : used C ≤ length s₀) (f : List ℕ) where
  -- the buffers after u updates
  pub lent_after : ℕ → Lent
  lent_after u = lent_of C s₀ (moment_after C f u)

  -- the record that update u finds: none in the first M of them
  pub when_next : (u : ℕ) → When C (ltb u (length C.checks)) (last_of (moment_after C f u) (u % length C.checks))
  when_next u =
      elim (dec_lt u (length C.checks)) [
        | yes h ↦ rw (lt-ltb u (length C.checks) h) (none_yet C G f u (u % length C.checks) (update-small C G f u) (omega (arith, mod-eq_of_lt h)))
        | no h ↦ rw (le-ltb u (length C.checks) (omega arith)) (made_then C G f u (u % length C.checks) (update-small C G f u) (omega (arith, update-small C G f u)))
      ]

  -- one update
  pub lent-suc : (u : ℕ) → next_lent C u (lent_after u) ≡ lent_after (suc u)
  unfolding lent_after
  lent-suc u =
      update-stands C G s₀ room (ltb u (length C.checks)) (moment_after C f u) (moment-kept C G f u) (u % length C.checks) (update-small C G f u) (when_next u)
      ∙ ap (lent_of C s₀) (sym (moment-suc C f u))

  -- at the start the frame and the store as it was
  pub lent-start : lent_after 0 ≡ record { costs = f; store = s₀ }
  unfolding lent_after
  lent-start =
      let no : (m : ℕ) → m < length C.checks → last_of (start C f) m ≡ none = λ m h. get_or-replicate (length C.checks) m none none h in
      ap (lent_of C s₀) (moment-start C f) ∙ ap (λ l. record { costs = f; store = l }) (held_none C G s₀ room (start C f) no)

  -- a run that ends after v updates
  abbrev ending_at : ℕ → Ended
  ending_at v = ended (pick (test_after C f v) found not_found) v (lent_after v)

  pub stop_stands : (n u : ℕ) → stop_lent C n u (lent_after u) ≡ ending_at (first_from (test_after C f) n u)
  unfolding stop_lent lent_after
  stop_stands zero u = by (test_after C f u)
    where
      by : (b : Bool) → pick b (ended found u (lent_after u)) (ended not_found u (lent_after u)) ≡ ended (pick b found not_found) u (lent_after u)
      by true = refl
      by false = refl
  stop_stands (suc n) u = by (test_after C f u) refl (stop_stands n (suc u))
    where
      next : stop_lent C n (u + 1) (next_lent C u (lent_after u)) ≡ stop_lent C n (suc u) (lent_after (suc u))
      next = let e : u + 1 ≡ suc u = omega arith in ap₂ (stop_lent C n) e (lent-suc u)

      by : (b : Bool) → test_after C f u ≡ b → stop_lent C n (suc u) (lent_after (suc u)) ≡ ending_at (first_from (test_after C f) n (suc u))
          → pick b (ended found u (lent_after u)) (stop_lent C n (u + 1) (next_lent C u (lent_after u))) ≡ ending_at (pick b u (first_from (test_after C f) n (suc u)))
      by true e i = ap (λ b. ended (pick b found not_found) u (lent_after u)) (sym e)
      by false e i = next ∙ i

  -- the whole run
  pub early_stands : stop_lent C (most_updates C) 0 (record { costs = f; store = s₀ })
      ≡ ended (status_early C f) (updates C f) (record { costs = (state_early C f).costs; store = held C s₀ (state_early C f) })
  unfolding updates lent_after
  early_stands = ap (stop_lent C (most_updates C) 0) (sym lent-start) ∙ stop_stands (most_updates C) 0

-- costs stay in range
pub moment-ranged : (C : Code) → GoodCode C → (f : List ℕ) → frame_fault C f ≡ 0 → Below 255 f → (u : ℕ) → Ranged C (moment_after C f u).costs
moment-ranged C G f h b zero = rw (moment-start C f) (frame-ranged C f h b)
moment-ranged C G f h b (suc u) =
    rw (moment-suc C f u) (update-ranged C G (u % length C.checks) (update-small C G f u) (moment_after C f u) (moment-ranged C G f h b u))
