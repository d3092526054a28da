-- The loops over the updates and over the iterations: what is done so far, and what is left to run.
use mathlib.Core.Path.{◌≡◌, sym, ap, ◌∙◌}
use mathlib.Core.Bool.{Bool, true, false}
use Prim.Native.Nat.{ℕ, zero, suc, ◌+◌, ◌-◌, ◌<◌}
use native.Mathlib.Numerals.{add-one}
use native.Mathlib.Omega.{arith}
use lib.Dec.{eqb}
use lib.ListN.{length}
use Rattle.trellis.specs.Lists.{upto}
use Rattle.machine.specs.CodeLine.{Code}
use Rattle.machine.specs.Machine.{found, not_found, settled}
use Rattle.machine.specs.Lent.{Lent, update_lent, iteration_lent, ended, go_lent}

-- an update more, and all updates made
module _ (C : Code) (start : Bool) (l : Lent) where
  pub updates-more : (now now' : Lent) (m m' : ℕ) → m' ≡ m + 1 → now ≡ upto (update_lent C start) m l → now' ≡ update_lent C start m now
      → now' ≡ upto (update_lent C start) m' l
  updates-more now now' m m' e o i = i ∙ ap (update_lent C start m) o ∙ sym (ap (λ k. upto (update_lent C start) k l) (e ∙ add-one m))

  pub iteration-done : (now : Lent) (m : ℕ) → m ≡ length C.checks → now ≡ upto (update_lent C start) m l → now ≡ iteration_lent C start l
  unfolding iteration_lent
  iteration-done now m e o = o ∙ ap (λ k. upto (update_lent C start) k l) e

-- decisions that satisfy every check end the run
go_found : (C : Code) (l : Lent) (k t : ℕ) → settled C l.costs ≡ true → go_lent C k t l ≡ ended found t l
unfolding go_lent
go_found C l zero t e = rw e
go_found C l (suc k) t e = rw e

-- one time around the loop over the iterations: r is the test's result, and what is left to run gives the same as the whole run
module _ (C : Code) (limit t : ℕ) (l l₀ : Lent) (r : Bool) (test : r ≡ settled C l.costs) (left : go_lent C (limit - t) t l ≡ go_lent C limit 0 l₀) where
  pub run_found : r ≡ true → ended found t l ≡ go_lent C limit 0 l₀
  run_found e = sym (go_found C l (limit - t) t (sym test ∙ e)) ∙ left

  pub run_end : r ≡ false → t ≡ limit → ended not_found t l ≡ go_lent C limit 0 l₀
  unfolding go_lent
  run_end e h =
      let z : limit - t ≡ 0 = omega arith in
      let f : settled C l.costs ≡ false = sym test ∙ e in sym (rw (z, f)) ∙ left

  pub run_more : r ≡ false → t < limit → (l' : Lent) → l' ≡ iteration_lent C (eqb t 0) l → go_lent C (limit - (t + 1)) (t + 1) l' ≡ go_lent C limit 0 l₀
  unfolding go_lent
  run_more e h l' o =
      let z : limit - t ≡ suc (limit - (t + 1)) = omega arith in
      let f : settled C l.costs ≡ false = sym test ∙ e in
      ap (go_lent C (limit - (t + 1)) (t + 1)) o ∙ sym (rw (z, f)) ∙ left
