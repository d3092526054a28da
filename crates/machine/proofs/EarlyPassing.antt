-- Updates one after the other from any costs in range, check by check and iteration by iteration: each finds what it needs and leaves what the
-- next one needs. A flat count of updates in place of Passing.antt's count inside one iteration.
use mathlib.Core.Path.{◌≡◌, sym, ap, ◌∙◌}
use mathlib.Core.Bool.{false}
use mathlib.Core.Logic.{◌≢◌}
use Prim.Native.Nat.{ℕ, suc, ◌+◌, ◌*◌, ◌/◌, ◌%◌, ◌≤◌, ◌<◌}
use native.Mathlib.Nat.{not-suc-le-zero, mod-lt, mod-eq_of_lt, div-add-mod, mul_comm, suc-mul}
use native.Mathlib.Decide.{ℕ_discrete}
use native.Mathlib.Omega.{arith}
use lib.Arith.{digits_mod}
use lib.Dec.{eqb, ltb}
use lib.ListN.{length}
use borrow.Author.Tests.{eq-eqb, ne_eqb, ltb-false}
use Rattle.trellis.specs.Lists.{pick}
use Rattle.machine.specs.CodeLine.{Code}
use Rattle.machine.specs.Machine.{used}
use Rattle.machine.specs.Lent.{Lent}
use Rattle.machine.specs.inner.LentEarly.{next_lent}
use Rattle.machine.specs.inner.Accepted.{GoodCode}
use Rattle.machine.specs.inner.InRange.{Advancing, Ranged, Formed}
use Rattle.machine.proofs.Passing.{lent-ranged, update-length, update-formed, update-others}

-- the check after check u mod M: the next, or the first again
pub next-check : (u M : ℕ) → 0 < M → suc u % M ≡ pick (eqb (u % M + 1) M) 0 (u % M + 1)
next-check u M some =
    elim (ℕ_discrete (u % M + 1) M) [
      | yes e ↦
          let a : suc u ≡ suc (u / M) * M + 0 = omega (arith, whole, suc-mul (u / M) M) in
          ap (λ k. k % M) a ∙ digits_mod (suc (u / M)) {m = M} {r = 0} some ∙ sym (ap (λ b. pick b 0 (u % M + 1)) (eq-eqb _ _ e))
      | no e ↦
          let a : suc u ≡ u / M * M + (u % M + 1) = omega (arith, whole) in
          ap (λ k. k % M) a ∙ digits_mod (u / M) {m = M} {r = u % M + 1} (omega (arith, mod-lt u some)) ∙ sym (ap (λ b. pick b 0 (u % M + 1)) (ne_eqb _ _ e))
    ]
  where
    whole : u ≡ u / M * M + u % M
    whole = omega (arith, div-add-mod u M, mul_comm M (u / M))

module _ (C : Code) (G : GoodCode C) where
  abbrev M : ℕ
  M = length C.checks

  pub check-small : (u : ℕ) → u % M < M
  check-small u = mod-lt u G.checks-low

  pub advancing-start : (l : Lent) → Ranged C l.costs → used C ≤ length l.store → Advancing C G 0 l
  advancing-start l R r = record { ranged = R; room = r; done = λ m h i. absurd (not-suc-le-zero i) }

  -- one update more
  pub advanced : (u : ℕ) (l : Lent) → Advancing C G u l → Advancing C G (suc u) (next_lent C u l)
  advanced u l A =
      let k = check-small u in
      record {
        ranged = lent-ranged C G (ltb u M) l A.ranged A.room (u % M) k;
        room = omega (arith, A.room, update-length C G (ltb u M) l A.ranged A.room (u % M) k);
        done = λ m h i. elim (ℕ_discrete m (u % M)) [
          | yes e ↦ rw e (update-formed C G (ltb u M) l A.ranged A.room (u % M) k)
          | no e ↦
              let n : m ≢ u = λ (j : m ≡ u). e (j ∙ sym (mod-eq_of_lt (rw j at h))) in
              rw (update-others C G (ltb u M) l A.ranged A.room (u % M) k m h e) (A.done m h (omega arith))
        ];
      }

  -- after the first M updates the next check has its record
  pub next-formed : (u : ℕ) (l : Lent) → Advancing C G u l → ltb u M ≡ false → Formed C G l (u % M)
  next-formed u l A e = A.done (u % M) (check-small u) (omega (arith, check-small u, ltb-false u M e))
