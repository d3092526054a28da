-- Values put in again at the places that changed are all values: of a list, and of what is worked out from the columns' costs.
use mathlib.Core.Path.{◌≡◌, refl, sym, ap, ◌∙◌}
use mathlib.Core.Logic.{◌≢◌}
use mathlib.Core.Bool.{Bool}
use mathlib.Core.List.{List}
use Prim.Native.Nat.{ℕ, zero, suc, ◌*◌, ◌≤◌, ◌<◌}
use native.Mathlib.Nat.{not-suc-le-zero}
use native.Mathlib.Decide.{ℕ_discrete}
use native.Mathlib.Omega.{arith}
use lib.ListN.{length, get_or, length-set}
use lib.Seq.{ext_get_or, get_or-set_same, get_or-set_other}
use Rattle.trellis.specs.Lists.{tab}
use Rattle.trellis.specs.Check.{Column}
use Rattle.trellis.proofs.Loops.{length-tab, get_d_tab}
use Rattle.machine.specs.CodeLine.{Code, size, check, edge_at, column_of}
use Rattle.machine.specs.Machine.{spread, used}
use Rattle.machine.specs.Lent.{Lent, update_lent}
use Rattle.machine.specs.inner.Accepted.{GoodCode}
use Rattle.machine.specs.inner.InRange.{Ranged}
use Rattle.machine.proofs.Passing.{update-costs}
use Rattle.machine.proofs.Changed.{redone, spread-other}

module _ (g cols : ℕ → ℕ) where
  pub length_redone : (d : ℕ) (z : List ℕ) → length (redone g cols d z) ≡ length z
  unfolding redone
  length_redone zero z = refl
  length_redone (suc d) z = length-set (redone g cols d z) (cols d) _ ∙ length_redone d z

  -- at a place that was put in, or at one that was not
  redone-at : (d : ℕ) (z : List ℕ) (c : ℕ) → c < length z → (((k : ℕ) → k < d → cols k ≢ c) → get_or z c 0 ≡ g c) → get_or (redone g cols d z) c 0 ≡ g c
  unfolding redone
  redone-at zero z c h e = e (λ k i. absurd (not-suc-le-zero i))
  redone-at (suc d) z c h e =
      elim (ℕ_discrete c (cols d)) [
        | yes i ↦ rw i (get_or-set_same (redone g cols d z) (cols d) (g (cols d)) 0 (omega (arith, length_redone d z)))
        | no i ↦
            get_or-set_other (redone g cols d z) (cols d) c (g (cols d)) 0 i
            ∙ redone-at d z c h (λ n. e (λ k l. elim (ℕ_discrete k d) [ yes j ↦ λ (m : cols k ≡ c). i (sym m ∙ ap cols j) | no j ↦ n k (omega arith) ]))
      ]

  -- values that change at these places alone
  pub redone_all : (f : ℕ → ℕ) (n d : ℕ) → ((c : ℕ) → c < n → ((k : ℕ) → k < d → cols k ≢ c) → f c ≡ g c) → redone g cols d (tab f n) ≡ tab g n
  redone_all f n d e =
      ext_get_or 0 (redone g cols d (tab f n)) (tab g n) (length_redone d (tab f n) ∙ length-tab f n ∙ sym (length-tab g n))
      (λ c i. let h : c < n = omega (arith, length_redone d (tab f n), length-tab f n) in
      redone-at d (tab f n) c (omega (arith, length-tab f n)) (λ k. get_d_tab f n c h ∙ e c h k) ∙ sym (get_d_tab g n c h))

-- what is worked out from each column's costs alone, as its symbol and its margin are: over any new costs of a check's columns
module _ (C : Code) (G : GoodCode C) (v : List ℕ → ℕ) (m : ℕ) (h : m < length C.checks) (P : List ℕ) (full : length P ≡ C.columns * size C) where
  pub respread : (cs : List Column) (new : ℕ → List ℕ) (P' : List ℕ) → P' ≡ spread (size C) (check C m) cs new P
      → redone (λ c. v (column_of (size C) P' c)) (λ k. (edge_at (check C m) k).column) (length (check C m)) (tab (λ c. v (column_of (size C) P c)) C.columns)
      ≡ tab (λ c. v (column_of (size C) P' c)) C.columns
  respread cs new P' e =
      redone_all _ _ (λ c. v (column_of (size C) P c)) C.columns (length (check C m))
      (λ c i n. ap v (sym (ap (λ (Q : List ℕ). column_of (size C) Q c) e ∙ spread-other C (check C m) (G.each-check m h) cs new P full c n)))

-- over the buffers' update
pub redecided_lent : (C : Code) (G : GoodCode C) (v : List ℕ → ℕ) (start : Bool) (l : Lent) (R : Ranged C l.costs) → used C ≤ length l.store → (m : ℕ) → m < length C.checks
    → redone (λ c. v (column_of (size C) (update_lent C start m l).costs c)) (λ k. (edge_at (check C m) k).column) (length (check C m)) (tab (λ c. v (column_of (size C) l.costs c)) C.columns)
    ≡ tab (λ c. v (column_of (size C) (update_lent C start m l).costs c)) C.columns
redecided_lent C G v start l R room m h = respread C G v m h l.costs R.full _ _ _ (update-costs C G start l R room m h)
