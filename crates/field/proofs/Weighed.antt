-- First byte and weights that none of 6, 9 and 11 refuses, and the cases of those that are refused.
use mathlib.Core.Path.{◌≡◌, refl, sym}
use mathlib.Core.Bool.{Bool, true, false}
use mathlib.Core.Logic.{◌≢◌}
use mathlib.Core.List.{List}
use Prim.Native.Nat.{ℕ, ◌≤◌, ◌<◌}
use native.Mathlib.Omega.{arith}
use borrow.Author.Tests.{eq-eqb, ne_eqb, le-ltb, ltb-false, not-false}
use lib.Dec.{T, ltb, eqb, ltb→lt, lt→ltb}
use lib.ListN.{length, get_or}
use Rattle.trellis.specs.Lists.{pick}
use Rattle.trellis.specs.Rules.{power_of, size_of, first_ok}
use Rattle.trellis.specs.Ready.{Ready}
use Rattle.trellis.proofs.Rules.{first-power}
use Rattle.trellis.proofs.Refusals.{Numbered, Passed, none_applies, refused-by}
use Rattle.trellis.proofs.Tests.{of_true, to_true, all-at, all_of}
use Rattle.field.specs.Answers.{weight_ok, weights_ok, weight_tests, weight_cases, weights_fault}

pub no_true : {b : Bool} → b ≡ true → b ≡ false → ⊥
no_true e f = let z : ◌≡◌ {A = ℕ} 0 1 = cc in omega arith

pub weight_true : (q h : ℕ) → T (weight_ok q h) → (h ≢ 0) × (h < q)
unfolding weight_ok
weight_true q h t = go (eqb h 0) refl t
  where
    go : (b : Bool) → eqb h 0 ≡ b → T (pick b false (ltb h q)) → (h ≢ 0) × (h < q)
    go true u v = absurd v
    go false u v = ((λ k. no_true (eq-eqb h 0 k) u), ltb→lt h q v)

-- first byte and weights of a check that none of 6, 9, 11 refuses
pub record WeightsAccepted (first : ℕ) (ws : List ℕ) : Type 0 where
  pub accepted : first_ok first ≡ true
  pub low : 2 ≤ power_of first
  pub high : power_of first ≤ 6
  pub two : 2 ≤ length ws
  pub few : length ws ≤ 32
  pub ok : weights_ok (size_of first) ws ≡ true

numbered : (first : ℕ) (ws : List ℕ) → Numbered (weight_tests first ws)
numbered first ws = ((λ e. omega arith), ((λ e. omega arith), ((λ e. omega arith), ((λ e. omega arith), tt))))

pub weights_passed : (first : ℕ) (ws : List ℕ) → Passed (weight_tests first ws) → WeightsAccepted first ws
weights_passed first ws p =
    let f : first_ok first ≡ true = not-false _ p.0 in
    record { accepted = f; low = (first-power first f).0; high = (first-power first f).1; two = ltb-false _ _ p.1.0; few = ltb-false _ _ p.1.1.0; ok = p.1.1.1.0 }

pub no_fault : (first : ℕ) (ws : List ℕ) → weights_fault first ws ≡ 0 → WeightsAccepted first ws
unfolding weights_fault
no_fault first ws e = weights_passed first ws (none_applies (weight_tests first ws) (numbered first ws) e)

-- a refusal by its number, and none
pub fault_case : {A : Type 0} (first : ℕ) (ws : List ℕ) (bad : ℕ → A) (rest : A) {k : ℕ} → k ≡ weights_fault first ws → k ≢ 0 → bad k ≡ weight_cases first ws bad rest
unfolding weights_fault
fault_case first ws bad rest {k} e n = sym (refused-by (weight_tests first ws) (numbered first ws) k e n bad rest)

module _ (first : ℕ) (ws : List ℕ) (W : WeightsAccepted first ws) where
  pub rest-case : {A : Type 0} (bad : ℕ → A) (rest : A) → weight_cases first ws bad rest ≡ rest
  rest-case bad rest = simp (W.accepted, le-ltb _ _ W.two, le-ltb _ _ W.few, W.ok)

  pub weight-at : (n : ℕ) → n < length ws → (get_or ws n 0 ≢ 0) × (get_or ws n 0 < size_of first)
  weight-at n k = weight_true (size_of first) (get_or ws n 0) (all-at _ (length ws) (of_true W.ok) n k)

-- what none of them refuses
pub weights-accepted : (first : ℕ) (ws : List ℕ) → first_ok first ≡ true → 2 ≤ length ws → length ws ≤ 32 → ((n : ℕ) → n < length ws → get_or ws n 0 ≢ 0)
    → ((n : ℕ) → n < length ws → get_or ws n 0 < size_of first) → WeightsAccepted first ws
unfolding weight_ok
weights-accepted first ws f two few some small =
    record {
      accepted = f;
      low = (first-power first f).0;
      high = (first-power first f).1;
      two = two;
      few = few;
      ok = to_true (all_of _ (length ws) (λ n h. rw (ne_eqb (get_or ws n 0) 0 (some n h)) (lt→ltb _ _ (small n h))));
    }

-- the weights of an accepted check
pub ready-weighed : (first : ℕ) (ws cs : List ℕ) → Ready first ws cs → WeightsAccepted first ws
ready-weighed first ws cs D = weights-accepted first ws D.first D.two D.few D.weight-some D.weight-small
