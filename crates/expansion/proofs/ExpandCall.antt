-- A call of expand by its tests: what it replies and what it leaves, case by case.
use mathlib.Core.Path.{◌≡◌, ◌∙◌, sym}
use mathlib.Core.Bool.{Bool, true, false}
use mathlib.Core.Logic.{◌≢◌}
use mathlib.Core.List.{List, ◌++◌}
use Prim.Native.Nat.{ℕ, ◌*◌, ◌≤◌, ◌<◌}
use lib.ListN.{length, drop}
use Rattle.trellis.specs.Record.{record_ok, expansion}
use Rattle.trellis.specs.Rules.{rule_for, power_of, size_of, most_of}
use Rattle.trellis.specs.Reply.{accepted, refusal}
use Rattle.expansion.specs.Answers.{expand_reply, expand_leaves}
use Rattle.field.specs.Answers.{weights_fault}
use Rattle.expansion.specs.inner.Asks.{ExpandRoom}
use Rattle.field.proofs.Weighed.{WeightsAccepted, fault_case}
use Rattle.expansion.proofs.Cases.{case_16, case_2, expand_case}
use Rattle.expansion.proofs.Expanding.{expandable}

module _ (first : ℕ) (ws r out : List ℕ) where
  -- a call that is refused by k
  abbrev pub ExpandRefused : ℕ → Type 0
  ExpandRefused k = (refusal k ≡ expand_reply first ws r out) × (out ≡ expand_leaves first ws r out)

  pub refused_fault : {k : ℕ} → k ≡ weights_fault first ws → k ≢ 0 → ExpandRefused k
  unfolding expand_reply expand_leaves
  refused_fault e n = (fault_case first ws (λ k. refusal k) _ e n, fault_case first ws (λ k. out) _ e n)

  module _ (W : WeightsAccepted first ws) (w : ℕ) (s : w ≡ size_of first) {o : Bool} (f : o ≡ record_ok (rule_for first) (length ws) r) where
    form : {b : Bool} → o ≡ b → record_ok (rule_for first) (length ws) r ≡ b
    form u = sym f ∙ u

    pub refused_16 : o ≡ false → ExpandRefused 16
    unfolding expand_reply expand_leaves
    refused_16 u = (case_16 first ws W (length out) (λ k. refusal k) _ r (form u), case_16 first ws W (length out) (λ k. out) _ r (form u))

    module _ (u : o ≡ true) where
      pub accepts : ExpandRoom (power_of first) (most_of first) ws r
      accepts = expandable first ws r W (form u)

      pub refused_2 : length out < length ws * w → ExpandRefused 2
      unfolding expand_reply expand_leaves
      refused_2 l =
          let k : length out < length ws * size_of first = rw s at l in
          (case_2 first ws W (length out) (λ k. refusal k) _ r (form u) k, case_2 first ws W (length out) (λ k. out) _ r (form u) k)

      pub written : length ws * w ≤ length out → {x : List ℕ} → x ≡ expansion (rule_for first) ws r
          → (accepted (length ws * w) ≡ expand_reply first ws r out) × (x ++ drop (length ws * w) out ≡ expand_leaves first ws r out)
      unfolding expand_reply expand_leaves
      written l e =
          let k : length ws * size_of first ≤ length out = rw s at l in
          (rw s (expand_case first ws W (length out) (λ k. refusal k) _ r (form u) k), rw (e, s) (expand_case first ws W (length out) (λ k. out) _ r (form u) k))
