-- A reply of at most 2,048: a refusal has the value 0, so only what is accepted counts.
use mathlib.Core.Path.{refl}
use mathlib.Core.Bool.{Bool, true, false}
use mathlib.Core.List.{List, [], ◌∷◌}
use Prim.Native.Nat.{ℕ, ◌≤◌}
use native.Mathlib.Decide.{ℕ_discrete}
use native.Mathlib.Omega.{arith}
use Rattle.trellis.specs.Lists.{pick}
use Rattle.trellis.specs.Refusals.{Test, when, unless, refused_by}
use Rattle.trellis.specs.Reply.{Reply, refusal}
use Rattle.field.specs.Answers.{weight_cases, weights_fault}
use Rattle.field.proofs.Weighed.{WeightsAccepted, no_fault, fault_case, rest-case}

pub record Short (r : Reply) : Type 0 where
  pub small : r.value ≤ 2048

either : (b : Bool) (x y : Reply) → Short x → Short y → Short (pick b x y)
either true x y h k = h
either false x y h k = k

none : (k : ℕ) → Short (refusal k)
none k = record { small = omega arith }

pub short-under : (first : ℕ) (ws : List ℕ) (rest : Reply) → (WeightsAccepted first ws → Short rest) → Short (weight_cases first ws (λ k. refusal k) rest)
short-under first ws rest h =
    elim (ℕ_discrete (weights_fault first ws) 0) [
      | yes e ↦ let W = no_fault first ws e in rw (rest-case first ws W (λ k. refusal k) rest) (h W)
      | no e ↦ rw (← fault_case first ws (λ k. refusal k) rest refl e) (none (weights_fault first ws))
    ]

-- past the tests of a table
pub short-by : (l : List Test) {r : Reply} → Short r → Short (refused_by l (λ k. refusal k) r)
short-by [] h = h
short-by (when b k ∷ l) h = either b _ _ (none k) (short-by l h)
short-by (unless b k ∷ l) h = either b _ _ (short-by l h) (none k)
