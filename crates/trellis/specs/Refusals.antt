-- Refusals as tables: tests in their order, each with its number. "Each call makes its tests in the order below and reports the first that
-- applies." SPEC 8.1.
use Rattle.std.specs.Prelude.{Bool, true, false, List, [], ◌∷◌, ℕ}
use Rattle.trellis.specs.Lists.{pick}

-- a line of a table: refused by this number where the test holds, or unless it does
pub data Test : Type 0 where
  when : Bool → ℕ → Test
  unless : Bool → ℕ → Test

-- what the number of the first line that applies leads to, or what else
abbrev pub refused_by {ℓ} : {A : Type ℓ} → List Test → (ℕ → A) → A → A
refused_by [] bad good = good
refused_by (when b k ∷ l) bad good = pick b (bad k) (refused_by l bad good)
refused_by (unless b k ∷ l) bad good = pick b (refused_by l bad good) (bad k)

-- the number itself, 0 for none
abbrev pub fault_by : List Test → ℕ
fault_by l = refused_by l (λ k. k) 0

-- whether no line applies
abbrev pub passes : List Test → Bool
passes l = refused_by l (λ k. false) true
