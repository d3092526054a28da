-- The two tables of the whole call: their numbers are not 0, and what is known where none of their tests applies.
use mathlib.Core.Path.{◌≡◌, refl}
use mathlib.Core.Bool.{Bool, true, false, ◌||◌}
use mathlib.Core.Logic.{◌⊎◌, inl, inr}
use mathlib.Core.List.{List}
use Prim.Native.Nat.{ℕ, ◌*◌, ◌≤◌, ◌<◌}
use native.Mathlib.Decide.{ℕ_discrete}
use native.Mathlib.Omega.{arith}
use lib.Dec.{ltb}
use lib.ListN.{length}
use borrow.Author.Tests.{ltb-false, eqb-true, eqb-false}
use Rattle.trellis.specs.Refusals.{Test, refused_by, fault_by}
use Rattle.trellis.proofs.Refusals.{Numbered, Passed, refused-by, passed_by, none_applies}
use Rattle.machine.specs.CodeLine.{Code, size}
use Rattle.machine.specs.Decoding.{Buffers}
use Rattle.channels.specs.Channels.{count_tests, tests_for}
use Rattle.channels.specs.inner.Rounds.{RoomFor}

-- what a table gives of f and x, by its number: no test applies, or the first that does
abbrev pub TableGives : {A : Type 0} → (ℕ → A) → A → Type 0 → ℕ → A → Type 0
TableGives f x P k r = (P × (k ≡ 0) × (r ≡ x)) ⊎ ((0 < k) × (r ≡ f k))

pub told : {A : Type 0} (f : ℕ → A) (x : A) (l : List Test) → Numbered l → TableGives f x (Passed l) (fault_by l) (refused_by l f x)
told f x l n =
    elim (ℕ_discrete (fault_by l) 0) [
      | yes e ↦ inl (none_applies l n e, e, passed_by l n (fault_by l) refl e f x)
      | no e ↦ inr (omega (arith, e), refused-by l n (fault_by l) refl e f x)
    ]

-- 21 and 22
pub count_numbered : (n A : ℕ) → Numbered (count_tests n A)
count_numbered n A = ((λ e. omega arith), ((λ e. omega arith), tt))

pub count_passed : (n A : ℕ) → Passed (count_tests n A) → (1 ≤ n) × (n ≤ 8) × (0 < A)
count_passed n A P = go (ltb n 1) refl (ltb 8 n) refl P.0
  where
    go : (i : Bool) → ltb n 1 ≡ i → (j : Bool) → ltb 8 n ≡ j → (i || j) ≡ false → (1 ≤ n) × (n ≤ 8) × (0 < A)
    go true a j d e = absurd (let z : ◌≡◌ {A = ℕ} 0 1 = cc in omega arith)
    go false a true d e = absurd (let z : ◌≡◌ {A = ℕ} 0 1 = cc in omega arith)
    go false a false d e = (ltb-false n 1 a, ltb-false 8 n d, omega (arith, eqb-false A 0 P.1.0))

-- 12, 2, 3, 4 and 19
pub whole_numbered : (C : Code) (n : ℕ) (fs : List ℕ) (b : Buffers) → Numbered (tests_for C n fs b)
whole_numbered C n fs b = ((λ e. omega arith), ((λ e. omega arith), ((λ e. omega arith), ((λ e. omega arith), ((λ e. omega arith), tt)))))

pub whole_passed : (C : Code) (n : ℕ) (fs : List ℕ) (b : Buffers) → Passed (tests_for C n fs b) → (length fs ≡ n * (C.columns * size C)) × RoomFor C n b
whole_passed C n fs b P = (
  eqb-true _ _ P.0,
  record {
    for_symbols = ltb-false _ _ P.1.0;
    for_costs = ltb-false _ _ P.1.1.0;
    for_store = ltb-false _ _ P.1.1.1.0;
    for_margins = ltb-false _ _ P.1.1.1.1.0;
  },
)
