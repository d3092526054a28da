-- The tests of a record's form in their order: of a pair, of the pairs of a group one after the other, of a record.
use mathlib.Core.Path.{◌≡◌, refl, ◌∙◌, sym}
use mathlib.Core.Bool.{Bool, true, false, ◌&&◌}
use mathlib.Core.Logic.{◌≢◌}
use mathlib.Core.List.{List}
use Prim.Native.Nat.{ℕ, zero, suc, ◌+◌, ◌-◌, ◌*◌, ◌≤◌, ◌<◌}
use native.Mathlib.Nat.{mul-le-mul, mul-suc, le_refl}
use native.Mathlib.Omega.{arith}
use borrow.Author.Tests.{eq-eqb, ne_eqb}
use lib.Dec.{ltb}
use lib.ListN.{length, get_or}
use Rattle.trellis.specs.Lists.{pick, all_to}
use Rattle.trellis.specs.Record.{record_length, pair_tests, pairs_ok, record_tests, record_ok}
use Rattle.trellis.specs.Refusals.{passes}
use Rattle.trellis.specs.Rules.{rule_for, size_of, most_of}

-- the last test of a pair, and of an unused one
pub last_test : (b : Bool) → b ≡ pick b true false
last_test true = refl
last_test false = refl

-- the first of the pairs that are left, with column c, and those after it
pub pairs-more : (k : ℕ) (r : List ℕ) (at e d low : ℕ) {c : ℕ} (ok : Bool) {b : Bool} → 0 < k → c ≡ get_or r at 0 → b ≡ passes (pair_tests c (get_or r (at + 1) 0) e d low)
    → pick ok (pairs_ok k r at e d low) false ≡ pick (ok && b) (pairs_ok (k - 1) r (at + 2) e d (c + 1)) false
unfolding pairs_ok
pairs-more zero r at e d low ok h i o = absurd (omega arith)
pairs-more (suc k) r at e d low true h i o = let z : suc k - 1 ≡ k = omega arith in rw (← i, ← o, z)
pairs-more (suc k) r at e d low false h i o = refl

pub pairs-none : (k : ℕ) (r : List ℕ) (at e d low : ℕ) → k ≡ 0 → pairs_ok k r at e d low ≡ true
unfolding pairs_ok
pairs-none k r at e d low z = rw z

-- the place of group b of n
pub group-room : (d g n b l : ℕ) → b < n → d + g * n ≤ l → d + g * b + g ≤ l
group-room d g n b l h k = omega (arith, mul-le-mul (le_refl g) h, mul-suc g b)

-- the tests of a record's form in their order: its length, its shifts, its groups
module _ (first d : ℕ) (r : List ℕ) {n : ℕ} (l : n ≡ record_length (rule_for first) d) where
  pub form-length : length r ≢ n → false ≡ record_ok (rule_for first) d r
  unfolding record_ok record_tests
  form-length h = sym (simp (← l, ne_eqb (length r) n h))

  module _ (h : length r ≡ n) {q : ℕ} (e : q ≡ size_of first) {s : Bool} (o : s ≡ all_to (λ (i : ℕ). ltb (get_or r i 0) q) d) where
    shifts : {b : Bool} → s ≡ b → all_to (λ (i : ℕ). ltb (get_or r i 0) (size_of first)) d ≡ b
    shifts u = rw (← e) (sym o ∙ u)

    pub form-shifts : s ≡ false → false ≡ record_ok (rule_for first) d r
    unfolding record_ok record_tests
    form-shifts u = sym (simp (← l, eq-eqb (length r) n h, shifts u))

    pub form_groups : s ≡ true → {k : ℕ} → k ≡ most_of first → {b : Bool} → b ≡ all_to (λ b. pairs_ok k r (d + (1 + 2 * k) * b + 1) (get_or r (d + (1 + 2 * k) * b) 0) d 0) (q - 1) → b ≡ record_ok (rule_for first) d r
    unfolding record_ok record_tests
    form_groups u k g = g ∙ rw (k, e) (last_test _ ∙ sym (simp (← l, eq-eqb (length r) n h, shifts u)))
