-- What an accepted first code byte gives: p is 2 to 6 and k is 2 or 3, and sum and greatest are joins. A first byte 02 to 06 is document
-- 01's rule.
use mathlib.Core.Path.{◌≡◌, refl}
use mathlib.Core.Bool.{Bool, true, false, cond, ◌&&◌}
use Prim.Native.Nat.{ℕ, zero, suc, ◌+◌, ◌/◌, ◌≤◌}
use native.Mathlib.Omega.{arith}
use lib.Dec.{leb, ltb, leb→le}
use Rattle.trellis.specs.Rules.{rule_of, rule_for, join_of, power_of, most_of, greatest_of, first_ok}
use Rattle.trellis.proofs.Tests.{of_true}
use Rattle.trellis.proofs.Sent.{Joins}
use Rattle.trellis.proofs.Instances.{sum_joins, max_joins}

pub most-some : (f : ℕ) → 2 ≤ most_of f
most-some f = go (ltb (f / 16) 2)
  where
    go : (b : Bool) → 2 ≤ cond b 2 3
    go true = omega arith
    go false = omega arith

pub most-few : (f : ℕ) → most_of f ≤ 3
most-few f = go (ltb (f / 16) 2)
  where
    go : (b : Bool) → cond b 2 3 ≤ 3
    go true = omega arith
    go false = omega arith

-- all that the theory asks of a join of costs holds for the sum and for the greatest
pub join_joins : (greatest : Bool) → Joins (join_of greatest)
join_joins true = max_joins
join_joins false = sum_joins

pub first_joins : (f : ℕ) → Joins (rule_for f).join
first_joins f = join_joins (greatest_of f)

pub first-power : (f : ℕ) → first_ok f ≡ true → (2 ≤ power_of f) × (power_of f ≤ 6)
unfolding first_ok
first-power f e = go (leb (f / 16) 3) (leb 2 (power_of f)) refl (leb (power_of f) 6) refl e
  where
    apart : false ≡ true → ⊥
    apart e = let z : ◌≡◌ {A = ℕ} 0 1 = cc in omega arith

    go : (a b : Bool) → leb 2 (power_of f) ≡ b → (c : Bool) → leb (power_of f) 6 ≡ c → a && (b && c) ≡ true → (2 ≤ power_of f) × (power_of f ≤ 6)
    go true true i true j e = (leb→le 2 (power_of f) (of_true i), leb→le (power_of f) 6 (of_true j))
    go true true i false j e = absurd (apart e)
    go true false i c j e = absurd (apart e)
    go false b i c j e = absurd (apart e)

-- "Old code lines give the old bytes": all that a code line's first byte fixes is the rule
pub old-rule : (p : ℕ) → 2 ≤ p → p ≤ 6 → (first_ok p ≡ true) × (rule_for p ≡ rule_of p ◌+◌ 2)
unfolding first_ok
old-rule zero h k = absurd (omega arith)
old-rule (suc zero) h k = absurd (omega arith)
old-rule (suc (suc zero)) h k = (refl, refl)
old-rule (suc (suc (suc zero))) h k = (refl, refl)
old-rule (suc (suc (suc (suc zero)))) h k = (refl, refl)
old-rule (suc (suc (suc (suc (suc zero))))) h k = (refl, refl)
old-rule (suc (suc (suc (suc (suc (suc zero)))))) h k = (refl, refl)
old-rule (suc (suc (suc (suc (suc (suc (suc p))))))) h k = absurd (omega arith)
