-- Powers of two with a low digit as exponent, and products of small factors.
use Prim.Native.Nat.{ℕ, ◌+◌, ◌-◌, ◌*◌, ◌%◌, ◌^◌, ◌≤◌}
use native.Mathlib.Nat.{mul-le-mul}
use native.Mathlib.Omega.{arith}
use lib.Pow.{pow_mono}

pub power_small : (f : ℕ) → (1 ≤ 2 ^ (f % 16)) × (2 ^ (f % 16) ≤ 32768)
power_small f =
    let a : 0 ≤ f % 16 = omega arith in
    let b : f % 16 ≤ 15 = omega arith in
    (pow_mono {i = 0} {j = f % 16} a, pow_mono {i = f % 16} {j = 15} b)

pub groups_small : (k q : ℕ) → k ≤ 3 → q ≤ 32768 → (1 + 2 * k) * (q - 1) ≤ 229369
groups_small k q h i =
    let a : 1 + 2 * k ≤ 7 = omega arith in
    let b : q - 1 ≤ 32767 = omega arith in
    let c : (1 + 2 * k) * (q - 1) ≤ 7 * 32767 = mul-le-mul a b in
    omega arith
