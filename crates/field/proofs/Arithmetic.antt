-- What shifts and bit tests compute, as the field's definitions say it: an element has at most six bits, so a byte holds it shifted by one.
use mathlib.Core.Path.{◌≡◌, sym}
use Prim.Native.Nat.{ℕ, ◌*◌, ◌/◌, ◌%◌, ◌<◌, ◌≤◌, ◌^◌}
use native.Mathlib.Omega.{arith}
use lib.Bits.{bit_xor}
use borrow.Author.Tests.{eq-eqb}
use Rattle.trellis.specs.Field.{xor, polynomial, doubled}
use Rattle.trellis.proofs.Recurrence.{size_64}

pub byte_power : (p : ℕ) → p ≤ 6 → 1 * 2 ^ p % 256 ≡ 2 ^ p
byte_power p h = omega (arith, size_64 p h)

shifted : (p a : ℕ) → p ≤ 6 → a < 2 ^ p → a * 2 % 256 ≡ a * 2
shifted p a h k = omega (arith, size_64 p h)

module _ (p a : ℕ) (h : p ≤ 6) (k : a < 2 ^ p) where
  pub doubled-set : {r : ℕ} → a * 2 % 256 / 2 ^ p % 2 ≡ 1 → r ≡ polynomial p → bit_xor (a * 2 % 256) r ≡ doubled p a
  unfolding xor
  doubled-set e q = rw (shifted p a h k, q) (sym (simp (eq-eqb (a * 2 / 2 ^ p % 2) 1 (rw (shifted p a h k) at e))))
