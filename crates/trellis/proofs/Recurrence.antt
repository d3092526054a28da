-- The product's recurrence as the code runs it: an element has p bits, so one halving more or less than p changes nothing.
use mathlib.Core.Path.{◌≡◌, refl, sym, ap, ◌∙◌}
use mathlib.Core.Bool.{Bool, cond, ◌&&◌}
use Prim.Native.Nat.{ℕ, zero, suc, ◌+◌, ◌/◌, ◌%◌, ◌^◌, ◌≤◌, ◌<◌}
use native.Mathlib.Nat.{zero-add, suc-add}
use native.Mathlib.Omega.{arith}
use lib.Dec.{T, eqb, ltb, ltb→lt}
use lib.Pow.{pow_mono}
use Rattle.trellis.specs.Lists.{all_to}
use Rattle.trellis.specs.Field.{xor, doubled, product_in, product}
use Rattle.trellis.proofs.Tests.{all-at, each_field}
use Rattle.trellis.proofs.Xor.{xor-zero, xor_right, xor_assoc}

-- nothing is left to add to 0
pub product-zero : (n p a : ℕ) → product_in n p a 0 ≡ 0
product-zero zero p a = refl
product-zero (suc n) p a = rw (product-zero n p (doubled p a)) (xor-zero 0)

halving_more : (n p a b : ℕ) → b < 2 ^ n → product_in (suc n) p a b ≡ product_in n p a b
halving_more zero p a b h = let e : b ≡ 0 = omega arith in rw e (xor-zero 0)
halving_more (suc n) p a b h = ap (xor (cond (eqb (b % 2) 1) a 0)) (halving_more n p (doubled p a) (b / 2) (omega arith))

-- more than p halvings
pub product_in_lem : (k p a b : ℕ) → b < 2 ^ p → product_in (k + p) p a b ≡ product p a b
product_in_lem zero p a b h = rw (zero-add p)
product_in_lem (suc k) p a b h = rw (suc-add k p) (halving_more (k + p) p a b (omega (arith, pow_mono {i = p} {j = k + p} (omega arith))) ∙ product_in_lem k p a b h)

pub product-step : (p a b : ℕ) → b < 2 ^ p → product p a b ≡ xor (cond (eqb (b % 2) 1) a 0) (product p (doubled p a) (b / 2))
product-step p a b h = sym (halving_more p p a b h)

-- one turn of a loop that has added s so far: what is left of the recurrence gives the same
pub product_turn : (p a b s : ℕ) {d r : ℕ} → b < 2 ^ p → d ≡ doubled p a → r ≡ xor s (cond (eqb (b % 2) 1) a 0) → xor s (product p a b) ≡ xor r (product p d (b / 2))
product_turn p a b s h e o = rw (product-step p a b h, e, o) (sym (xor_assoc s (cond (eqb (b % 2) 1) a 0) (product p (doubled p a) (b / 2))))

-- after it nothing is left
pub product-done : (p a b s : ℕ) → b ≡ 0 → xor s (product p a b) ≡ s
product-done p a b s z = rw (z, product-zero p p a) (xor_right s)

-- doubling stays in the field: a test of every element of each field
doubles : ℕ → Bool
doubles p = all_to (λ a. ltb (doubled p a) (2 ^ p)) (2 ^ p)

all_double : T (doubles 2 && (doubles 3 && (doubles 4 && (doubles 5 && doubles 6))))
unfolding doubles xor
all_double = tt

pub doubled-small : (p a : ℕ) → 2 ≤ p → p ≤ 6 → a < 2 ^ p → doubled p a < 2 ^ p
unfolding doubles
doubled-small p a l h k = ltb→lt (doubled p a) (2 ^ p) (all-at (λ a. ltb (doubled p a) (2 ^ p)) (2 ^ p) (each_field doubles all_double p l h) a k)

-- a byte holds twice an element, and q
pub size_64 : (p : ℕ) → p ≤ 6 → 2 ^ p ≤ 64
size_64 p h = pow_mono {i = p} {j = 6} h

pub size_4 : (p : ℕ) → 2 ≤ p → 4 ≤ 2 ^ p
size_4 p h = pow_mono {i = 2} {j = p} h
