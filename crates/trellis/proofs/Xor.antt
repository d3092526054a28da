-- What lib.Bits leaves out of exclusive or: associativity, and what follows from it.
use mathlib.Core.Path.{◌≡◌, refl, ◌∙◌}
use Prim.Native.Nat.{ℕ, zero, suc, ◌/◌, ◌%◌, ◌^◌, ◌<◌}
use native.Mathlib.Omega.{arith}
use native.Mathlib.Nat.{mod-lt}
use lib.Arith.{bin_ind}
use lib.Bits as Bits
use lib.Bits.{bit_xor, differ, xor_step, xor_shr, xor_mod}
use Rattle.trellis.specs.Field.{xor}

digit : (u v w : ℕ) → u < 2 → v < 2 → w < 2 → differ (bit_xor u v) w ≡ differ u (bit_xor v w)
digit zero zero zero hu hv hw = refl
digit zero zero (suc zero) hu hv hw = refl
digit zero zero (suc (suc w)) hu hv hw = absurd (omega arith)
digit zero (suc zero) zero hu hv hw = refl
digit zero (suc zero) (suc zero) hu hv hw = refl
digit zero (suc zero) (suc (suc w)) hu hv hw = absurd (omega arith)
digit zero (suc (suc v)) w hu hv hw = absurd (omega arith)
digit (suc zero) zero zero hu hv hw = refl
digit (suc zero) zero (suc zero) hu hv hw = refl
digit (suc zero) zero (suc (suc w)) hu hv hw = absurd (omega arith)
digit (suc zero) (suc zero) zero hu hv hw = refl
digit (suc zero) (suc zero) (suc zero) hu hv hw = refl
digit (suc zero) (suc zero) (suc (suc w)) hu hv hw = absurd (omega arith)
digit (suc zero) (suc (suc v)) w hu hv hw = absurd (omega arith)
digit (suc (suc u)) v w hu hv hw = absurd (omega arith)

bit_assoc : (a b c : ℕ) → bit_xor (bit_xor a b) c ≡ bit_xor a (bit_xor b c)
bit_assoc =
    bin_ind (λ (a : ℕ). (b c : ℕ) → bit_xor (bit_xor a b) c ≡ bit_xor a (bit_xor b c)) (λ b c. refl)
    λ a ih b c.
    rw (xor_step (bit_xor a b) c, xor_step a (bit_xor b c), xor_shr a b 1, xor_shr b c 1, xor_mod a b 1, xor_mod b c 1, ih (b / 2) (c / 2), digit (a % 2) (b % 2) (c % 2) (mod-lt a (omega arith)) (mod-lt b (omega arith)) (mod-lt c (omega arith)))

pub xor_assoc : (a b c : ℕ) → xor (xor a b) c ≡ xor a (xor b c)
unfolding xor
xor_assoc = bit_assoc

pub xor_comm : (a b : ℕ) → xor a b ≡ xor b a
unfolding xor
xor_comm = Bits.xor_comm

pub xor-zero : (a : ℕ) → xor 0 a ≡ a
unfolding xor
xor-zero = Bits.xor_zero_l

pub xor_self : (a : ℕ) → xor a a ≡ 0
unfolding xor
xor_self = Bits.xor_self

pub xor_lt : (k a b : ℕ) → a < 2 ^ k → b < 2 ^ k → xor a b < 2 ^ k
unfolding xor
xor_lt = Bits.xor_lt

pub xor_turn : (a b c : ℕ) → xor a (xor b c) ≡ xor b (xor a c)
xor_turn a b c = rw (← xor_assoc a b c, xor_comm a b, xor_assoc b a c)

pub xor_cancel : (a b : ℕ) → xor a (xor a b) ≡ b
xor_cancel a b = rw (← xor_assoc a a b, xor_self a) (xor-zero b)

pub xor_right : (a : ℕ) → xor a 0 ≡ a
xor_right a = xor_comm a 0 ∙ xor-zero a
