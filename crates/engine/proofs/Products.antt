-- A product is the sum of the terms of its second factor's bits: the recurrence, unfolded.
use mathlib.Core.Path.{◌≡◌, refl, ap, ◌∙◌}
use mathlib.Core.Bool.{cond}
use mathlib.Core.List.{List, [], ◌∷◌}
use Prim.Native.Nat.{ℕ, zero, suc, ◌+◌, ◌-◌, ◌/◌, ◌%◌, ◌^◌, ◌≤◌, ◌<◌}
use native.Mathlib.Omega.{arith}
use lib.Dec.{eqb}
use Rattle.trellis.specs.Field.{xor, product, product_in, doubled}
use Rattle.engine.specs.inner.Terms.{bits_of}
use Rattle.trellis.proofs.Recurrence.{product_in_lem}

-- a, and what doubling it gives, n terms in all
terms : ℕ → ℕ → ℕ → List ℕ
terms zero p a = []
terms (suc n) p a = a ∷ terms n p (doubled p a)

bits_in : (n p a x : ℕ) → bits_of (terms n p a) x ≡ product_in n p a x
unfolding terms
bits_in zero p a x = refl
bits_in (suc n) p a x = ap (xor (cond (eqb (x % 2) 1) a 0)) (bits_in n p (doubled p a) (x / 2))

-- six terms are enough for each field
pub bits_are : (p h x : ℕ) → p ≤ 6 → x < 2 ^ p → {b c d e f : ℕ} → b ≡ doubled p h → c ≡ doubled p b → d ≡ doubled p c → e ≡ doubled p d → f ≡ doubled p e
    → bits_of (h ∷ b ∷ c ∷ d ∷ e ∷ f ∷ []) x ≡ product p h x
unfolding terms
bits_are p h x l k eb ec ed ee ef =
    let six : 6 - p + p ≡ 6 = omega arith in
    let all : product_in (6 - p + p) p h x ≡ product p h x = product_in_lem (6 - p) p h x k in
    rw (ef, ee, ed, ec, eb) (bits_in 6 p h x) ∙ (rw six at all)
