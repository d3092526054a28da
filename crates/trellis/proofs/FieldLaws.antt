-- The products of the specification are those of a field: they are linear, so a test at the powers of two serves for every element.
use mathlib.Core.Path.{◌≡◌, refl, sym, ap, ◌∙◌}
use mathlib.Core.Bool.{Bool, cond, ◌&&◌, ◌||◌}
use mathlib.Core.List.{List, [], ◌∷◌}
use mathlib.Core.Logic.{◌≢◌, ⊎_elim}
use Prim.Native.Nat.{ℕ, zero, suc, ◌+◌, ◌-◌, ◌/◌, ◌%◌, ◌^◌, ◌≤◌, ◌<◌}
use native.Mathlib.Nat.{mod-lt, one-mul}
use native.Mathlib.Decide.{dec_lt}
use native.Mathlib.Omega.{arith}
use lib.Bits as Bits
use lib.Dec.{T, ltb, eqb, ltb→lt, eqb→eq}
use lib.ListN.{get_or}
use lib.Pow.{pow_pos}
use Rattle.trellis.specs.Lists.{all_to}
use Rattle.trellis.specs.Field.{xor, product, product_in, doubled}
use Rattle.trellis.proofs.Xor.{xor-zero, xor_self, xor_assoc, xor_turn, xor_lt}
use Rattle.trellis.proofs.Tests.{fst_T, snd_T, or_cases, all-at, each_field}

xor_half : (x y : ℕ) → xor x y / 2 ≡ xor (x / 2) (y / 2)
unfolding xor
xor_half x y = Bits.xor_shr x y 1

xor_odd : (x y : ℕ) → xor x y % 2 ≡ xor (x % 2) (y % 2)
unfolding xor
xor_odd x y = Bits.xor_mod x y 1

xor_top : (k r : ℕ) → r < 2 ^ k → xor (2 ^ k) r ≡ 2 ^ k + r
unfolding xor
xor_top k r h = rw one-mul at (Bits.xor_shifted 1 k r h)

-- the first factor, where the dropped bit was one
abbrev added : ℕ → ℕ → ℕ
added u a = cond (eqb u 1) a 0

added_xor : (u v a : ℕ) → u < 2 → v < 2 → added (xor u v) a ≡ xor (added u a) (added v a)
unfolding xor
added_xor zero zero a h k = refl
added_xor zero (suc zero) a h k = refl
added_xor (suc zero) zero a h k = sym (Bits.xor_zero_r a)
added_xor (suc zero) (suc zero) a h k = sym (Bits.xor_self a)
added_xor zero (suc (suc v)) a h k = absurd (omega arith)
added_xor (suc zero) (suc (suc v)) a h k = absurd (omega arith)
added_xor (suc (suc u)) v a h k = absurd (omega arith)

swap4 : (a b c d : ℕ) → xor (xor a b) (xor c d) ≡ xor (xor a c) (xor b d)
swap4 a b c d = rw (xor_assoc a b, xor_turn b c d, ← xor_assoc a c)

linear_in : (n p a x y : ℕ) → product_in n p a (xor x y) ≡ xor (product_in n p a x) (product_in n p a y)
linear_in zero p a x y = sym (xor-zero 0)
linear_in (suc n) p a x y =
    rw (xor_odd x y, xor_half x y, added_xor (x % 2) (y % 2) a (mod-lt x (omega arith)) (mod-lt y (omega arith)), linear_in n p (doubled p a) (x / 2) (y / 2)) (swap4 _ _ _ _)

Linear : (ℕ → ℕ) → Type 0
Linear f = (x y : ℕ) → f (xor x y) ≡ xor (f x) (f y)

linear : (p h : ℕ) → Linear (product p h)
unfolding Linear
linear p h x y = linear_in p p h x y

linear_zero : (f : ℕ → ℕ) → Linear f → f 0 ≡ 0
unfolding Linear
linear_zero f L = ap f (sym (xor_self 0)) ∙ L 0 0 ∙ xor_self (f 0)

-- linear functions that agree at the powers of two agree; and stay below 2 ^ p if they do there
agree : (f : ℕ → ℕ) → Linear f → (p : ℕ) → ((i : ℕ) → i < p → f (2 ^ i) ≡ 2 ^ i) → (b : ℕ) → b < 2 ^ p → f b ≡ b
unfolding Linear
agree f L zero h b k = let e : b ≡ 0 = omega arith in rw e (linear_zero f L)
agree f L (suc p) h b k =
    elim (dec_lt b (2 ^ p)) [
      | yes l ↦ agree f L p (λ i j. h i (omega arith)) b l
      | no l ↦
          let r : ℕ = b - 2 ^ p in
          let s : r < 2 ^ p = omega arith in
          let e : b ≡ xor (2 ^ p) r = sym (xor_top p r s ∙ omega arith) in
          rw (e, L (2 ^ p) r, h p (omega arith), agree f L p (λ i j. h i (omega arith)) r s)
    ]

stays : (f : ℕ → ℕ) → Linear f → (q p : ℕ) → ((i : ℕ) → i < p → f (2 ^ i) < 2 ^ q) → (b : ℕ) → b < 2 ^ p → f b < 2 ^ q
unfolding Linear
stays f L q zero h b k = let e : b ≡ 0 = omega arith in rw (e, linear_zero f L) (pow_pos q)
stays f L q (suc p) h b k =
    elim (dec_lt b (2 ^ p)) [
      | yes l ↦ stays f L q p (λ i j. h i (omega arith)) b l
      | no l ↦
          let r : ℕ = b - 2 ^ p in
          let s : r < 2 ^ p = omega arith in
          let e : b ≡ xor (2 ^ p) r = sym (xor_top p r s ∙ omega arith) in
          rw (e, L (2 ^ p) r) (xor_lt q _ _ (h p (omega arith)) (stays f L q p (λ i j. h i (omega arith)) r s))
    ]

-- the inverses of 0, 1, .. for each p; at 0 it is of no use
inverses : ℕ → List ℕ
inverses p = get_or ([] ∷ [] ∷ (0 ∷ 1 ∷ 3 ∷ 2 ∷ []) ∷ (0 ∷ 1 ∷ 5 ∷ 6 ∷ 7 ∷ 2 ∷ 3 ∷ 4 ∷ []) ∷ (0 ∷ 1 ∷ 9 ∷ 14 ∷ 13 ∷ 11 ∷ 7 ∷ 6 ∷ 15 ∷ 2 ∷ 12 ∷ 5 ∷ 10 ∷ 4 ∷ 3 ∷ 8 ∷ []) ∷ (0 ∷ 1 ∷ 18 ∷ 28 ∷ 9 ∷ 23 ∷ 14 ∷ 12 ∷ 22 ∷ 4 ∷ 25 ∷ 16 ∷ 7 ∷ 15 ∷ 6 ∷ 13 ∷ 11 ∷ 24 ∷ 2 ∷ 29 ∷ 30 ∷ 26 ∷ 8 ∷ 5 ∷ 17 ∷ 10 ∷ 21 ∷ 31 ∷ 3 ∷ 19 ∷ 20 ∷ 27 ∷ []) ∷ (0 ∷ 1 ∷ 33 ∷ 62 ∷ 49 ∷ 43 ∷ 31 ∷ 44 ∷ 57 ∷ 37 ∷ 52 ∷ 28 ∷ 46 ∷ 40 ∷ 22 ∷ 25 ∷ 61 ∷ 54 ∷ 51 ∷ 39 ∷ 26 ∷ 35 ∷ 14 ∷ 24 ∷ 23 ∷ 15 ∷ 20 ∷ 34 ∷ 11 ∷ 53 ∷ 45 ∷ 6 ∷ 63 ∷ 2 ∷ 27 ∷ 21 ∷ 56 ∷ 9 ∷ 50 ∷ 19 ∷ 13 ∷ 47 ∷ 48 ∷ 5 ∷ 7 ∷ 30 ∷ 12 ∷ 41 ∷ 42 ∷ 4 ∷ 38 ∷ 18 ∷ 10 ∷ 29 ∷ 17 ∷ 60 ∷ 36 ∷ 8 ∷ 59 ∷ 58 ∷ 55 ∷ 16 ∷ 3 ∷ 32 ∷ []) ∷ []) p []

pub inverse : ℕ → ℕ → ℕ
inverse p h = get_or (inverses p) h 0

-- times h and times its inverse undo each other at the powers of two
undone_at : ℕ → ℕ → ℕ → ℕ → Bool
undone_at p h g b = eqb (product p h (product p g b)) b && (eqb (product p g (product p h b)) b && (ltb (product p h b) (2 ^ p) && ltb (product p g b) (2 ^ p)))

pub field : ℕ → Bool
field p = all_to (λ h. eqb h 0 || all_to (λ i. undone_at p h (inverse p h) (2 ^ i)) p) (2 ^ p)

pub fields : T (field 2 && (field 3 && (field 4 && (field 5 && field 6))))
unfolding field undone_at inverse inverses xor
fields = tt

pub record Inverse (p h g : ℕ) : Type 0 where
  pub undoes : (b : ℕ) → b < 2 ^ p → product p h (product p g b) ≡ b
  pub undone : (b : ℕ) → b < 2 ^ p → product p g (product p h b) ≡ b
  pub closed : (b : ℕ) → b < 2 ^ p → product p h b < 2 ^ p
  pub closed-back : (b : ℕ) → b < 2 ^ p → product p g b < 2 ^ p

pub has_inverse : (p : ℕ) → T (field p) → (h : ℕ) → h < 2 ^ p → h ≢ 0 → Inverse p h (inverse p h)
unfolding field undone_at Linear
has_inverse p F h l n =
    record {
      undoes = agree (λ b. product p h (product p g b)) (after h g) p (λ i j. eqb→eq (product p h (product p g (2 ^ i))) (2 ^ i) (let t = at i j in search (fst_T, snd_T)));
      undone = agree (λ b. product p g (product p h b)) (after g h) p (λ i j. eqb→eq (product p g (product p h (2 ^ i))) (2 ^ i) (let t = at i j in search (fst_T, snd_T)));
      closed = stays (product p h) (linear p h) p p (λ i j. ltb→lt (product p h (2 ^ i)) (2 ^ p) (let t = at i j in search (fst_T, snd_T)));
      closed-back = stays (product p g) (linear p g) p p (λ i j. ltb→lt (product p g (2 ^ i)) (2 ^ p) (let t = at i j in search (fst_T, snd_T)));
    }
  where
    g : ℕ
    g = inverse p h

    after : (h g : ℕ) → Linear (λ b. product p h (product p g b))
    after h g x y = ap (product p h) (linear p g x y) ∙ linear p h (product p g x) (product p g y)

    at : (i : ℕ) → i < p → T (undone_at p h g (2 ^ i))
    at i j =
        all-at (λ i. undone_at p h (inverse p h) (2 ^ i)) p
        (⊎_elim (λ (e : T (eqb h 0)). absurd (n (eqb→eq h 0 e))) (λ (u : T (all_to (λ i. undone_at p h (inverse p h) (2 ^ i)) p)). u)
        (or_cases (eqb h 0) _ (all-at (λ h. eqb h 0 || all_to (λ i. undone_at p h (inverse p h) (2 ^ i)) p) (2 ^ p) F h l))) i j

pub fields_at : (p : ℕ) → 2 ≤ p → p ≤ 6 → T (field p)
fields_at = each_field field fields
