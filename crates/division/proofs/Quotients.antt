-- The table's entries are inverses, and a product with the inverse is the quotient; what `times` and `divide` answer where they are not refused.
use mathlib.Core.Path.{◌≡◌, refl, sym, ap, ◌∙◌}
use mathlib.Core.Bool.{Bool, true, false, ◌||◌}
use mathlib.Core.Logic.{⊎_elim}
use mathlib.Core.List.{List}
use Prim.Native.Nat.{ℕ, zero, suc, ◌+◌, ◌^◌, ◌≤◌, ◌<◌}
use native.Mathlib.Omega.{arith}
use native.Mathlib.Decide.{dec_lt}
use lib.Dec.{T, eqb, ltb, eqb→eq, ltb→lt}
use lib.ListN.{get_or}
use borrow.Author.Tests.{eqb-false, ne_eqb, le-ltb, lt-ltb, ltb-true, ltb-false, lt-leb, le-leb}
use Rattle.trellis.specs.Lists.{pick}
use Rattle.trellis.specs.Field.{product, quotient}
use Rattle.trellis.proofs.Tests.{fst_T, snd_T, or_cases, all-at, each_field}
use Rattle.trellis.proofs.Xor.{xor_right}
use Rattle.trellis.proofs.Recurrence.{product-zero}
use Rattle.trellis.proofs.FieldLaws.{field, fields_at, inverse, Inverse, has_inverse}
use Rattle.trellis.proofs.Quotients.{quotient-one, times-one}
use Rattle.field.specs.Answers.{product_reply}
use Rattle.division.specs.inner.Table.{inverted_at, inverted, all_inverted}
use Rattle.division.specs.Numbers.{divisor_ok, quotient_or, DivisorRoom, QuotientRoom}

-- what stands at a place of the table
pub inverse_at : (l : List ℕ) → T (all_inverted l) → (p h i : ℕ) → DivisorRoom p h → i ≡ 2 ^ p + h → (get_or l i 0 < 2 ^ p) × (product p h (get_or l i 0) ≡ 1)
unfolding all_inverted
inverse_at l t p h i R e =
    let u : T (inverted_at l p h) =
    ⊎_elim (λ (z : T (eqb h 0)). absurd (R.some (eqb→eq h 0 z))) (λ (z : T (inverted_at l p h)). z)
    (or_cases (eqb h 0) _ (all-at (λ h. eqb h 0 || inverted_at l p h) (2 ^ p) (each_field (inverted l) t p R.low R.high) h R.small)) in
    rw e (ltb→lt _ _ (snd_T (eqb (product p h (get_or l (2 ^ p + h) 0)) 1) _ u), eqb→eq _ 1 (fst_T (eqb (product p h (get_or l (2 ^ p + h) 0)) 1) _ u))

product-one : (p x : ℕ) → 2 ≤ p → product p x 1 ≡ x
product-one zero x h = absurd (omega arith)
product-one (suc n) x h = rw (product-zero n (suc n)) (xor_right x)

-- a product with the element that times h is 1
module _ (p h s : ℕ) (R : QuotientRoom p h s) (g : ℕ) (l : g < 2 ^ p) (e : product p h g ≡ 1) where
  F : T (field p)
  F = fields_at p R.divisor.low R.divisor.high

  I : Inverse p h (inverse p h)
  I = has_inverse p F h R.divisor.small R.divisor.some

  one-small : 1 < 2 ^ p
  one-small = let q = R.divisor.some in omega (arith, R.divisor.small)

  g-is : g ≡ inverse p h
  g-is =
      times-one p F h R.divisor.small R.divisor.some g (product p (inverse p h) 1) l (I.closed-back 1 one-small) (e ∙ sym (I.undoes 1 one-small))
      ∙ product-one p (inverse p h) R.divisor.low

  pub divided : (x : ℕ) → x ≡ product p g s → x ≡ quotient p h s
  divided x o =
      let y : x ≡ product p (inverse p h) s = o ∙ ap (λ g. product p g s) g-is in
      rw y (quotient-one p F h R.divisor.small R.divisor.some s (product p (inverse p h) s) R.dividend (I.closed-back s R.dividend) (I.undoes s R.dividend))

-- a product of elements is not refused
pub times_is : (p a b : ℕ) → 2 ≤ p → p ≤ 6 → a < 2 ^ p → b < 2 ^ p → (product_reply p a b).value ≡ product p a b
unfolding product_reply
times_is p a b low high h k = rw (le-ltb p 2 low, le-ltb 6 p high, lt-leb (2 ^ p) a h, lt-leb (2 ^ p) b k)

times_none : (p a b : ℕ) → 2 ≤ p → p ≤ 6 → a < 2 ^ p → 2 ^ p ≤ b → (product_reply p a b).value ≡ 0
unfolding product_reply
times_none p a b low high h k = rw (le-ltb p 2 low, le-ltb 6 p high, lt-leb (2 ^ p) a h, le-leb (2 ^ p) b k)

-- the tests of a divisor
module _ (p h : ℕ) where
  pub divisor-room : divisor_ok p h ≡ true → DivisorRoom p h
  unfolding divisor_ok
  divisor-room e = go (ltb p 2) refl (ltb 6 p) refl (eqb h 0) refl e
    where
      go : (a : Bool) → ltb p 2 ≡ a → (b : Bool) → ltb 6 p ≡ b → (c : Bool) → eqb h 0 ≡ c → pick a false (pick b false (pick c false (ltb h (2 ^ p)))) ≡ true → DivisorRoom p h
      go false i false j false k e = record { low = ltb-false _ _ i; high = ltb-false _ _ j; some = eqb-false _ _ k; small = ltb-true _ _ e }
      go true i b j c k e = let z : ◌≡◌ {A = ℕ} 0 1 = cc in absurd (omega arith)
      go false i true j c k e = let z : ◌≡◌ {A = ℕ} 0 1 = cc in absurd (omega arith)
      go false i false j true k e = let z : ◌≡◌ {A = ℕ} 0 1 = cc in absurd (omega arith)

  pub divisor_ok_lem : DivisorRoom p h → divisor_ok p h ≡ true
  unfolding divisor_ok
  divisor_ok_lem R = rw (le-ltb p 2 R.low, le-ltb 6 p R.high, ne_eqb h 0 R.some) (lt-ltb h (2 ^ p) R.small)

  module _ (s : ℕ) where
    pub quotient_is : QuotientRoom p h s → quotient_or p h s ≡ quotient p h s
    unfolding quotient_or
    quotient_is R = rw (divisor_ok_lem R.divisor, lt-ltb s (2 ^ p) R.dividend)

    -- what `divide` answers
    pub divide_none : (b : Bool) → b ≡ divisor_ok p h → b ≡ false → 0 ≡ quotient_or p h s
    unfolding quotient_or
    divide_none b e i = rw (sym e ∙ i)

    pub divide_good : (b : Bool) → b ≡ divisor_ok p h → b ≡ true → (g : ℕ) → g < 2 ^ p → product p h g ≡ 1 → (x : ℕ) → x ≡ (product_reply p g s).value → x ≡ quotient_or p h s
    unfolding quotient_or
    divide_good b e i g l o x y =
        let t : divisor_ok p h ≡ true = sym e ∙ i in
        let R : DivisorRoom p h = divisor-room t in
        elim (dec_lt s (2 ^ p)) [
          | yes k ↦ rw (t, lt-ltb s (2 ^ p) k) (divided p h s (record { divisor = R; dividend = k }) g l o x (y ∙ times_is p g s R.low R.high l k))
          | no k ↦ rw (t, le-ltb s (2 ^ p) (omega arith)) (y ∙ times_none p g s R.low R.high l (omega arith))
        ]
