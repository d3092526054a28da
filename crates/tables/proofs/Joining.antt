-- The tables of a shape are tables that a join takes.
use mathlib.Core.Path.{◌≡◌, refl}
use mathlib.Core.Bool.{Bool, true}
use mathlib.Core.List.{List}
use Prim.Native.Nat.{ℕ}
use native.Mathlib.Decide.{ℕ_discrete}
use native.Mathlib.Omega.{arith}
use lib.ListN.{length}
use borrow.Author.Tests.{eq-eqb}
use Rattle.trellis.specs.Lists.{tab}
use Rattle.vjoin.specs.Lanes.{risen_at}
use Rattle.vjoin.specs.Joins.{joinable, join_leaves}
use Rattle.tables.specs.inner.Shapes.{Shaped}

module _ {q l k : ℕ} (s : Shaped q l k) where
  few : l ≡ 16 → joinable q l ≡ true
  unfolding joinable
  few e =
      elim (ℕ_discrete q 4) [
        | yes a ↦ rw (e, a) refl
        | no a ↦
            elim (ℕ_discrete q 8) [
              | yes b ↦ rw (e, b) refl
              | no b ↦
                  elim (ℕ_discrete q 12) [
                    | yes c ↦ rw (e, c) refl
                    | no c ↦ let f : q ≡ 16 = omega (arith, s.fours, s.four, s.within) in rw (e, f) refl
                  ]
            ]
      ]

  pub joins : joinable q l ≡ true
  unfolding joinable
  joins =
      elim (ℕ_discrete l 64) [
        | yes e ↦ let f : q ≡ 64 = omega (arith, e, s.full (omega (arith, e))) in rw (e, f) refl
        | no a ↦
            elim (ℕ_discrete l 32) [
              | yes e ↦ let f : q ≡ 32 = omega (arith, e, s.full (omega (arith, e))) in rw (e, f) refl
              | no b ↦ few (s.table.one a b)
            ]
      ]

  pub joined_is : (g : Bool) (u w e : List ℕ) → length u ≡ l → length w ≡ l → length e ≡ l → join_leaves g q u w e ≡ tab (risen_at g q u w e) l
  unfolding join_leaves
  joined_is g u w e a b c = rw (a, b, c, eq-eqb l l refl, joins) refl
