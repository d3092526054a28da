-- A column's costs, placed by its products with the weight, are its line.
use mathlib.Core.Path.{◌≡◌, sym, ap, ◌∙◌}
use mathlib.Core.List.{List}
use Prim.Native.Nat.{ℕ, ◌-◌, ◌≤◌, ◌<◌}
use native.Mathlib.Omega.{arith}
use lib.ListN.{length, get_or}
use Rattle.trellis.specs.Lists.{tab}
use Rattle.trellis.specs.Field.{xor}
use Rattle.trellis.specs.Check.{Rule, Column, weigh, decision, column}
use Rattle.trellis.specs.Rows.{difference, symbol_at}
use Rattle.engine.specs.inner.Lines.{placed}
use Rattle.engine.specs.inner.Rests.{line_at}
use Rattle.trellis.proofs.Sent.{Proper}
use Rattle.trellis.proofs.Kept.{difference-small, symbol-at, symbol_own}
use Rattle.trellis.proofs.Loops.{length-tab, stores, stores_at}

module _ (R : Rule) (cs : List Column) (P : Proper R cs) (n : ℕ) (k : n < length cs) (row : List ℕ) (products : (x : ℕ) → x < R.size → get_or row x 0 ≡ weigh R (column cs n) x)
    (l : ℕ) (wide : R.size ≤ l) where
  abbrev c : Column
  c = column cs n

  abbrev s : ℕ
  s = weigh R c (decision c).symbol

  abbrev to : ℕ → ℕ
  to x = xor (get_or row x 0) s

  at : (x : ℕ) → x < R.size → to x ≡ difference R c x
  at x u = ap (λ y. xor y s) (products x u)

  pub placed_row : (a : ℕ) → a < R.size → get_or (placed c.costs row s R.size (tab (λ a. 0) l)) a 0 ≡ line_at R c a
  unfolding placed line_at
  placed_row a h =
      let y = symbol-at R cs P n k a h in
      let x : ℕ = symbol_at R c a in
      let o : to x ≡ a = at x y.1 ∙ y.0 in
      let w : get_or (stores to (λ x. 255 - get_or c.costs x 0) (tab (λ a. 0) l) R.size) (to x) 0 ≡ 255 - get_or c.costs x 0 =
      stores_at to (λ x. 255 - get_or c.costs x 0) (tab (λ a. 0) l) R.size (λ i j. rw (at i j) (omega (arith, difference-small R cs P n k i j, length-tab (λ a. 0) l)))
      (λ i j p q r. sym (symbol_own R cs P n k i p) ∙ ap (symbol_at R c) (sym (at i p) ∙ r ∙ at j q) ∙ symbol_own R cs P n k j q) x y.1 in
      rw o at w
