-- Tables are whole blocks of sixteen rows; a join's sizes.
use mathlib.Core.Path.{◌≡◌}
use Prim.Native.Nat.{ℕ, ◌*◌, ◌%◌}
use native.Mathlib.Decide.{ℕ_discrete}
use native.Mathlib.Omega.{arith}
use Rattle.tables.specs.inner.Shapes.{Table}

pub mul-even : (j l : ℕ) → Table l → j * l % 16 ≡ 0
mul-even j l W =
    elim (ℕ_discrete l 64) [
      | yes e ↦ rw e (omega arith)
      | no a ↦ elim (ℕ_discrete l 32) [ yes e ↦ rw e (omega arith) | no b ↦ let q : l ≡ 16 = W.one a b in rw q (omega arith) ]
    ]
