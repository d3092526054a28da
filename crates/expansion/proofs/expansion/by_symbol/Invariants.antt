-- The symbols before x have the value of their row; the others still have their products.
use mathlib.Core.Path.{◌≡◌}
use lib.ListN.{length, take, drop}
use Rattle.trellis.specs.Lists.{tab}
use Rattle.expansion.specs.inner.Transposed.{by_symbol}
use Rattle.expansion.proofs.expansion.by_symbol.Given as goal

abbrev pub invariant-loop-x : goal.invariant-loop-x
invariant-loop-x l = (length l.out ≡ length l.fn.out) × ((take l.x-index l.out ≡ tab (by_symbol l.v l.fn.out l.s) l.x-index) × (drop l.x-index l.out ≡ drop l.x-index l.fn.out))
