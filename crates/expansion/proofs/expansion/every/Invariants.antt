-- The rows before a stand; row 0 is written before the loop.
use mathlib.Core.Path.{◌≡◌}
use Prim.Native.Nat.{◌≤◌}
use lib.ListN.{length, take}
use Rattle.trellis.specs.Lists.{tab}
use Rattle.expansion.specs.inner.Transposed.{every_at}
use Rattle.expansion.proofs.expansion.every.Given as goal

abbrev pub invariant-loop-a : goal.invariant-loop-a
invariant-loop-a l = (1 ≤ l.a) × ((length l.out ≡ length l.fn.out) × (take l.a l.out ≡ tab (every_at l.r l.at l.g l.first) l.a))
