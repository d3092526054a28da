-- The values of the rows before block b stand.
use mathlib.Core.Path.{◌≡◌}
use Prim.Native.Nat.{◌*◌}
use lib.ListN.{length, take}
use Rattle.trellis.specs.Lists.{tab}
use Rattle.expansion.specs.inner.Transposed.{value_in}
use Rattle.expansion.proofs.expansion.Lists.values.Given as goal

abbrev pub invariant-loop-b : goal.invariant-loop-b
invariant-loop-b l = (length l.v ≡ length l.fn.v) × (take (l.b * 16) l.v ≡ tab (value_in l.self.k l.self.bytes.now l.self.q l.n) (l.b * 16))
