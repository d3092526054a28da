-- The lists before i stand, end to end.
use mathlib.Core.Path.{◌≡◌}
use Prim.Native.Nat.{◌*◌}
use lib.ListN.{length, take}
use Rattle.trellis.specs.Lists.{blocks}
use Rattle.expansion.specs.inner.Transposed.{list_of}
use Rattle.expansion.proofs.expansion.unpack.Given as goal

abbrev pub invariant-loop-i : goal.invariant-loop-i
invariant-loop-i l = (length l.out ≡ length l.fn.out) × (take (l.i * l.q) l.out ≡ blocks (list_of l.k l.d l.q l.r) l.i)
