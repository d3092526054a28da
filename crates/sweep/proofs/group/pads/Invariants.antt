-- After i turns the first i pairs are unused ones.
use mathlib.Core.Path.{◌≡◌}
use Prim.Native.Nat.{◌*◌}
use lib.ListN.{length, take}
use Rattle.trellis.specs.Lists.{blocks}
use Rattle.sweep.specs.inner.Groups.{unused_pair}
use Rattle.sweep.proofs.group.pads.Given as goal

abbrev pub invariant-loop-i : goal.invariant-loop-i
invariant-loop-i l = (length l.out ≡ length l.fn.out) × (take (l.i * 2) l.out ≡ blocks unused_pair l.i)
