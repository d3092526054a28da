-- After i turns the bytes of 1, .. i stand.
use mathlib.Core.Path.{◌≡◌}
use Prim.Native.Nat.{◌+◌, ◌*◌}
use lib.ListN.{length, take}
use Rattle.trellis.specs.Lists.{blocks}
use Rattle.sweep.specs.inner.Groups.{sent_of, group_by}
use Rattle.sweep.proofs.group.groups.Given as goal

abbrev pub invariant-loop-i : goal.invariant-loop-i
invariant-loop-i l = (length l.out ≡ length l.fn.out) × (take (l.i * l.w) l.out ≡ blocks (λ i. group_by l.k l.d (sent_of l.sent l.q (i + 1))) l.i)
