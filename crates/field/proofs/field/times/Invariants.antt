-- What has been added, and what is left of the recurrence, make the product; the second factor falls to 0.
use mathlib.Core.Path.{◌≡◌}
use Prim.Native.Nat.{◌^◌, ◌<◌}
use Rattle.trellis.specs.Field.{xor, product}
use Rattle.field.proofs.field.times.Given as goal

abbrev pub invariant-loop-left : goal.invariant-loop-left
invariant-loop-left l = (l.factor < 2 ^ l.p) × ((l.left < 2 ^ l.p) × (xor l.sum (product l.p l.factor l.left) ≡ product l.p l.a l.b))

abbrev pub decreases-loop-left : goal.decreases-loop-left
decreases-loop-left l = l.left
