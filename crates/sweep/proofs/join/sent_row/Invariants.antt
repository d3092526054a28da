-- The bytes before a stand; a cost sent is below 256, so a byte holds it.
use mathlib.Core.Path.{◌≡◌}
use lib.ListN.{length, take}
use Rattle.trellis.specs.Lists.{tab}
use Rattle.trellis.specs.Field.{xor}
use Rattle.sweep.specs.inner.Joins.{join_at}
use Rattle.sweep.proofs.join.sent_row.Given as goal

abbrev pub invariant-loop-a : goal.invariant-loop-a
invariant-loop-a l = (length l.out ≡ length l.fn.out) × (take l.a l.out ≡ tab (λ a. join_at l.sides.greatest l.sides.q l.sides.k l.sides.before.now l.sides.after.now (xor a l.s)) l.a)
