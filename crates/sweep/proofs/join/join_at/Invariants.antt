-- The least over the counts before i; the counts after are those that are left of k.
use mathlib.Core.Path.{◌≡◌}
use Prim.Native.Nat.{◌+◌, ◌-◌, ◌*◌}
use Rattle.trellis.specs.Lists.{part}
use Rattle.trellis.specs.Sweep.{least_to}
use Rattle.sweep.specs.inner.Joins.{beside_at}
use Rattle.sweep.proofs.join.join_at.Given as goal

abbrev pub invariant-loop-i : goal.invariant-loop-i
invariant-loop-i l = l.e ≡ least_to (λ i. beside_at l.sides.greatest l.sides.q (part l.sides.before.now (i * l.sides.q) l.sides.q) l.sides.after.now (l.sides.k - i + 1) l.t) l.i
