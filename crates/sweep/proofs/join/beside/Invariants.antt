-- The least over the counts before j.
use mathlib.Core.Path.{◌≡◌}
use Prim.Native.Nat.{◌*◌}
use Rattle.trellis.specs.Lists.{part}
use Rattle.trellis.specs.Sweep.{least_to}
use Rattle.sweep.specs.inner.Joins.{across_at}
use Rattle.sweep.proofs.join.beside.Given as goal

abbrev pub invariant-loop-j : goal.invariant-loop-j
invariant-loop-j l = l.e ≡ least_to (λ j. across_at l.greatest l.f (part l.after (j * l.q) l.q) l.t) l.j
