-- The least of the costs so far, turn by turn.
use mathlib.Core.Path.{◌≡◌}
use mathlib.Core.List.{map}
use Rattle.trellis.specs.inner.Margins.{least_but}
use Rattle.decision.specs.inner.Bounds.{BoundedBut}
use Rattle.decision.proofs.margin.least_but.Given as goal

abbrev pub invariant-loop-x : goal.invariant-loop-x
invariant-loop-x g l =
    (g.C.Cost.value l.least ≡ least_but g.C.Cost.bound (map g.C.Cost.value l.costs) l.z l.x) × BoundedBut g.C.Cost.bound (map g.C.Cost.value l.costs) l.z l.x
