-- The costs before x stand.
use mathlib.Core.Path.{◌≡◌}
use lib.ListN.{length, take}
use Rattle.trellis.specs.Lists.{tab}
use Rattle.sweep.specs.inner.Cells.{move_cost}
use Rattle.sweep.proofs.step.move_costs.Given as goal

abbrev pub invariant-loop-x : goal.invariant-loop-x
invariant-loop-x l = (length l.out ≡ length l.fn.out) × (take l.x l.out ≡ tab (move_cost l.costs l.z) l.x)
