-- The law of the search.
use mathlib.Core.List.{map}
use Prim.Native.Nat.{◌-◌}
use lib.ListN.{length}
use Rattle.decision.proofs.Searching.{Searched}
use Rattle.decision.proofs.decide.Given as goal

abbrev pub invariant-loop-x : goal.invariant-loop-x
invariant-loop-x g l = Searched (map g.C.Cost.value l.costs) l.x

abbrev pub decreases-loop-x : goal.decreases-loop-x
decreases-loop-x g l = length l.costs - l.x
