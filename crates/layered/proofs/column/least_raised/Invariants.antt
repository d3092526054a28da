-- The invariant is the definition's own recursion.
use mathlib.Core.Path.{◌≡◌}
use Prim.Native.Nat.{◌≤◌}
use lib.ListN.{length}
use Rattle.layered.specs.inner.Columns.{least_raised}
use Rattle.layered.proofs.column.least_raised.Given as goal

abbrev pub invariant-loop-c : goal.invariant-loop-c
invariant-loop-c l = (l.least ≡ least_raised l.g l.costs l.old (length l.yielded)) × (l.least ≤ 1000)
