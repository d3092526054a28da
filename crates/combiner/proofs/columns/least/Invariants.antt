-- The invariant is the definition's own recursion.
use mathlib.Core.Path.{◌≡◌}
use lib.ListN.{length}
use Rattle.combiner.specs.inner.Columns.{least_both}
use Rattle.combiner.proofs.columns.least.Given as goal

abbrev pub invariant-loop-a : goal.invariant-loop-a
invariant-loop-a l = l.least ≡ least_both l.first l.second (length l.yielded)
