-- The loop leaves the first k columns' Q in front of the rest; a turn patches column k (gather_turn).
use mathlib.Core.Path.{◌≡◌}
use lib.ListN.{length}
use Rattle.layered.specs.inner.Columns.{gathered}
use Rattle.layered.proofs.column.gather.Given as goal

abbrev pub invariant-loop-k : goal.invariant-loop-k
invariant-loop-k l = (length l.out ≡ length l.fn.out) × (l.out ≡ gathered l.costs l.cols l.old l.g l.q l.k l.fn.out)
