-- A turn patches one column of P, as the definition's recursion does (scatter_turn).
use mathlib.Core.Path.{◌≡◌}
use lib.ListN.{length}
use Rattle.layered.specs.inner.Columns.{scattered}
use Rattle.layered.proofs.column.scatter.Given as goal

abbrev pub invariant-loop-k : goal.invariant-loop-k
invariant-loop-k l = (length l.costs ≡ length l.fn.costs) × (l.costs ≡ scattered l.qs l.new l.cols l.g l.q l.k l.fn.costs)
