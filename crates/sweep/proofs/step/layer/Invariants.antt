-- The sums before t stand; what is written is at most the mark.
use mathlib.Core.Path.{◌≡◌}
use lib.ListN.{length, take}
use Rattle.trellis.specs.Lists.{tab}
use Rattle.sweep.specs.inner.Cells.{layer_at}
use Rattle.sweep.proofs.step.layer.Given as goal

abbrev pub invariant-loop-t : goal.invariant-loop-t
invariant-loop-t l = (length l.out ≡ length l.fn.out) × (take l.t l.out ≡ tab (layer_at l.column.greatest l.column.products.now l.column.moves.now l.low l.same l.column.decided) l.t)
