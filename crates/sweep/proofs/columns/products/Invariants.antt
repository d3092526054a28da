-- The products before x stand.
use mathlib.Core.Path.{◌≡◌}
use lib.ListN.{length, take}
use Rattle.trellis.specs.Lists.{tab}
use Rattle.trellis.specs.Field.{product}
use Rattle.sweep.proofs.columns.products.Given as goal

abbrev pub invariant-loop-x : goal.invariant-loop-x
invariant-loop-x l = (length l.row ≡ length l.fn.row) × (take l.x l.row ≡ tab (product l.p l.h) l.x)
