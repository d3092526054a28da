-- The counts before j stand, end to end.
use mathlib.Core.Path.{◌≡◌}
use Prim.Native.Nat.{◌*◌}
use lib.ListN.{length, take}
use Rattle.trellis.specs.Lists.{blocks}
use Rattle.sweep.specs.inner.Cells.{count_cells}
use Rattle.sweep.proofs.step.step.Given as goal

abbrev pub invariant-loop-j : goal.invariant-loop-j
invariant-loop-j l = (length l.out ≡ length l.fn.out) × (take (l.j * (length l.column.products.now)) l.out ≡ blocks (count_cells l.column.greatest (length l.column.products.now) l.column.products.now l.column.moves.now l.cells l.column.decided) l.j)
