-- After i parts the table starts with the cells kept over 0, 1, .. i - 1 columns; the next follows from the last of them.
use mathlib.Core.Path.{◌≡◌}
use mathlib.Core.List.{◌++◌}
use Prim.Native.Nat.{◌*◌}
use lib.ListN.{length, drop}
use Rattle.trellis.specs.Lists.{blocks}
use Rattle.trellis.specs.Rules.{rule_for, size_of, columns_of}
use Rattle.sweep.specs.Kept.{cell_count}
use Rattle.sweep.specs.inner.Cells.{is_back, cells_after}
use Rattle.sweep.proofs.columns.fill.Given as goal

abbrev pub invariant-loop-i : goal.invariant-loop-i
invariant-loop-i l = (length l.cells ≡ cell_count l.check.first) × ((length l.table ≡ length l.check.weights.now * l.w) × (l.table ≡ blocks (cells_after (rule_for l.check.first) (is_back l.direction) (columns_of (size_of l.check.first) l.check.weights.now l.check.costs.now)) l.i ++ drop (l.i * l.w) l.table))
