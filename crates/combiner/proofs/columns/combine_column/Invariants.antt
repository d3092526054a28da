-- The loop fills the column from the front; at its end it is the combined column (column-done).
use mathlib.Core.Path.{◌≡◌}
use Prim.Native.Nat.{ℕ, ◌-◌, min}
use lib.ListN.{length, take}
use Rattle.trellis.specs.Lists.{tab}
use Rattle.machine.specs.Combining.{both_costs}
use Rattle.combiner.proofs.columns.combine_column.Given as goal

abbrev pub invariant-loop-i : goal.invariant-loop-i
invariant-loop-i l = (length l.out ≡ length l.initial.out) × (take l.i l.out ≡ tab (λ (x : ℕ). min 255 (both_costs l.first l.second x - l.low)) l.i)
