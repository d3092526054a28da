-- The loop fills the column from the front; at its end it is the machine's outgoing (outgoing-done).
use mathlib.Core.Path.{◌≡◌}
use Prim.Native.Nat.{ℕ, ◌-◌}
use lib.ListN.{length, take}
use Rattle.trellis.specs.Lists.{tab}
use Rattle.layered.specs.inner.Columns.{summed}
use Rattle.layered.proofs.column.outgoing_column.Given as goal

abbrev pub invariant-loop-i : goal.invariant-loop-i
invariant-loop-i l = (length l.costs ≡ length l.fn.costs) × (take l.i l.costs ≡ tab (λ (x : ℕ). summed l.g l.qs l.new x - l.least) l.i)
