-- The loop fills the column from the front; at its end it is the machine's incoming (incoming-done).
use mathlib.Core.Path.{◌≡◌}
use Prim.Native.Nat.{ℕ, ◌-◌, min}
use lib.ListN.{length, take}
use Rattle.trellis.specs.Lists.{tab}
use Rattle.layered.specs.inner.Columns.{raised}
use Rattle.layered.proofs.column.incoming_column.Given as goal

abbrev pub invariant-loop-i : goal.invariant-loop-i
invariant-loop-i l = (length l.out ≡ length l.fn.out) × (take l.i l.out ≡ tab (λ (x : ℕ). min 255 (raised l.g l.costs l.old x - l.least)) l.i)
