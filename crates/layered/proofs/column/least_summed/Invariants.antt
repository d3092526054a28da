-- The invariant is the definition's own recursion.
use mathlib.Core.Path.{◌≡◌}
use Prim.Native.Nat.{◌≤◌}
use lib.ListN.{length}
use Rattle.layered.specs.inner.Columns.{least_summed}
use Rattle.layered.proofs.column.least_summed.Given as goal

abbrev pub invariant-loop-c : goal.invariant-loop-c
invariant-loop-c l = (l.least ≡ least_summed l.g l.qs l.new (length l.yielded)) × (l.least ≤ 1000)
