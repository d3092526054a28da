-- The columns before the loop's are combined.
use mathlib.Core.Path.{◌≡◌}
use Prim.Native.Nat.{◌*◌}
use lib.ListN.{length, take}
use Rattle.machine.specs.Combining.{combined_to}
use Rattle.combiner.proofs.columns.combine_all.Given as goal

abbrev pub invariant-loop-c : goal.invariant-loop-c
invariant-loop-c l = (length l.out ≡ l.n * l.q) × (take (l.c * l.q) l.out ≡ combined_to l.q l.first l.second l.c)
