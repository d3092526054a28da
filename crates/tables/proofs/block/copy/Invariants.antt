use mathlib.Core.Path.{◌≡◌}
use mathlib.Core.List.{◌++◌}
use Prim.Native.Nat.{◌*◌}
use lib.ListN.{drop, get_or}
use Rattle.trellis.specs.Lists.{tab}
use Rattle.tables.proofs.block.copy.Given as goal

abbrev pub invariant-loop-b : goal.invariant-loop-b
invariant-loop-b l = l.e ≡ tab (λ k. get_or l.from k 0) (16 * l.b) ++ drop (16 * l.b) l.initial.e
