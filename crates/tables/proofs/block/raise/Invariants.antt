use mathlib.Core.Path.{◌≡◌}
use mathlib.Core.List.{◌++◌}
use Prim.Native.Nat.{◌*◌, max}
use lib.ListN.{drop, get_or}
use Rattle.trellis.specs.Lists.{tab}
use Rattle.tables.proofs.block.raise.Given as goal

abbrev pub invariant-loop-b : goal.invariant-loop-b
invariant-loop-b l = l.e ≡ tab (λ k. max (get_or l.initial.e k 0) (get_or l.from k 0)) (16 * l.b) ++ drop (16 * l.b) l.initial.e
