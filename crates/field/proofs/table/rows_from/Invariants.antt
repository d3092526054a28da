-- The rows of the weights before n stand, each copied from the table.
use mathlib.Core.Path.{◌≡◌}
use Prim.Native.Nat.{◌*◌}
use lib.ListN.{length, take}
use Rattle.trellis.specs.Lists.{blocks}
use Rattle.field.specs.Answers.{row_of}
use Rattle.field.proofs.table.rows_from.Given as goal

abbrev pub invariant-loop-n : goal.invariant-loop-n
invariant-loop-n l = (length l.out ≡ length l.fn.out) × (take (l.n * 64) l.out ≡ blocks (row_of 6 l.weights) l.n)
