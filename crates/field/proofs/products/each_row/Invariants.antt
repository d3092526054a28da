-- The rows of the weights before n stand, end to end.
use mathlib.Core.Path.{◌≡◌}
use Prim.Native.Nat.{◌*◌}
use lib.ListN.{length, take}
use Rattle.trellis.specs.Lists.{blocks}
use Rattle.field.specs.Answers.{row_of}
use Rattle.field.proofs.products.each_row.Given as goal

abbrev pub invariant-loop-n : goal.invariant-loop-n
invariant-loop-n l = (length l.out ≡ length l.fn.out) × (take (l.n * l.q) l.out ≡ blocks (row_of l.p l.weights) l.n)
