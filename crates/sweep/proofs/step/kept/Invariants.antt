-- The sums before t stand.
use mathlib.Core.Path.{◌≡◌}
use lib.ListN.{length, take, get_or}
use Rattle.trellis.specs.Lists.{tab}
use Rattle.trellis.specs.Field.{xor}
use Rattle.sweep.proofs.step.kept.Given as goal

abbrev pub invariant-loop-t : goal.invariant-loop-t
invariant-loop-t l = (length l.out ≡ length l.fn.out) × (take l.t l.out ≡ tab (λ t. get_or l.same (xor t l.s) 0) l.t)
