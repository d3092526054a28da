-- The columns before n have their quotients.
use mathlib.Core.Path.{◌≡◌}
use lib.ListN.{length, take}
use Rattle.trellis.specs.Lists.{tab}
use Rattle.display.proofs.Shown.{divided_at}
use Rattle.display.proofs.showing.show.Given as goal

abbrev pub invariant-loop-n : goal.invariant-loop-n
invariant-loop-n l = (length l.out ≡ length l.fn.out) × (take l.n l.out ≡ tab (divided_at l.p l.weights l.bytes) l.n)
