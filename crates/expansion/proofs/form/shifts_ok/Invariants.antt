-- The test is that of the shifts before this one.
use mathlib.Core.Path.{◌≡◌}
use lib.Dec.{ltb}
use lib.ListN.{get_or}
use Rattle.trellis.specs.Lists.{all_to}
use Rattle.expansion.proofs.form.shifts_ok.Given as goal

abbrev pub invariant-loop-s : goal.invariant-loop-s
invariant-loop-s l = l.ok ≡ all_to (λ n. ltb (get_or l.r n 0) l.q) l.s-index
