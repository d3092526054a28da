-- The test is that of the groups before b.
use mathlib.Core.Path.{◌≡◌}
use Prim.Native.Nat.{◌+◌, ◌*◌}
use lib.ListN.{get_or}
use Rattle.trellis.specs.Lists.{all_to}
use Rattle.trellis.specs.Record.{pairs_ok}
use Rattle.expansion.proofs.form.groups_ok.Given as goal

abbrev pub invariant-loop-b : goal.invariant-loop-b
invariant-loop-b l = l.ok ≡ all_to (λ b. pairs_ok l.k l.r (l.d + (1 + 2 * l.k) * b + 1) (get_or l.r (l.d + (1 + 2 * l.k) * b) 0) l.d 0) l.b
