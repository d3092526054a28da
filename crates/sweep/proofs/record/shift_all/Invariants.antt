-- The first shifts stand, and the terms behind them as they were.
use Rattle.trellis.specs.Lists.{tab}
use Rattle.trellis.specs.Field.{xor}
use mathlib.Core.Path.{◌≡◌}
use mathlib.Core.List.{◌++◌}
use lib.ListN.{length, drop, get_or}
use Rattle.sweep.proofs.record.shift_all.Given as goal

abbrev pub invariant-loop-x : goal.invariant-loop-x
invariant-loop-x l = (length l.out ≡ length l.fn.out) × (l.out ≡ tab (λ j. xor l.sum (get_or l.fn.out j 0)) l.x-index ++ drop l.x-index l.fn.out)
