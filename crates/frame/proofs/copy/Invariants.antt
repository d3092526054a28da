-- The loop fills the costs from the front with the frame's.
use Rattle.std.proofs.Common.{◌≡◌, length, take}
use Rattle.frame.proofs.copy.Given as goal

abbrev pub invariant-loop-c : goal.invariant-loop-c
invariant-loop-c l = (length l.costs ≡ length l.fn.costs) × (take l.c l.costs ≡ take l.c l.frame)
