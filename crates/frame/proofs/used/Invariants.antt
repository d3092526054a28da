-- The sum is the place behind the records so far, with a bound that no sum reaches.
use Rattle.std.proofs.Common.{◌≡◌, ◌*◌, ◌≤◌}
use Rattle.machine.specs.inner.Tables.{bytes_before}
use Rattle.frame.proofs.used.Given as goal

abbrev pub invariant-loop-d : goal.invariant-loop-d
invariant-loop-d l = (l.sum ≡ bytes_before l.fn.numbers.first l.degrees l.d-index) × (l.sum ≤ l.d-index * 229624)
