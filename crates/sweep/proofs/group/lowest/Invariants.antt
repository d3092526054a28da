-- After n turns the least of the first n.
use mathlib.Core.Path.{◌≡◌}
use Rattle.sweep.specs.inner.Groups.{lowest_to, sent_of}
use Rattle.sweep.proofs.group.lowest.Given as goal

abbrev pub invariant-loop-n : goal.invariant-loop-n
invariant-loop-n l = l.e ≡ lowest_to (sent_of l.sent l.q l.a) l.n
