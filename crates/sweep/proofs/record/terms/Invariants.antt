-- The terms before n stand, and sum is theirs.
use mathlib.Core.Path.{◌≡◌}
use lib.ListN.{length, take}
use Rattle.trellis.specs.Lists.{tab}
use Rattle.trellis.specs.Rules.{power_of}
use Rattle.engine.specs.inner.Terms.{term_of, sum_to}
use Rattle.sweep.proofs.record.terms.Given as goal

abbrev pub invariant-loop-n : goal.invariant-loop-n
invariant-loop-n l = (length l.out ≡ length l.fn.out) × ((take l.n l.out ≡ tab (term_of (power_of l.check.first) l.check.weights.now l.check.costs.now) l.n) × (l.sum ≡ sum_to (term_of (power_of l.check.first) l.check.weights.now l.check.costs.now) l.n))
