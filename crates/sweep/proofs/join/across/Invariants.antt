-- The least of the sums before s; no join leaves the field.
use mathlib.Core.Path.{◌≡◌}
use lib.ListN.{get_or}
use Rattle.trellis.specs.Field.{xor}
use Rattle.trellis.specs.Rules.{join_of}
use Rattle.trellis.specs.Sweep.{least_to}
use Rattle.sweep.proofs.join.across.Given as goal

abbrev pub invariant-loop-s : goal.invariant-loop-s
invariant-loop-s l = l.e ≡ least_to (λ s. join_of l.greatest (get_or l.f s 0) (get_or l.g (xor s l.t) 0)) l.s
