-- The least over the symbols before x; no sum leaves the field.
use mathlib.Core.Path.{◌≡◌}
use lib.ListN.{get_or}
use Rattle.trellis.specs.Field.{xor}
use Rattle.trellis.specs.Rules.{join_of}
use Rattle.trellis.specs.Sweep.{least_to}
use Rattle.sweep.proofs.step.deviation_at.Given as goal

abbrev pub invariant-loop-x : goal.invariant-loop-x
invariant-loop-x l = l.e ≡ least_to (λ x. join_of l.column.greatest (get_or l.column.moves.now x 0) (get_or l.low (xor l.t (get_or l.column.products.now x 0)) 0)) l.x
