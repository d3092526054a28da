-- The test is that of the weights before this one.
use mathlib.Core.Path.{◌≡◌}
use lib.ListN.{get_or}
use Rattle.trellis.specs.Lists.{all_to}
use Rattle.field.specs.Answers.{weight_ok}
use Rattle.field.proofs.refusals.weights_ok.Given as goal

abbrev pub invariant-loop-h : goal.invariant-loop-h
invariant-loop-h l = l.ok ≡ all_to (λ j. weight_ok l.q (get_or l.weights j 0)) l.h-index
