-- The record lengths of the first M degrees are those of the code's checks.
use mathlib.Core.Path.{refl, ◌∙◌}
use Rattle.layered.proofs.Decoded.{used_is}
use Rattle.channels.proofs.layout.layout_of.Goals as goal

pub invariant_of-result-clause-store_is : goal.invariant_of-result-clause-store_is
invariant_of-result-clause-store_is c = c.used.ensures ∙ used_is c.args.code.now c.args.code.now.numbers.columns refl
