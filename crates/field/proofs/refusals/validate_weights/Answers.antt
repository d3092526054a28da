-- The power of an accepted first byte is in range.
use mathlib.Core.Path.{◌∙◌, sym}
use Rattle.trellis.proofs.Rules.{first-power}
use Rattle.field.proofs.refusals.validate_weights.Goals as goal

pub size-requires : goal.size-requires
size-requires c =
    rw c.power.ensures (first-power _ (sym c.accepted.ensures ∙ c.if-not-accepted.false))
