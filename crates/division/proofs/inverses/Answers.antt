-- One computed test: each entry of the constant is the inverse of its element.
use Rattle.trellis.specs.Field.{xor}
use Rattle.division.specs.inner.Table.{all_inverted}
use Rattle.division.proofs.inverses.Goals as goal

pub returns : goal.returns
unfolding all_inverted xor
returns c = tt
