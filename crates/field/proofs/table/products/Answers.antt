-- One computed test: the constant is the list of the recurrence's values at each pair.
use Rattle.trellis.specs.Field.{xor}
use Rattle.field.specs.inner.Table.{product_table}
use Rattle.field.proofs.Tables.{same_is}
use Rattle.field.proofs.table.products.Goals as goal

pub returns : goal.returns
unfolding product_table xor
returns c = same_is _ product_table tt
