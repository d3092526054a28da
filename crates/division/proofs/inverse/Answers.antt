-- The element's place in the table.
use mathlib.Core.Path.{ap₂}
use Prim.Native.Nat.{◌+◌}
use Rattle.division.proofs.Quotients.{inverse_at}
use Rattle.division.proofs.inverse.Goals as goal

pub returns : goal.returns
returns c =
    inverse_at c.inverses-table.result c.inverses-table.ensures c.args.p c.args.h (c.size.result + c.from.result) c.requires (ap₂ ◌+◌ c.size.ensures.0 c.from.ensures)
