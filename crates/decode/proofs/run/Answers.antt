-- What stands written in the end is the whole output.
use Rattle.std.proofs.Common.{arith}
use Rattle.decode.proofs.Owes.{whole_done}
use Rattle.decode.proofs.run.Goals as goal

pub returns : goal.returns
returns g c = whole_done c.loop-left.done _ _ _ _ _ _ c.loop-left.left (omega arith) c.loop-left.invariant.1 c.in_ok-finish.ensures
