-- The last line has at most 517 bytes.
use Rattle.std.proofs.Common.{arith}
use Rattle.decode.proofs.Short.{close_few}
use Rattle.decode.proofs.finish.Goals as goal

pub flush-requires : goal.flush-requires
flush-requires g c =
    let f = close_few _ _ c.close-n.ensures.written in
    omega (arith, f)
