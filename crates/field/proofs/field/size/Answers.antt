-- A shift of 1 by p is 2 ^ p, which a byte holds.
use native.Mathlib.Omega.{arith}
use Rattle.trellis.proofs.Recurrence.{size_64, size_4}
use Rattle.field.proofs.Arithmetic.{byte_power}
use Rattle.field.proofs.field.size.Goals as goal

pub returns : goal.returns
returns c =
    let p = c.args.p in
    let e = byte_power p c.requires.1 in
    (e, (omega (arith, e, size_4 p c.requires.0), omega (arith, e, size_64 p c.requires.1)))
