-- A shift of 1 by p is 2 ^ p, which 64 bits hold.
use native.Mathlib.Omega.{arith}
use Rattle.trellis.proofs.Recurrence.{size_64}
use Rattle.division.proofs.size.Goals as goal

pub returns : goal.returns
returns c = omega (arith, size_64 c.args.p c.requires)
