use Prim.Native.Nat.{◌*◌}
use native.Mathlib.Omega.{arith}
use Rattle.tables.proofs.Blocks.{copy_turn, copied}
use Rattle.tables.proofs.block.copy.Goals as goal

pub loop-b-preserved : goal.loop-b-preserved
loop-b-preserved c = copy_turn c.args.from.now c.args.e.now c.loop-b.e c.loop-b.b (omega arith) c.requires.same c.loop-b.invariant

pub returns : goal.returns
returns c = copied c.args.from.now c.args.e.now c.loop-b.e (16 * c.loop-b.b) c.requires.same (omega arith) c.loop-b.invariant
