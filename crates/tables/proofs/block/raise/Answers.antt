use native.Mathlib.Omega.{arith}
use Rattle.tables.proofs.Blocks.{raise_turn}
use Rattle.tables.proofs.block.raise.Goals as goal

pub loop-b-preserved : goal.loop-b-preserved
loop-b-preserved c = raise_turn c.args.from.now c.args.e.now c.loop-b.e c.loop-b.b (omega arith) c.requires.same c.loop-b.invariant c.better-x.ensures
