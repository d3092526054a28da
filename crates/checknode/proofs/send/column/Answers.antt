use native.Mathlib.Omega.{arith}
use borrow.Author.Rules.{rules}
use Rattle.trellis.specs.Field.{xor}
use Rattle.checknode.specs.inner.Lines.{sent_in}
use Rattle.trellis.proofs.Loops.{fill_next}
use Rattle.checknode.proofs.send.column.Goals as goal

pub bounds-rests-from : goal.bounds-rests-from
unfolding xor
bounds-rests-from c =
    omega (arith, c.requires.below c.loop-x.x (omega arith), c.from.ensures)

pub loop-x-preserved : goal.loop-x-preserved
unfolding xor
loop-x-preserved c =
    (search rules, fill_next (sent_in c.args.row.now c.args.s c.args.rests.now) c.loop-x.out c.loop-x.x _ (omega arith) c.loop-x.invariant.1 (search rules))
