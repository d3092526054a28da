use mathlib.Core.Path.{refl}
use native.Mathlib.Omega.{arith}
use borrow.Author.Rules.{rules}
use lib.ListN.{get_or}
use Rattle.trellis.specs.Field.{xor}
use Rattle.trellis.proofs.Loops.{fill_next}
use Rattle.sweep.proofs.step.kept.Goals as goal

pub loop-t-preserved : goal.loop-t-preserved
unfolding xor
loop-t-preserved c =
    (search rules, fill_next (λ t. get_or c.args.same.now (xor t c.args.s) 0) c.loop-t.out c.loop-t.t _ (omega arith) c.loop-t.invariant.1 refl)
