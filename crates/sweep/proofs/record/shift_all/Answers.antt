use Rattle.trellis.specs.Field.{xor}
use Rattle.trellis.proofs.Loops.{tab-more, tab_seam}
use native.Mathlib.Omega.{arith}
use lib.Bits.{bit_xor}
use Rattle.std.proofs.lemmas.Nat.{xor_comm}
use lib.ListN.{get_or, length-set}
use Rattle.sweep.proofs.record.shift_all.Goals as goal

pub loop-x-preserved : goal.loop-x-preserved
unfolding xor
loop-x-preserved c =
    (simp length-set (omega arith), cc (tab-more (λ j. bit_xor c.args.sum (get_or c.args.out.now j 0)) c.args.out.now c.loop-x.x-index (omega arith), tab_seam (λ j. bit_xor c.args.sum (get_or c.args.out.now j 0)) c.args.out.now c.loop-x.x-index (omega arith), xor_comm (get_or c.loop-x.out c.loop-x.x-index 0) c.args.sum))
