use mathlib.Core.Path.{◌∙◌, ap}
use native.Mathlib.Omega.{arith}
use borrow.Author.Rules.{rules}
use lib.ListN.{length}
use Rattle.trellis.proofs.Loops.{block_next}
use Rattle.field.specs.Answers.{row_of}
use Rattle.field.proofs.Filling.{row-full}
use Rattle.field.proofs.table.rows_from.Goals as goal

pub loop-n-preserved : goal.loop-n-preserved
loop-n-preserved c =
    let a = c.args in
    let n = c.loop-n.n in
    let w = a.weights.now in
    (search rules, block_next (row_of 6 w) n 64 _ c.loop-n.out c.row_from.new.out (omega (arith, c.loop-n.invariant.0, c.requires.out_len)) (ap length c.row_from.ensures ∙ row-full 6 w n) c.row_from.ensures c.loop-n.invariant.1)
