use mathlib.Core.Path.{◌∙◌, ap, sym}
use native.Mathlib.Omega.{arith}
use borrow.Author.Rules.{rules}
use lib.ListN.{length}
use Rattle.trellis.proofs.Loops.{block_next}
use Rattle.field.specs.Answers.{row_of}
use Rattle.field.proofs.Filling.{row-full, rows_room}
use Rattle.field.proofs.products.each_row.Goals as goal

pub loop-n-preserved : goal.loop-n-preserved
loop-n-preserved c =
    let a = c.args in
    let n = c.loop-n.n in
    let r = rows_room c.requires.factors a.q c.requires.q_value.0 n (omega arith) in
    (search rules, block_next (row_of a.p a.weights.now) n a.q _ c.loop-n.out c.row.new.row (omega (arith, r.1, c.loop-n.invariant.0, c.requires.q_value.1)) (ap length c.row.ensures ∙ row-full a.p a.weights.now n ∙ sym c.requires.q_value.0) c.row.ensures c.loop-n.invariant.1)
