use mathlib.Core.Path.{◌∙◌, ap}
use native.Mathlib.Omega.{arith}
use borrow.Author.Rules.{rules}
use lib.ListN.{length}
use Rattle.checknode.specs.inner.Lines.{sent_column}
use Rattle.trellis.proofs.Loops.{block_next}
use Rattle.checknode.proofs.Lining.{send_bounds, send_done, sent-full}
use Rattle.checknode.proofs.send.columns.Goals as goal

pub loop-n-preserved : goal.loop-n-preserved
loop-n-preserved c =
    let n = c.loop-n.n in
    let a = c.args in
    let o = c.loop-n.out in
    let f = sent_column a.q a.l a.rows.now a.shifts.now a.rests.now in
    let b = send_bounds a.q a.l a.rows.now a.shifts.now a.rests.now a.out.now c.requires n (omega arith) in
    let v = send_done a.q a.l a.rows.now a.shifts.now a.rests.now a.out.now c.requires n (omega arith) o c.loop-n.invariant.0 c.column.ensures in
    (search rules, block_next f n a.q _ o c.column.new.out (omega (arith, b.2, c.loop-n.invariant.0)) (ap length v ∙ sent-full a.q a.l a.rows.now a.shifts.now a.rests.now n) v c.loop-n.invariant.1)
