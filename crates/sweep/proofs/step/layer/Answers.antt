use native.Mathlib.Omega.{arith}
use borrow.Author.Rules.{rules}
use Rattle.trellis.specs.Field.{xor}
use Rattle.sweep.specs.inner.Cells.{layer_at}
use Rattle.trellis.proofs.Loops.{fill_next}
use Rattle.sweep.proofs.Laws.{layer_value}
use Rattle.sweep.proofs.step.layer.Goals as goal

pub bounds-same-t : goal.bounds-same-t
unfolding xor
bounds-same-t c =
    omega (arith, c.args.column.now.steps.sums.sum c.loop-t.t c.args.column.now.decided (omega (arith, c.requires.out_len)) c.args.column.now.element, c.requires.low_len)

pub loop-t-preserved : goal.loop-t-preserved
unfolding xor
loop-t-preserved c =
    let a = c.args in
    let v = layer_value a.column.now.greatest a.column.now.products.now a.column.now.moves.now a.low.now a.same.now a.column.now.decided c.loop-t.t c.from-stays.ensures c.deviation_at.ensures.0 c.min.ensures in
    (search rules, fill_next (layer_at a.column.now.greatest a.column.now.products.now a.column.now.moves.now a.low.now a.same.now a.column.now.decided) c.loop-t.out c.loop-t.t _ (omega arith) c.loop-t.invariant.1 v)
