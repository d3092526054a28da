-- The column's costs are a part of all costs, and the room's parts are as long as the field.
use native.Mathlib.Omega.{arith}
use lib.ListN.{length-take}
use Rattle.checknode.proofs.Turns.{ready-times}
use Rattle.sweep.proofs.Swept.{sized_of, size-limit}
use Rattle.sweep.proofs.columns.turn.Goals as goal

pub advance-requires : goal.advance-requires
advance-requires c =
    let weights = c.args.check.now.weights.now in
    let costs = c.args.check.now.costs.now in
    let first = c.args.check.now.first in
    let n = c.args.n in
    record {
      times = ready-times first weights costs c.args.check.now.ready n c.requires.n_in_bounds;
      sized = sized_of first weights costs c.args.check.now.ready n c.requires.n_in_bounds c.size-q.result c.size-q.ensures.0 (simp length-take (omega (arith, size-limit first weights costs c.args.check.now.ready, c.size-q.ensures.0, c.requires.n_in_bounds))) (simp length-take (omega (arith, size-limit first weights costs c.args.check.now.ready, c.size-q.ensures.0, c.requires.n_in_bounds)));
      cells_len = c.requires.cells_len;
    }

pub slice_bounds-row-end : goal.slice_bounds-row-end
slice_bounds-row-end c =
    let k = c.args.check.now in
    omega (arith, size-limit k.first k.weights.now k.costs.now k.ready, c.size-q.ensures.0)

pub slice_bounds-advance-end-2 : goal.slice_bounds-advance-end-2
slice_bounds-advance-end-2 c =
    let k = c.args.check.now in
    simp length-take (omega (arith, size-limit k.first k.weights.now k.costs.now k.ready, c.size-q.ensures.0))

pub slice_bounds-moves-end : goal.slice_bounds-moves-end
slice_bounds-moves-end c =
    let k = c.args.check.now in
    omega (arith, size-limit k.first k.weights.now k.costs.now k.ready, c.size-q.ensures.0)

pub slice_bounds-advance-end-3 : goal.slice_bounds-advance-end-3
slice_bounds-advance-end-3 c =
    let k = c.args.check.now in
    simp length-take (omega (arith, size-limit k.first k.weights.now k.costs.now k.ready, c.size-q.ensures.0))
