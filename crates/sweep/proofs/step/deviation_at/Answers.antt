use mathlib.Core.Path.{◌≡◌, ap, ◌∙◌}
use native.Mathlib.Omega.{arith}
use lib.ListN.{length, get_or}
use Rattle.trellis.specs.Field.{xor}
use Rattle.trellis.specs.Rules.{join_of}
use Rattle.trellis.specs.Sweep.{least_to}
use Rattle.sweep.specs.inner.Cells.{deviation_at}
use Rattle.trellis.proofs.Sweep.{least_to-mark}
use Rattle.sweep.proofs.Laws.{least_turn}
use Rattle.sweep.proofs.step.deviation_at.Goals as goal

pub loop-x-preserved : goal.loop-x-preserved
unfolding xor
loop-x-preserved c =
    least_turn (λ x. join_of c.args.column.now.greatest (get_or c.args.column.now.moves.now x 0) (get_or c.args.low.now (xor c.args.t (get_or c.args.column.now.products.now x 0)) 0)) c.loop-x.x c.loop-x.invariant (cc) c.min-e.ensures

pub returns : goal.returns
unfolding deviation_at
returns c =
    let low = c.args.low.now in
    let moves = c.args.column.now.moves.now in
    let row = c.args.column.now.products.now in
    let greatest = c.args.column.now.greatest in
    let t = c.args.t in
    let e : c.loop-x.x ≡ length row = omega arith in (c.loop-x.invariant ∙ ap (least_to (λ x. join_of greatest (get_or moves x 0) (get_or low (xor t (get_or row x 0)) 0))) e, omega (arith, c.loop-x.invariant, least_to-mark (λ x. join_of greatest (get_or moves x 0) (get_or low (xor t (get_or row x 0)) 0)) c.loop-x.x))

pub bounds-low-t : goal.bounds-low-t
unfolding xor
bounds-low-t c =
    let h = c.args.column.now.steps.below c.loop-x.x c.loop-x-test.true in
    omega (arith, c.args.column.now.steps.sums.sum c.args.t c.from.result c.requires.low_len.1 (omega (arith, c.from.ensures, h)), c.requires.low_len.0)
