use mathlib.Core.Path.{◌≡◌, ap, ◌∙◌}
use native.Mathlib.Omega.{arith}
use lib.ListN.{length, get_or}
use Rattle.trellis.specs.Field.{xor}
use Rattle.trellis.specs.Rules.{join_of}
use Rattle.trellis.specs.Sweep.{least_to}
use Rattle.sweep.specs.inner.Joins.{across_at}
use Rattle.trellis.proofs.Sweep.{least_to-mark}
use Rattle.sweep.proofs.Laws.{least_turn}
use Rattle.sweep.proofs.join.across.Goals as goal

pub loop-s-preserved : goal.loop-s-preserved
unfolding xor
loop-s-preserved c =
    least_turn (λ s. join_of c.args.greatest (get_or c.args.f.now s 0) (get_or c.args.g.now (xor s c.args.t) 0)) c.loop-s.s c.loop-s.invariant (cc) c.min-e.ensures

pub returns : goal.returns
unfolding across_at
returns c =
    let greatest = c.args.greatest in
    let f = c.args.f.now in
    let g = c.args.g.now in
    let t = c.args.t in
    let e : c.loop-s.s ≡ length f = omega arith in (c.loop-s.invariant ∙ ap (least_to (λ s. join_of greatest (get_or f s 0) (get_or g (xor s t) 0))) e, omega (arith, c.loop-s.invariant, least_to-mark (λ s. join_of greatest (get_or f s 0) (get_or g (xor s t) 0)) c.loop-s.s))

pub bounds-g-s : goal.bounds-g-s
unfolding xor
bounds-g-s c =
    omega (arith, c.requires.sums.sum c.loop-s.s c.args.t c.loop-s-test.true c.requires.g_len.1, c.requires.g_len.0)
