use Rattle.std.proofs.lemmas.List.{map-id}
-- The decision is a symbol of the field, so the product is not refused.
use mathlib.Core.Path.{ap, ◌∙◌}
use Prim.Native.Nat.{◌<◌}
use native.Mathlib.Omega.{arith}
use Rattle.trellis.specs.Check.{first_zero}
use Rattle.trellis.specs.Rules.{size_of}
use Rattle.trellis.proofs.Ready.{ready-low, ready-high}
use Rattle.checknode.proofs.Turns.{part_is as costs-part}
use Rattle.sweep.proofs.Swept.{size-limit}
use Rattle.sweep.proofs.record.term.Goals as goal

pub overflow_cast-z : goal.overflow_cast-z
overflow_cast-z c =
    let weights = c.args.check.now.weights.now in
    let costs = c.args.check.now.costs.now in
    let first = c.args.check.now.first in
    let n = c.args.n in
    omega (arith, (let u : c.decide-z.result.symbol < size_of first = rw (c.decide-z.ensures.0.0 ∙ ap first_zero (map-id _ ∙ costs-part first weights costs c.args.check.now.ready n c.requires.n_in_bounds c.size-q.result c.size-q.ensures.0)) (c.args.check.now.ready.zeros n c.requires.n_in_bounds) in u), size-limit first weights costs c.args.check.now.ready)

pub times-requires : goal.times-requires
times-requires c =
    let weights = c.args.check.now.weights.now in
    let costs = c.args.check.now.costs.now in
    let first = c.args.check.now.first in
    let n = c.args.n in
    rw c.power.ensures (ready-low first weights costs c.args.check.now.ready, (ready-high first weights costs c.args.check.now.ready, (c.args.check.now.ready.weight-small n c.requires.n_in_bounds, (let u : c.decide-z.result.symbol < size_of first = rw (c.decide-z.ensures.0.0 ∙ ap first_zero (map-id _ ∙ costs-part first weights costs c.args.check.now.ready n c.requires.n_in_bounds c.size-q.result c.size-q.ensures.0)) (c.args.check.now.ready.zeros n c.requires.n_in_bounds) in u))))
