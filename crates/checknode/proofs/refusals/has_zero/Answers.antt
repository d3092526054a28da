use mathlib.Core.Path.{◌≡◌, ◌∙◌}
use native.Mathlib.Omega.{arith}
use lib.ListN.{length}
use Rattle.std.proofs.Math.Seq.{take-length}
use Rattle.checknode.proofs.Zeros.{any_zero}
use Rattle.checknode.proofs.refusals.has_zero.Goals as goal

pub returns : goal.returns
returns c =
    let e : c.loop-cost.cost-index ≡ length c.args.costs.now = omega arith in
    c.loop-cost.invariant ∙ rw (e, take-length) (any_zero c.args.costs.now)
