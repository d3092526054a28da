use mathlib.Core.Path.{◌≡◌, ap, ◌∙◌}
use Prim.Native.Nat.{◌+◌, ◌-◌, ◌*◌}
use native.Mathlib.Omega.{arith}
use Rattle.trellis.specs.Lists.{part}
use Rattle.trellis.specs.Sweep.{least_to}
use Rattle.sweep.specs.inner.Joins.{beside_at, join_at}
use Rattle.trellis.proofs.Sweep.{least_to-mark}
use Rattle.sweep.proofs.join.join_at.Goals as goal

pub returns : goal.returns
unfolding join_at
returns c =
    let before = c.args.sides.now.before.now in
    let after = c.args.sides.now.after.now in
    let greatest = c.args.sides.now.greatest in
    let t = c.args.t in
    let k = c.args.sides.now.k in
    let q = c.args.sides.now.q in
    let e : c.loop-i.i ≡ k + 1 = omega arith in (c.loop-i.invariant ∙ ap (least_to (λ i. beside_at greatest q (part before (i * q) q) after (k - i + 1) t)) e, omega (arith, c.loop-i.invariant, least_to-mark (λ i. beside_at greatest q (part before (i * q) q) after (k - i + 1) t) c.loop-i.i))
