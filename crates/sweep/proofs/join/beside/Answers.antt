use mathlib.Core.Path.{◌≡◌, ap, ◌∙◌}
use Prim.Native.Nat.{◌*◌}
use native.Mathlib.Omega.{arith}
use Rattle.trellis.specs.Lists.{part}
use Rattle.trellis.specs.Sweep.{least_to}
use Rattle.sweep.specs.inner.Joins.{across_at, beside_at}
use Rattle.trellis.proofs.Sweep.{least_to-mark}
use Rattle.sweep.proofs.join.beside.Goals as goal

pub returns : goal.returns
unfolding beside_at
returns c =
    let after = c.args.after.now in
    let greatest = c.args.greatest in
    let f = c.args.f.now in
    let t = c.args.t in
    let q = c.args.q in
    let e : c.loop-j.j ≡ c.args.n = omega arith in (c.loop-j.invariant ∙ ap (least_to (λ j. across_at greatest f (part after (j * q) q) t)) e, omega (arith, c.loop-j.invariant, least_to-mark (λ j. across_at greatest f (part after (j * q) q) t) c.loop-j.j))
