use mathlib.Core.Path.{◌≡◌, refl}
use Prim.Native.Nat.{◌*◌, ◌+◌}
use native.Mathlib.Omega.{arith}
use Rattle.engine.specs.inner.Lines.{placed}
use Rattle.checknode.proofs.Lining.{place_turn}
use Rattle.checknode.proofs.lines.place.Goals as goal

pub loop-four-init : goal.loop-four-init
unfolding placed
loop-four-init c = (refl, refl)

pub loop-four-preserved : goal.loop-four-preserved
loop-four-preserved c =
    let x = 4 * c.loop-four.four in
    let e : 4 * (c.loop-four.four + 1) ≡ x + 4 = omega arith in
    (omega (arith, c.put_four.auto, c.loop-four.invariant.0), rw e (place_turn c.args.costs.now c.args.row.now c.args.line.now c.loop-four.line c.args.s x c.loop-four.invariant.1 c.put_four.ensures))
