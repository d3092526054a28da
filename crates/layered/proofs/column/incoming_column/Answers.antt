use mathlib.Core.Path.{◌≡◌}
use Prim.Native.Nat.{ℕ, ◌-◌, min}
use native.Mathlib.Omega.{arith}
use lib.ListN.{length}
use Rattle.trellis.specs.Lists.{tab}
use Rattle.layered.specs.inner.Columns.{raised}
use Rattle.layered.proofs.Columns.{incoming_done, filled, least-raised_le}
use Rattle.layered.proofs.column.incoming_column.Goals as goal

pub overflow_sub-v : goal.overflow_sub-v
overflow_sub-v c =
    let a = c.args in
    omega (arith, least-raised_le a.g (length a.costs.now) a.costs.now a.old.now c.loop-i.i (omega arith))

pub returns : goal.returns
returns c =
    let a = c.args in
    let e : c.loop-i.out ≡ tab (λ (x : ℕ). min 255 (raised a.g a.costs.now a.old.now x - c.least_raised-least.result)) (length a.costs.now) = filled _ c.loop-i.out c.loop-i.i (length a.costs.now) c.loop-i.invariant.1 (omega arith) (omega arith) in
    incoming_done a.g a.costs.now a.old.now c.loop-i.out c.least_raised-least.result c.requires.1.1.1.1 c.requires.1.1.1.0 c.requires.1.1.0 c.least_raised-least.ensures e
