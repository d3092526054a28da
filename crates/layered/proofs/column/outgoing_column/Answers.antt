use mathlib.Core.Path.{◌≡◌}
use Prim.Native.Nat.{ℕ, ◌-◌}
use native.Mathlib.Omega.{arith}
use lib.ListN.{length, get_or}
use Rattle.trellis.specs.Lists.{tab}
use Rattle.layered.specs.inner.Columns.{summed}
use Rattle.layered.proofs.Columns.{mul_small, outgoing_done, filled, least-summed_le}
use Rattle.layered.proofs.column.outgoing_column.Goals as goal

pub overflow_sub-x : goal.overflow_sub-x
overflow_sub-x c =
    let a = c.args in
    omega (arith, least-summed_le a.g (length a.qs.now) a.qs.now a.new.now c.loop-i.i (omega arith))

pub returns : goal.returns
returns c =
    let a = c.args in
    let e : c.loop-i.costs ≡ tab (λ (x : ℕ). summed a.g a.qs.now a.new.now x - c.least_summed-least.result) (length a.qs.now) = filled _ c.loop-i.costs c.loop-i.i (length a.qs.now) c.loop-i.invariant.1 (omega arith) (omega arith) in
    outgoing_done a.g a.qs.now a.new.now c.loop-i.costs c.least_summed-least.result c.requires.1.1.1 (λ x. omega (arith, c.type_inv.qs x, mul_small a.g (get_or a.new.now x 0) (omega arith) (omega (arith, c.type_inv.new x)))) c.least_summed-least.ensures e
