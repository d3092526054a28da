use native.Mathlib.Omega.{arith}
use lib.ListN.{length}
use Rattle.combiner.proofs.Combined.{least_le, column-done}
use Rattle.combiner.proofs.columns.combine_column.Goals as goal

pub overflow_sub-both : goal.overflow_sub-both
overflow_sub-both c =
    let a = c.args in
    omega (arith, least_le a.first.now a.second.now (length a.first.now) (λ x. omega (arith, c.type_inv.first x, c.type_inv.second x)) c.loop-i.i (omega arith))

pub returns : goal.returns
returns c =
    let a = c.args in
    column-done a.first.now a.second.now c.loop-i.out c.least-low.result c.loop-i.i c.requires.1.1 (λ x. omega (arith, c.type_inv.first x, c.type_inv.second x)) (omega arith) (omega arith) c.least-low.ensures c.loop-i.invariant.1
