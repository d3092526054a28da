use mathlib.Core.Path.{refl}
use native.Mathlib.Omega.{arith}
use Rattle.layered.specs.inner.Columns.{scattered}
use Rattle.layered.proofs.Columns.{scatter_turn, length_turn}
use Rattle.layered.proofs.column.scatter.Goals as goal

pub loop-k-init : goal.loop-k-init
unfolding scattered
loop-k-init c = (refl, refl)

pub loop-k-preserved : goal.loop-k-preserved
loop-k-preserved c =
    let a = c.args in (
      length_turn a.qs.now a.new.now a.cols.now a.g a.q a.costs.now c.requires c.loop-k.k (omega arith) c.from.result c.from.ensures c.loop-k.costs c.outgoing_column.new.costs c.loop-k.invariant.0 c.outgoing_column.ensures,
      scatter_turn a.qs.now a.new.now a.cols.now a.g a.q a.costs.now c.requires c.loop-k.k (omega arith) c.from.result c.from.ensures c.loop-k.costs c.outgoing_column.new.costs c.loop-k.invariant.1 c.outgoing_column.ensures,
    )
