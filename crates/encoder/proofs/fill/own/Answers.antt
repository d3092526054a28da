use mathlib.Core.Path.{◌≡◌, refl}
use Prim.Native.Nat.{◌-◌}
use native.Mathlib.Omega.{arith}
use Rattle.encoder.proofs.Filling.{enough, edge-room_at, sum_more_at, own_is}
use Rattle.encoder.proofs.fill.own.Goals as goal

pub overflow_sub-n : goal.overflow_sub-n
overflow_sub-n c =
    omega (arith, enough c.args.code.now c.args.m c.args.at c.args.word.now c.requires c.from-d.result c.from-d.ensures)

pub overflow_add-at : goal.overflow_add-at
overflow_add-at c =
    omega (arith, enough c.args.code.now c.args.m c.args.at c.args.word.now c.requires c.from-d.result c.from-d.ensures)

pub term_at-sum-requires : goal.term_at-sum-requires
term_at-sum-requires c =
    edge-room_at c.args.code.now c.args.m c.args.at c.args.word.now c.requires c.from-d.result c.from-d.ensures (c.loop-edge.edge - c.args.at) c.loop-edge.edge (omega arith) (omega arith)

pub loop-edge-preserved : goal.loop-edge-preserved
loop-edge-preserved c =
    sum_more_at c.args.code.now c.args.m c.args.at c.args.word.now c.requires c.from-d.result c.from-d.ensures c.loop-edge.edge c.loop-edge.sum c.term_at-sum.result (omega arith) (omega arith) c.loop-edge.invariant c.term_at-sum.ensures

pub bounds-code-at : goal.bounds-code-at
bounds-code-at c =
    omega (arith, enough c.args.code.now c.args.m c.args.at c.args.word.now c.requires c.from-d.result c.from-d.ensures)

pub returns : goal.returns
returns c =
    let e : c.loop-edge.edge - c.args.at ≡ c.from-d.result - 1 = omega arith in
    own_is c.args.code.now c.args.m c.args.at c.args.word.now c.requires c.from-d.result c.from-d.ensures (c.from-d.result - 1) c.loop-edge.sum c.power.result c.divide.result refl (rw (← e) c.loop-edge.invariant) c.power.ensures c.divide.ensures

pub overflow_add-edge-end : goal.overflow_add-edge-end
overflow_add-edge-end c =
    omega (arith, enough c.args.code.now c.args.m c.args.at c.args.word.now c.requires c.from-d.result c.from-d.ensures)
