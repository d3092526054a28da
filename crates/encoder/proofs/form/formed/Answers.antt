use mathlib.Core.Path.{◌≡◌}
use native.Mathlib.Omega.{arith}
use Rattle.encoder.proofs.Filling.{some-edge, columns-end}
use Rattle.encoder.proofs.Refusals.{formed-short, formed-not, formed-done}
use Rattle.encoder.proofs.form.formed.Goals as goal

pub returns-then-n-count : goal.returns-then-n-count
returns-then-n-count c =
    formed-short c.args.code.now c.from-n.result c.from-count.result c.from-n.ensures c.from-count.ensures c.if-n-count.true

pub overflow_sub-d : goal.overflow_sub-d
overflow_sub-d c =
    omega (arith, some-edge c.args.code.now c.loop-m.m c.loop-m.at c.from-d.result (omega arith) c.loop-m.invariant.0 c.from-d.ensures)

pub overflow_add-at : goal.overflow_add-at
overflow_add-at c =
    omega (arith, columns-end c.args.code.now c.loop-m.m c.loop-m.at c.from-d.result (omega arith) c.loop-m.invariant.0 c.from-d.ensures, some-edge c.args.code.now c.loop-m.m c.loop-m.at c.from-d.result (omega arith) c.loop-m.invariant.0 c.from-d.ensures)

pub offset_bounds-code-at : goal.offset_bounds-code-at
offset_bounds-code-at c =
    omega (arith, columns-end c.args.code.now c.loop-m.m c.loop-m.at c.from-d.result (omega arith) c.loop-m.invariant.0 c.from-d.ensures, some-edge c.args.code.now c.loop-m.m c.loop-m.at c.from-d.result (omega arith) c.loop-m.invariant.0 c.from-d.ensures)

pub bounds-code-at : goal.bounds-code-at
bounds-code-at c =
    omega (arith, columns-end c.args.code.now c.loop-m.m c.loop-m.at c.from-d.result (omega arith) c.loop-m.invariant.0 c.from-d.ensures, some-edge c.args.code.now c.loop-m.m c.loop-m.at c.from-d.result (omega arith) c.loop-m.invariant.0 c.from-d.ensures)

pub returns-then-from-m : goal.returns-then-from-m
returns-then-from-m c =
    formed-not c.args.code.now c.from-n.result c.from-count.result c.from-n.ensures c.from-count.ensures c.loop-m.m c.loop-m.at c.from-d.result c.from.result (omega arith) c.loop-m.invariant.0 c.from-d.ensures c.from.ensures c.if-from-m.true

pub returns : goal.returns
returns c =
    let e : c.loop-m.m ≡ c.from-count.result = omega arith in
    formed-done c.args.code.now c.from-n.result c.from-count.result c.from-n.ensures c.from-count.ensures (omega arith) (λ j h. c.loop-m.invariant.1 j (rw e h))
