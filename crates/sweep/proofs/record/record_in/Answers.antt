-- At most 256 cells a part, 32 parts a sweep, 2048 sent costs.
use mathlib.Core.Path.{ap}
use Prim.Native.Nat.{◌*◌}
use native.Mathlib.Omega.{arith}
use lib.ListN.{length, length-take}
use Rattle.sweep.proofs.Swept.{ready_sizes}
use Rattle.sweep.proofs.record.record_in.Goals as goal

pub slice_bounds-cells-end : goal.slice_bounds-cells-end
slice_bounds-cells-end c =
    let k = c.args.check.now in
    let z = ready_sizes k.first k.weights.now k.costs.now k.ready in
    let w = c.cell_count-w.ensures.0 in
    omega (arith, z, w)

pub slice_bounds-record_with-end : goal.slice_bounds-record_with-end
slice_bounds-record_with-end c =
    let k = c.args.check.now in
    let z = ready_sizes k.first k.weights.now k.costs.now k.ready in
    let w = c.cell_count-w.ensures.0 in
    simp length-take (omega (arith, z, w))

pub slice_bounds-before-end : goal.slice_bounds-before-end
slice_bounds-before-end c =
    let k = c.args.check.now in
    let z = ready_sizes k.first k.weights.now k.costs.now k.ready in
    let w = c.cell_count-w.ensures.0 in
    let v = ap (λ y. length k.weights.now * y) w in
    omega (arith, z, v)

pub slice_bounds-record_with-end-2 : goal.slice_bounds-record_with-end-2
slice_bounds-record_with-end-2 c =
    let k = c.args.check.now in
    let z = ready_sizes k.first k.weights.now k.costs.now k.ready in
    let w = c.cell_count-w.ensures.0 in
    let v = ap (λ y. length k.weights.now * y) w in
    simp length-take (omega (arith, z, v))

pub slice_bounds-after-end : goal.slice_bounds-after-end
slice_bounds-after-end c =
    let k = c.args.check.now in
    let z = ready_sizes k.first k.weights.now k.costs.now k.ready in
    let w = c.cell_count-w.ensures.0 in
    let v = ap (λ y. length k.weights.now * y) w in
    omega (arith, z, v)

pub slice_bounds-record_with-end-3 : goal.slice_bounds-record_with-end-3
slice_bounds-record_with-end-3 c =
    let k = c.args.check.now in
    let z = ready_sizes k.first k.weights.now k.costs.now k.ready in
    let w = c.cell_count-w.ensures.0 in
    let v = ap (λ y. length k.weights.now * y) w in
    simp length-take (omega (arith, z, v))

pub slice_bounds-sent-end : goal.slice_bounds-sent-end
slice_bounds-sent-end c =
    let k = c.args.check.now in
    let z = ready_sizes k.first k.weights.now k.costs.now k.ready in
    let w = c.cell_count-w.ensures.0 in
    let u = ap (λ y. length k.weights.now * y) c.size.ensures.0 in
    omega (arith, z, u)

pub slice_bounds-record_with-end-4 : goal.slice_bounds-record_with-end-4
slice_bounds-record_with-end-4 c =
    let k = c.args.check.now in
    let z = ready_sizes k.first k.weights.now k.costs.now k.ready in
    let w = c.cell_count-w.ensures.0 in
    let u = ap (λ y. length k.weights.now * y) c.size.ensures.0 in
    simp length-take (omega (arith, z, u))

pub record_with-requires-clause-cells_len : goal.record_with-requires-clause-cells_len
record_with-requires-clause-cells_len c =
    let k = c.args.check.now in
    let z = ready_sizes k.first k.weights.now k.costs.now k.ready in
    let w = c.cell_count-w.ensures.0 in
    simp length-take (omega (arith, z, w))

pub record_with-requires-clause-before_len : goal.record_with-requires-clause-before_len
record_with-requires-clause-before_len c =
    let k = c.args.check.now in
    let z = ready_sizes k.first k.weights.now k.costs.now k.ready in
    let w = c.cell_count-w.ensures.0 in
    let v = ap (λ y. length k.weights.now * y) w in
    simp length-take (omega (arith, z, v))

pub record_with-requires-clause-after_len : goal.record_with-requires-clause-after_len
record_with-requires-clause-after_len c =
    let k = c.args.check.now in
    let z = ready_sizes k.first k.weights.now k.costs.now k.ready in
    let w = c.cell_count-w.ensures.0 in
    let v = ap (λ y. length k.weights.now * y) w in
    simp length-take (omega (arith, z, v))

pub record_with-requires-clause-sent_len : goal.record_with-requires-clause-sent_len
record_with-requires-clause-sent_len c =
    let k = c.args.check.now in
    let z = ready_sizes k.first k.weights.now k.costs.now k.ready in
    let w = c.cell_count-w.ensures.0 in
    let u = ap (λ y. length k.weights.now * y) c.size.ensures.0 in
    simp length-take (omega (arith, z, u))
