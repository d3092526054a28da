use borrow.Author.Rules.{rules}
use Rattle.trellis.proofs.Loops.{block_next}
use mathlib.Core.Path.{ap, ◌∙◌}
use Prim.Native.Nat.{◌+◌, ◌-◌, ◌*◌, ◌<◌}
use native.Mathlib.Omega.{arith}
use lib.ListN.{length}
use Rattle.sweep.specs.inner.Joins.{column_sent}
use Rattle.trellis.proofs.Loops.{length-tab}
use Rattle.field.proofs.Blocks.{part_room}
use Rattle.sweep.proofs.Laws.{part_length}
use Rattle.sweep.proofs.Rows.{both-rooms, row-bytes, row_is}
use Rattle.sweep.proofs.join.sent_all.Goals as goal

pub invariant_of-sides : goal.invariant_of-sides
invariant_of-sides c =
    let shifts = c.args.shifts.now in
    let k = c.args.k in
    let q = c.args.q in
    let b = both-rooms c.loop-n.n (length shifts) ((k + 1) * q) c.loop-n-test.true in
    record {
      sums = c.requires.sums;
      few = c.requires.counts;
      full = (part_length c.args.before.now (c.loop-n.n * ((k + 1) * q)) ((k + 1) * q) (omega (arith, b, c.requires.of_before)), part_length c.args.after.now ((length shifts - 1 - c.loop-n.n) * ((k + 1) * q)) ((k + 1) * q) (omega (arith, b, c.requires.of_after)));
    }

pub sent_row-requires : goal.sent_row-requires
sent_row-requires c =
    let shifts = c.args.shifts.now in
    let q = c.args.q in
    let l : c.loop-n.n < length shifts = c.loop-n-test.true in
    record {
      s_lt_q = (omega (arith, c.from.ensures, c.requires.below c.loop-n.n l), part_length c.loop-n.out (c.loop-n.n * q) q (omega (arith, part_room c.loop-n.n (length shifts) q l, c.requires.of_out, c.loop-n.invariant.0)));
      byte_costs_room = row-bytes c.args.greatest q c.args.k c.args.before.now c.args.after.now shifts c.loop-n.n c.from.ensures (c.requires.bytes c.loop-n.n l);
    }

pub loop-n-preserved : goal.loop-n-preserved
loop-n-preserved c =
    let shifts = c.args.shifts.now in
    let before = c.args.before.now in
    let after = c.args.after.now in
    let greatest = c.args.greatest in
    let k = c.args.k in
    let q = c.args.q in
    let n = c.loop-n.n in
    let v = row_is greatest q k before after shifts n c.from.ensures c.sent_row.ensures in
    (search rules, block_next (column_sent greatest q k before after shifts) n q _ c.loop-n.out c.sent_row.new.out (omega (arith, part_room n (length shifts) q c.loop-n-test.true, c.requires.of_out, c.loop-n.invariant.0)) (ap length v ∙ length-tab _ q) v c.loop-n.invariant.1)

pub slice_bounds-sent_row-end : goal.slice_bounds-sent_row-end
slice_bounds-sent_row-end c =
    omega (arith, part_room c.loop-n.n (length c.args.shifts.now) c.args.q c.loop-n-test.true, c.requires.of_out, c.loop-n.invariant.0)
