use mathlib.Core.Path.{refl}
use Prim.Native.Nat.{◌*◌, ◌≤◌}
use native.Mathlib.Omega.{arith}
use lib.ListN.{length}
use Rattle.sweep.specs.inner.Groups.{sent_of, pair_count}
use Rattle.sweep.proofs.Grouping.{pair_length, pair_room, count_small, count_turn, pair_turn}
use Rattle.sweep.proofs.group.pairs.Goals as goal

pub put_above-c-requires : goal.put_above-c-requires
put_above-c-requires c =
    let sent = c.args.sent.now in
    let d = c.args.d in
    let q = c.args.q in
    let a = c.args.a in
    let e = c.args.e in
    (omega (arith, c.loop-n.invariant.1.0, count_small e (sent_of sent q a) c.loop-n.n, c.requires.sent_len, c.loop-n-test.true), (let h : pair_count e (sent_of sent q a) d * 2 ≤ length c.args.out.now = (omega (arith, c.requires.d_in_bounds, pair_length e (sent_of sent q a) d)) in rw c.loop-n.invariant.1.0 (omega (arith, pair_room e (sent_of sent q a) d c.loop-n.n c.loop-n-test.true, h, c.loop-n.invariant.0))))

pub loop-n-preserved : goal.loop-n-preserved
loop-n-preserved c =
    let sent = c.args.sent.now in
    let d = c.args.d in
    let q = c.args.q in
    let a = c.args.a in
    let e = c.args.e in
    (omega (arith, c.put_above-c.auto, c.loop-n.invariant.0), (count_turn e (sent_of sent q a) c.loop-n.n c.loop-n.c c.loop-n.invariant.1.0 refl c.put_above-c.ensures.count, pair_turn e (sent_of sent q a) d c.loop-n.n c.loop-n.c c.args.out.now c.loop-n.out c.loop-n-test.true (omega (arith, c.requires.d_in_bounds, pair_length e (sent_of sent q a) d)) c.loop-n.invariant.1.0 (cc) refl c.loop-n.invariant.1.1 c.put_above-c.ensures.out_then))
