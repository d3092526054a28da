-- E, then the pairs of the columns above it, and unused pairs up to k of them.
use mathlib.Core.Path.{◌≡◌}
use Prim.Native.Nat.{◌≤◌}
use native.Mathlib.Omega.{arith}
use lib.ListN.{length, set, length-set, length-take, length-drop}
use Rattle.sweep.specs.inner.Groups.{sent_of, pair_count}
use Rattle.sweep.proofs.Grouping.{pair_length, group-done}
use Rattle.sweep.proofs.group.group.Goals as goal

pub pairs-c-requires : goal.pairs-c-requires
pairs-c-requires c =
    let sent = c.args.sent.now in
    let d = c.args.d in
    let q = c.args.q in
    let a = c.args.a in
    record {
      sent_len = (c.requires.sent_len.0, (c.requires.sent_len.1.0, c.requires.sent_len.1.1.0));
      d_in_bounds = (let f : (pair_count c.lowest-e.result (sent_of sent q a) d) ≤ c.args.k = (rw (← c.lowest-e.ensures) at c.requires.out_len.1) in simp (length-take, length-drop, length-set) (omega (arith, f, c.requires.out_len.0, pair_length c.lowest-e.result (sent_of sent q a) d)));
    }

pub returns : goal.returns
returns c =
    let sent = c.args.sent.now in
    let out = c.args.out.now in
    let k = c.args.k in
    let d = c.args.d in
    let q = c.args.q in
    let a = c.args.a in
    group-done k d (sent_of sent q a) out c.lowest-e.result (length (set out 0 c.lowest-e.result)) c.pairs-c.result c.requires.out_len.0 (let z : (length (set out 0 c.lowest-e.result)) ≡ length out = simp length-set in z) c.lowest-e.ensures c.pairs-c.ensures.count (let f : (pair_count c.lowest-e.result (sent_of sent q a) d) ≤ k = (rw (← c.lowest-e.ensures) at c.requires.out_len.1) in omega (arith, f, c.pairs-c.ensures.count)) c.pairs-c.ensures.out_then c.pads.ensures
