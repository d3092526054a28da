use lib.ListN.{length}
use borrow.Author.Rules.{rules}
use Rattle.trellis.proofs.Loops.{block_next}
use mathlib.Core.Path.{◌∙◌}
use mathlib.Core.Path.{ap, ◌∙◌}
use Prim.Native.Nat.{◌+◌, ◌-◌, ◌*◌, ◌<◌}
use native.Mathlib.Omega.{arith}
use Rattle.sweep.specs.inner.Groups.{sent_of, group_by}
use Rattle.field.proofs.Blocks.{part_room}
use Rattle.sweep.proofs.Grouping.{group-full}
use Rattle.sweep.proofs.group.groups.Goals as goal

pub loop-i-preserved : goal.loop-i-preserved
loop-i-preserved c =
    let sent = c.args.sent.now in
    let k = c.args.k in
    let d = c.args.d in
    let q = c.args.q in
    let i = c.loop-i.i in
    let l : i < q - 1 = c.loop-i-test.true in
    let f = group-full k d (sent_of sent q (i + 1)) (c.requires.pairs_room.few (i + 1) (omega arith) (omega (arith, l))) in
    (search rules, block_next (λ i. group_by k d (sent_of sent q (i + 1))) i (1 + 2 * k) _ c.loop-i.out c.group.new.out (omega (arith, part_room i (q - 1) (1 + 2 * k) l, c.requires.out_len, c.loop-i.invariant.0)) (ap length c.group.ensures ∙ f) c.group.ensures c.loop-i.invariant.1)
