-- The first n bytes of a block are its first min n 65536.
use mathlib.Core.Path.{◌≡◌}
use native.Mathlib.Omega.{arith}
use lib.ListN.{length, take}
use Rattle.text.specs.inner.Held.{held_in}
use Rattle.text.proofs.Laws.{least-front, part_same}
use Rattle.text.proofs.feed.Goals as goal

pub returns : goal.returns
returns c =
    let z : length c.args.block.now ≡ 65536 = omega arith in
    let e = least-front c.args.n c.min.result 65536 c.args.block.now c.min.ensures z in
    record {
      held = (part_same (held_in c.args.st c.args.line.now c.args.code.now) c.args.out.now (take c.min.result c.args.block.now) (take c.args.n c.args.block.now) _ _ _ e c.feed_over.ensures.held c.feed_over.ensures.full c.feed_over.ensures.out_then).0;
      full = (part_same (held_in c.args.st c.args.line.now c.args.code.now) c.args.out.now (take c.min.result c.args.block.now) (take c.args.n c.args.block.now) _ _ _ e c.feed_over.ensures.held c.feed_over.ensures.full c.feed_over.ensures.out_then).1.0;
      out_then = (part_same (held_in c.args.st c.args.line.now c.args.code.now) c.args.out.now (take c.min.result c.args.block.now) (take c.args.n c.args.block.now) _ _ _ e c.feed_over.ensures.held c.feed_over.ensures.full c.feed_over.ensures.out_then).1.1;
    }
