use Rattle.groups.proofs.Listing.{best_first, best_turn}
use Rattle.groups.proofs.list.best.Goals as goal

pub loop-n-init : goal.loop-n-init
loop-n-init c = best_first c.args.shape.l c.args.v c.args.sent.now

pub loop-n-preserved : goal.loop-n-preserved
loop-n-preserved c = best_turn c.args.shape.l c.args.v c.loop-n.n _ c.args.sent.now c.loop-n.e c.row_at-a.ensures.0 c.loop-n.invariant c.better-e.ensures
