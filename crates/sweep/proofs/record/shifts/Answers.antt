-- The sum of all terms and one term make a shift.
use Rattle.checknode.proofs.Resting.{shifts_law}
use Rattle.sweep.proofs.record.shifts.Goals as goal

pub returns : goal.returns
returns c =
    shifts_law c.args.check.now.first c.args.check.now.weights.now c.args.check.now.costs.now c.args.check.now.ready c.terms-sum.ensures.sum c.terms-sum.ensures.out_then c.shift_all.ensures
