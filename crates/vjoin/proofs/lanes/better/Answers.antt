use Rattle.vjoin.proofs.Sixteen.{max_is}
use Rattle.vjoin.proofs.lanes.better.Goals as goal

pub returns : goal.returns
returns c = max_is c.args.e c.args.x c.fits-e.0 c.fits-x.0
