use Rattle.groups.proofs.Listing.{select_is}
use Rattle.groups.proofs.list.chosen.Goals as goal

pub returns : goal.returns
returns c = select_is c.args.s c.args.e c.args.x c.args.y c.fits-s.0 c.fits-e.0 c.fits-x.0 c.fits-y.0
