use mathlib.Core.Path.{◌∙◌}
use Rattle.tables.proofs.Joining.{joined_is}
use Rattle.tables.proofs.join.join.Goals as goal

pub returns : goal.returns
returns c =
    let r = c.requires.u_len in c.join.ensures ∙ joined_is c.args.shape.shaped c.args.shape.greatest c.args.u.now c.args.w.now c.args.e.now r.0 r.1.0 r.1.1
