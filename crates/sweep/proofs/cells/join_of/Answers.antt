-- The test decides between the two cases of the definition.
use Rattle.sweep.proofs.Laws.{join_greatest, join-sum}
use Rattle.sweep.proofs.cells.join_of.Goals as goal

pub returns-then-greatest : goal.returns-then-greatest
returns-then-greatest c =
    join_greatest c.args.a c.args.b c.if-greatest.true (cc)

pub returns : goal.returns
returns c =
    join-sum c.args.a c.args.b c.if-greatest.false (cc)
