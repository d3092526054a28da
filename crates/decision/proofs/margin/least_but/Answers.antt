use native.Mathlib.Omega.{arith}
use Rattle.decision.proofs.Searching.{but_more}
use Rattle.decision.proofs.margin.least_but.Goals as goal

pub loop-x-preserved : goal.loop-x-preserved
loop-x-preserved g c =
    but_more g.C.Cost.value c.args.costs.now g.C.Cost.bound c.args.z c.loop-x.x c.index-costs-x.result (omega arith) c.index-costs-x.is c.but.ensures c.lesser-least.ensures.bounded c.lesser-least.ensures.least
    c.loop-x.invariant
