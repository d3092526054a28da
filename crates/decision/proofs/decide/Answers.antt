use Rattle.decision.proofs.Searching.{search_none, search_more, search_found}
use Rattle.decision.proofs.decide.Goals as goal

pub loop-x-preserved : goal.loop-x-preserved
loop-x-preserved g c =
    let at = c.index-costs-x in
    search_more g.C.Cost.value c.args.costs.now c.loop-x.x at.result c.loop-x.invariant c.if-x-costs.false at.is c.is_zero.ensures c.if-is_zero.false

pub returns-then-x-costs : goal.returns-then-x-costs
returns-then-x-costs g c = search_none g.C.Cost.value c.args.costs.now c.loop-x.x c.loop-x.invariant c.if-x-costs.true

pub margin_at-requires-clause-zero : goal.margin_at-requires-clause-zero
margin_at-requires-clause-zero g c =
    let at = c.index-costs-x in
    search_found g.C.Cost.value c.args.costs.now c.loop-x.x at.result c.loop-x.invariant c.if-x-costs.false at.is c.is_zero.ensures c.if-is_zero.true

pub returns-then-is_zero : goal.returns-then-is_zero
returns-then-is_zero g c =
    let at = c.index-costs-x in
    let e = search_found g.C.Cost.value c.args.costs.now c.loop-x.x at.result c.loop-x.invariant c.if-x-costs.false at.is c.is_zero.ensures c.if-is_zero.true in
    ((e, c.margin_at.ensures), c.loop-x.invariant.0)
