use mathlib.Core.Path.{◌∙◌}
use native.Mathlib.Omega.{arith}
use Rattle.std.proofs.lemmas.List.{length-map}
use Rattle.decision.proofs.Searching.{margin_one, margin_others}
use Rattle.decision.proofs.margin.margin_at.Goals as goal

pub returns-then-costs-lt2 : goal.returns-then-costs-lt2
returns-then-costs-lt2 g c =
    let e = length-map c.args.costs.now g.C.Cost.value in
    margin_one _ c.args.z c.requires.zero (omega (arith, e, c.requires.inside)) (omega (arith, e, c.if-costs-lt2.true))

pub returns : goal.returns
returns g c =
    let e = length-map c.args.costs.now g.C.Cost.value in
    margin_others _ c.args.z c.requires.zero (omega (arith, e, c.requires.inside)) g.C.Cost.bound _ (omega (arith, e, c.if-costs-lt2.false)) (rw e c.least_but.ensures.bounded)
    (c.widened.ensures ∙ rw e c.least_but.ensures.least)
