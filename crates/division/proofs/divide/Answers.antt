-- A product with the one element that times h is 1.
use mathlib.Core.Path.{sym, ◌∙◌}
use Rattle.division.proofs.Quotients.{divisor-room, divide_none, divide_good}
use Rattle.division.proofs.divide.Goals as goal

pub returns-then-not-divisor_ok : goal.returns-then-not-divisor_ok
returns-then-not-divisor_ok c =
    let a = c.args in
    divide_none a.p a.h a.s c.divisor_ok.result c.divisor_ok.ensures c.if-not-divisor_ok.true

pub inverse-requires : goal.inverse-requires
inverse-requires c =
    let a = c.args in
    divisor-room a.p a.h (sym c.divisor_ok.ensures ∙ c.if-not-divisor_ok.false)

pub returns : goal.returns
returns c =
    let a = c.args in
    divide_good a.p a.h a.s c.divisor_ok.result c.divisor_ok.ensures c.if-not-divisor_ok.false c.inverse.result c.inverse.ensures.0 c.inverse.ensures.1 c.times.result c.times.ensures
