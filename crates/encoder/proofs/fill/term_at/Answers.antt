-- The edge's column has a symbol, and both factors are elements.
use mathlib.Core.Path.{◌≡◌, ap, ◌∙◌}
use lib.ListN.{get_or}
use Rattle.trellis.specs.Field.{product}
use Rattle.trellis.specs.Rules.{power_of}
use Rattle.field.specs.Answers.{product_reply}
use Rattle.division.proofs.Quotients.{times_is}
use Rattle.encoder.proofs.fill.term_at.Goals as goal

pub returns : goal.returns
returns c =
    let e : c.from-c.result ≡ get_or c.args.code.now.columns.now c.args.edge 0 = c.from-c.ensures in
    let x : get_or c.args.symbols.now c.from-c.result 0 ≡ get_or c.args.symbols.now (get_or c.args.code.now.columns.now c.args.edge 0) 0 = ap (λ c₁. get_or c.args.symbols.now c₁ 0) e in
    c.times.ensures ∙ ap (λ p. (product_reply p (get_or c.args.code.now.weights.now c.args.edge 0) (get_or c.args.symbols.now c.from-c.result 0)).value) c.power.ensures ∙ times_is (power_of c.args.code.now.numbers.first) (get_or c.args.code.now.weights.now c.args.edge 0) (get_or c.args.symbols.now c.from-c.result 0) c.requires.low c.requires.high c.requires.weight (rw e c.requires.symbol) ∙ ap (product (power_of c.args.code.now.numbers.first) (get_or c.args.code.now.weights.now c.args.edge 0)) x
