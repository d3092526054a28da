-- The decision's product stands in the row at its symbol.
use mathlib.Core.Path.{ap, ap₂, ◌∙◌}
use Rattle.std.proofs.lemmas.List.{map-id}
use Rattle.trellis.specs.Check.{first_zero}
use Rattle.trellis.specs.Lists.{tab}
use Rattle.sweep.specs.inner.Cells.{move_cost}
use Rattle.checknode.proofs.Lining.{column-term}
use Rattle.sweep.proofs.columns.column.Goals as goal

pub returns : goal.returns
returns c =
    let costs = c.args.costs.now in
    record {
      term = column-term c.args.p c.args.h costs c.products.ensures (c.decide-z.ensures.0.0 ∙ ap first_zero (map-id c.args.costs.now)) c.requires.sized.has_zero;
      row_then = c.products.ensures;
      moves_then = c.move_costs.ensures ∙ ap₂ (λ z n. tab (move_cost costs z) n) (c.decide-z.ensures.0.0 ∙ ap first_zero (map-id c.args.costs.now)) c.requires.sized.of_moves;
    }
