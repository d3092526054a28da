-- The rule's numbers are those of the first byte; the column's products and costs make one step.
use mathlib.Core.Path.{refl, ap, ◌∙◌}
use native.Mathlib.Omega.{arith}
use Rattle.rules.specs.declared.Rule.{Rule}
use Rattle.sweep.proofs.Laws.{step_asks, step-done}
use Rattle.sweep.proofs.columns.advance.Goals as goal

pub invariant_of-taken : goal.invariant_of-taken
invariant_of-taken c =
    let a = step_asks c.args.first c.args.h c.args.costs.now c.requires.times (ap (λ (r : Rule). r.p) c.rule_of-rule.ensures) c.column.ensures.term c.column.ensures.row_then c.column.ensures.moves_then c.from-decided.ensures (omega (arith, c.column.auto, c.requires.sized.of_row)) refl refl c.args.cells.now c.args.out.now c.requires.sized.has_zero c.requires.cells_len.0 c.requires.cells_len.1 in
    record { steps = a.0; element = a.1.0.1.0 }

pub returns : goal.returns
returns c =
    step-done c.args.first c.args.h c.args.costs.now c.requires.times (ap (λ (r : Rule). r.p) c.rule_of-rule.ensures) c.column.ensures.term c.column.ensures.row_then c.column.ensures.moves_then c.from-decided.ensures (omega (arith, c.column.auto, c.requires.sized.of_row)) (c.from.ensures ∙ ap (λ (r : Rule). r.k) c.rule_of-rule.ensures) (ap (λ (r : Rule). r.greatest) c.rule_of-rule.ensures) c.args.cells.now c.step.ensures
