-- The products fill out, and the columns turned from them are the expansion.
use Prim.Native.Nat.{◌+◌}
use mathlib.Core.Path.{◌≡◌, ap, ◌∙◌}
use Rattle.trellis.specs.Rules.{power_of, most_of}
use Rattle.trellis.proofs.Records.{expansion-join}
use Rattle.rules.specs.declared.Rule.{Rule}
use Rattle.field.specs.Answers.{rows_leave}
use Rattle.field.proofs.RowsCall.{rows_filled}
use Rattle.expansion.proofs.Expanding.{factors, turnable, turned_is}
use Rattle.expansion.proofs.expansion.expand_in.Goals as goal

pub in_room-requires-clause-turn_room : goal.in_room-requires-clause-turn_room
in_room-requires-clause-turn_room c =
    (turnable c.requires.expand_room c.args.q c.requires.q_le_most_size.1.0 _ (c.rows.ensures ∙ ap (λ p. rows_leave p c.args.weights.now c.args.out.now) (ap (λ (r : Rule). r.p) c.rule_of-rule.ensures) ∙ rows_filled (power_of c.args.first) c.args.weights.now c.args.out.now (factors c.requires.expand_room) c.requires.q_le_most_size.1.1))

pub returns : goal.returns
returns c =
    let f = c.args.first in let k : c.from.result ≡ most_of f = (c.from.ensures ∙ ap (λ (r : Rule). r.k) c.rule_of-rule.ensures) in let e₀ = rw k at c.in_room.ensures.lists in let e₁ = rw k at c.in_room.ensures.out_then in e₁ ∙ turned_is c.requires.expand_room c.args.q c.requires.q_le_most_size.1.0 _ (c.rows.ensures ∙ ap (λ p. rows_leave p c.args.weights.now c.args.out.now) (ap (λ (r : Rule). r.p) c.rule_of-rule.ensures) ∙ rows_filled (power_of c.args.first) c.args.weights.now c.args.out.now (factors c.requires.expand_room) c.requires.q_le_most_size.1.1) _ e₀ ∙ expansion-join _ _ ◌+◌ _ _ _
