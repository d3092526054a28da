-- The tests in the definition's order.
use mathlib.Core.Path.{◌≡◌, sym, ◌∙◌}
use borrow.Author.Rules.{rules}
use Rattle.refusal.proofs.Numbers.{some_number}
use Rattle.std.specs.Prelude.{Err}
use Rattle.field.proofs.Weighed.{WeightsAccepted, no_fault}
use Rattle.display.proofs.Refusals.{weight_fault, form_fault, short_fault, none_fault}
use Rattle.display.proofs.showing.validate.Goals as goal

pub returns-in_err-validate_weights : goal.returns-in_err-validate_weights
returns-in_err-validate_weights c =
    let a = c.args in
    let e : c.from_residual.result ≡ Err c.in_err-validate_weights.field-0.0 = search rules in
    rw e (weight_fault a.first a.weights.now a.bytes.now a.room _ c.in_err-validate_weights.ensures (some_number c.in_err-validate_weights.field-0.0))

pub returns-then-not-record_ok : goal.returns-then-not-record_ok
returns-then-not-record_ok c =
    let a = c.args in
    let W : WeightsAccepted a.first a.weights.now = no_fault _ _ (sym c.in_ok-validate_weights.ensures) in
    form_fault a.first a.weights.now a.bytes.now a.room W (sym c.record_ok.ensures ∙ c.if-not-record_ok.true)

pub returns-then-room-weights : goal.returns-then-room-weights
returns-then-room-weights c =
    let a = c.args in
    let W : WeightsAccepted a.first a.weights.now = no_fault _ _ (sym c.in_ok-validate_weights.ensures) in
    short_fault a.first a.weights.now a.bytes.now a.room W (sym c.record_ok.ensures ∙ c.if-not-record_ok.false) c.if-room-weights.true

pub returns : goal.returns
returns c =
    let a = c.args in
    let W : WeightsAccepted a.first a.weights.now = no_fault _ _ (sym c.in_ok-validate_weights.ensures) in
    none_fault a.first a.weights.now a.bytes.now a.room W (sym c.record_ok.ensures ∙ c.if-not-record_ok.false) c.if-room-weights.false
