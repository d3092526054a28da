-- The tests in the definition's order.
use mathlib.Core.Path.{◌≡◌, refl, sym, ◌∙◌}
use borrow.Author.Rules.{rules}
use Rattle.refusal.proofs.Numbers.{some_number}
use Rattle.refusal.specs.Numbers.{number_of}
use Rattle.machine.specs.Combining.{combine_fault}
use Rattle.combiner.specs.inner.Columns.{headed}
use Rattle.combiner.proofs.Combined.{fault-some, fault_nothing, first_fault, second_fault, short_fault, no_fault}
use Rattle.combiner.proofs.combining.validate.Goals as goal

pub returns-in_err-validate_frame : goal.returns-in_err-validate_frame
returns-in_err-validate_frame c =
    let e : number_of c.in_err-validate_frame.field-0.0 ≡ combine_fault (headed c.args.numbers.first c.args.numbers.columns) c.args.first.now c.args.second.now c.args.room =
    first_fault c.args.numbers.first c.args.numbers.columns c.args.first.now c.args.second.now c.args.room _ c.in_err-validate_frame.ensures (some_number _) in
    search rules

pub returns-then-is_err : goal.returns-then-is_err
returns-then-is_err c =
    second_fault c.args.numbers.first c.args.numbers.columns c.args.first.now c.args.second.now c.args.room 0 c.in_ok-validate_frame.ensures refl _ c.validate_frame-2.ensures (fault-some _ (sym c.is_err.ensures.value ∙ c.if-is_err.true))

pub returns-then-room-first : goal.returns-then-room-first
returns-then-room-first c =
    short_fault c.args.numbers.first c.args.numbers.columns c.args.first.now c.args.second.now c.args.room 0 c.in_ok-validate_frame.ensures refl _ c.validate_frame-2.ensures (fault_nothing _ (sym c.is_err.ensures.value ∙ c.if-is_err.false)) c.if-room-first.true

pub returns : goal.returns
returns c =
    no_fault c.args.numbers.first c.args.numbers.columns c.args.first.now c.args.second.now c.args.room 0 c.in_ok-validate_frame.ensures refl _ c.validate_frame-2.ensures (fault_nothing _ (sym c.is_err.ensures.value ∙ c.if-is_err.false)) c.if-room-first.false
