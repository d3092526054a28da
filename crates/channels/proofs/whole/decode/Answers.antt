-- The count and the allowance, then the reader's answer: the line's refusal, or the numbers and tables of its code.
use mathlib.Core.Path.{sym, ap, ◌∙◌}
use borrow.Author.Rules.{rules}
use Rattle.refusal.specs.Numbers.{number_of}
use Rattle.refusal.specs.Replies.{fault_in}
use Rattle.machine.specs.CodeLine.{good}
use Rattle.machine.specs.Decoding.{lending}
use Rattle.codeline.specs.declared.code.Code.{Code as LentCode}
use Rattle.codeline.specs.Codes.{lent_code}
use Rattle.codeline.proofs.Says.{line_says, line-coded}
use Rattle.channels.proofs.Layouts.{not_0}
use Rattle.channels.proofs.Given.{count_refused, count_passes, refusal_gives, line_refused, line_gives}
use Rattle.channels.proofs.whole.decode.Goals as goal

pub returns-in_err-validate_count : goal.returns-in_err-validate_count
returns-in_err-validate_count c =
    let a = c.args in
    let r = c.in_err-validate_count.field-0.0 in
    let g = refusal_gives r _ _ (count_refused a.count a.allowance (number_of r) (sym (ap fault_in c.in_err-validate_count.was) ∙ c.validate_count.ensures) (not_0 r) a.code.now a.frames.now (lending a.symbols.now a.costs.now a.store.now a.margins.now)) in
    search (rules, g)

pub returns-in_err-numbers : goal.returns-in_err-numbers
returns-in_err-numbers c =
    let a = c.args in
    let x = count_passes a.count a.allowance (fault_in c.validate_count.result) c.validate_count.ensures (ap fault_in c.in_ok-validate_count.was) in
    let r = c.in_err-numbers.field-0.0 in
    let g = refusal_gives r _ _ (line_refused a.code.now c.code_tables.result c.code_tables.ensures.numbers a.count a.allowance x.0 x.1 x.2 r c.in_err-numbers.was a.frames.now (lending a.symbols.now a.costs.now a.store.now a.margins.now)) in
    search (rules, g)

pub invariant_of-accepted : goal.invariant_of-accepted
invariant_of-accepted c =
    record {
      coded = line-coded c.args.code.now c.code_tables.result c.code_tables.ensures.numbers c.in_ok-numbers.numbers c.in_ok-numbers.was _ _ _ c.code_tables.new.degrees c.code_tables.new.columns c.code_tables.new.weights c.code_tables.ensures.degrees_then c.code_tables.ensures.columns_then c.code_tables.ensures.weights_then;
    }

pub under_code-requires-clause-low : goal.under_code-requires-clause-low
under_code-requires-clause-low c = rw c.from.ensures (count_passes c.args.count c.args.allowance (fault_in c.validate_count.result) c.validate_count.ensures (ap fault_in c.in_ok-validate_count.was)).0

pub under_code-requires-clause-high : goal.under_code-requires-clause-high
under_code-requires-clause-high c = rw c.from.ensures (count_passes c.args.count c.args.allowance (fault_in c.validate_count.result) c.validate_count.ensures (ap fault_in c.in_ok-validate_count.was)).1

pub returns : goal.returns
returns c =
    let a = c.args in
    let x = count_passes c.args.count c.args.allowance (fault_in c.validate_count.result) c.validate_count.ensures (ap fault_in c.in_ok-validate_count.was) in
    let s = line_says a.code.now c.code_tables.result c.code_tables.ensures.numbers c.in_ok-numbers.numbers c.in_ok-numbers.was _ _ _ c.code_tables.new.degrees c.code_tables.new.columns c.code_tables.new.weights c.code_tables.ensures.degrees_then c.code_tables.ensures.columns_then c.code_tables.ensures.weights_then in
    line_gives c.layout_of-layout.result.code a.code.now (s ∙ ap (λ (k : LentCode). good (lent_code k)) (sym c.layout_of-layout.ensures)) a.count a.allowance x.0 x.1 x.2 c.from.result c.from.ensures a.frames.now (lending a.symbols.now a.costs.now a.store.now a.margins.now) _ _ _ _ _ c.under_code.ensures
