-- Where the channels stand at the end is what the call gives.
use mathlib.Core.Path.{refl, sym, ap, ◌∙◌}
use native.Mathlib.Omega.{arith}
use borrow.Author.Rules.{rules}
use Rattle.refusal.specs.Numbers.{number_of}
use Rattle.refusal.specs.Replies.{fault_in}
use Rattle.channels.specs.inner.Standing.{standing_of}
use Rattle.channels.proofs.Layouts.{not_0}
use Rattle.channels.proofs.Given.{whole_refused, refusal_gives, runs, gives}
use Rattle.channels.proofs.whole.under_code.Goals as goal

pub returns-in_err-validate_lengths : goal.returns-in_err-validate_lengths
returns-in_err-validate_lengths c =
    let a = c.args in
    let r = c.in_err-validate_lengths.field-0.0 in
    let g = refusal_gives r _ _ (whole_refused a.layout.now a.count a.allowance c.requires.low c.requires.high a.frames.now a.symbols.now a.costs.now a.store.now a.margins.now (number_of r) (sym (ap fault_in c.in_err-validate_lengths.was) ∙ c.validate_lengths.ensures) (not_0 r)) in
    search (rules, g)

pub run-requires : goal.run-requires
run-requires c =
    let a = c.args in
    runs a.layout.now a.count a.allowance c.requires.low c.requires.high a.frames.now a.symbols.now a.costs.now a.store.now a.margins.now (fault_in c.validate_lengths.result) c.validate_lengths.ensures (ap fault_in c.in_ok-validate_lengths.was) (λ x. omega (arith, c.type_inv.frames x))

pub returns : goal.returns
returns c =
    let a = c.args in
    let g = gives a.layout.now a.count a.allowance c.requires.low c.requires.high a.frames.now a.symbols.now a.costs.now a.store.now a.margins.now (fault_in c.validate_lengths.result) c.validate_lengths.ensures (ap fault_in c.in_ok-validate_lengths.was) (λ x. omega (arith, c.type_inv.frames x)) (standing_of c.run.new.self) c.run.ensures.then _ _ _ _ _ c.run.ensures.number c.run.ensures.spent c.run.ensures.status c.run.ensures.iterations refl in
    search (rules, g)
