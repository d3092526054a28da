-- The reader's answer is the line's refusal, or the numbers and tables of its code; under these the rest is promised.
use mathlib.Core.Path.{◌≡◌}
use borrow.Author.Rules.{rules}
use Rattle.refusal.specs.Numbers.{number_of}
use Rattle.layered.specs.Answers.{stage_of, ends}
use native.Mathlib.Omega.{arith}
use Rattle.codeline.specs.inner.Coding.{code_of}
use Rattle.machine.specs.Decoding.{lending}
use Rattle.codeline.proofs.Says.{line_says, line-coded}
use Rattle.layered.proofs.Steps.{refused_steps, said_steps}
use Rattle.layered.proofs.stages.step_in.Goals as goal

pub invariant_of-accepted : goal.invariant_of-accepted
invariant_of-accepted c =
    record { coded = line-coded c.args.code.now c.code_tables.result c.code_tables.ensures.numbers c.in_ok-numbers.numbers c.in_ok-numbers.was _ _ _ c.code_tables.new.degrees c.code_tables.new.columns c.code_tables.new.weights c.code_tables.ensures.degrees_then c.code_tables.ensures.columns_then c.code_tables.ensures.weights_then }

pub step_under-requires : goal.step_under-requires
step_under-requires c =
    record { arrived = omega arith; sent = omega arith }

pub returns-in_err-numbers : goal.returns-in_err-numbers
returns-in_err-numbers c =
    let r = c.in_err-numbers.field-0.0 in
    let e : stage_of c.from_residual.result ≡ ends 4 (number_of r) = search rules in
    rw e (refused_steps c.args.code.now c.args.frame.now (lending c.args.symbols.now c.args.costs.now c.args.store.now c.args.margins.now) c.code_tables.result c.code_tables.ensures.numbers r c.in_err-numbers.was c.args.t)

pub returns : goal.returns
returns c =
    said_steps c.args.code.now c.args.frame.now (lending c.args.symbols.now c.args.costs.now c.args.store.now c.args.margins.now) (code_of c.in_ok-numbers.numbers c.code_tables.new.degrees c.code_tables.new.columns c.code_tables.new.weights) (line_says c.args.code.now c.code_tables.result c.code_tables.ensures.numbers c.in_ok-numbers.numbers c.in_ok-numbers.was _ _ _ c.code_tables.new.degrees c.code_tables.new.columns c.code_tables.new.weights c.code_tables.ensures.degrees_then c.code_tables.ensures.columns_then c.code_tables.ensures.weights_then) _ _ c.args.t c.step_under.ensures
