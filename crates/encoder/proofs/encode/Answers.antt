-- The reader's answer is the line's refusal, or the numbers and tables of its code; under these the rest is promised.
use mathlib.Core.Path.{◌≡◌, ap, ◌∙◌, sym}
use borrow.Author.Rules.{rules}
use Rattle.trellis.specs.Reply.{refusal}
use Rattle.refusal.specs.Numbers.{number_of}
use Rattle.machine.specs.Encoding.{Wrote, encoding}
use Rattle.codeline.specs.inner.Coding.{code_of}
use Rattle.codeline.proofs.Says.{line_says, line-coded}
use Rattle.encoder.proofs.Encoded.{line_refused, line_encodes}
use Rattle.encoder.proofs.encode.Goals as goal

pub returns-in_err-numbers-clause-reply : goal.returns-in_err-numbers-clause-reply
returns-in_err-numbers-clause-reply c =
    let e : refusal (number_of c.in_err-numbers.field-0.0) ≡ (encoding c.args.code.now c.args.message.now c.args.symbols.now).reply =
    sym (ap (λ (w : Wrote). w.reply) (line_refused c.args.code.now c.code_tables.result c.code_tables.ensures.numbers c.in_err-numbers.field-0.0 c.in_err-numbers.was c.args.message.now c.args.symbols.now)) in
    search rules

pub returns-in_err-numbers-clause-symbols_then : goal.returns-in_err-numbers-clause-symbols_then
returns-in_err-numbers-clause-symbols_then c =
    sym (ap (λ (w : Wrote). w.out) (line_refused c.args.code.now c.code_tables.result c.code_tables.ensures.numbers c.in_err-numbers.field-0.0 c.in_err-numbers.was c.args.message.now c.args.symbols.now))

pub invariant_of-accepted : goal.invariant_of-accepted
invariant_of-accepted c =
    record {
      coded = line-coded c.args.code.now c.code_tables.result c.code_tables.ensures.numbers c.in_ok-numbers.numbers c.in_ok-numbers.was _ _ _ c.code_tables.new.degrees c.code_tables.new.columns c.code_tables.new.weights c.code_tables.ensures.degrees_then c.code_tables.ensures.columns_then c.code_tables.ensures.weights_then;
    }

pub returns-clause-reply : goal.returns-clause-reply
returns-clause-reply c =
    let s = line_says c.args.code.now c.code_tables.result c.code_tables.ensures.numbers c.in_ok-numbers.numbers c.in_ok-numbers.was _ _ _ c.code_tables.new.degrees c.code_tables.new.columns c.code_tables.new.weights c.code_tables.ensures.degrees_then c.code_tables.ensures.columns_then c.code_tables.ensures.weights_then in
    c.under_code.ensures.reply ∙ sym (ap (λ (w : Wrote). w.reply) (line_encodes c.args.code.now (code_of c.in_ok-numbers.numbers c.code_tables.new.degrees c.code_tables.new.columns c.code_tables.new.weights) s c.args.message.now c.args.symbols.now))

pub returns-clause-symbols_then : goal.returns-clause-symbols_then
returns-clause-symbols_then c =
    let s = line_says c.args.code.now c.code_tables.result c.code_tables.ensures.numbers c.in_ok-numbers.numbers c.in_ok-numbers.was _ _ _ c.code_tables.new.degrees c.code_tables.new.columns c.code_tables.new.weights c.code_tables.ensures.degrees_then c.code_tables.ensures.columns_then c.code_tables.ensures.weights_then in
    c.under_code.ensures.symbols_then ∙ sym (ap (λ (w : Wrote). w.out) (line_encodes c.args.code.now (code_of c.in_ok-numbers.numbers c.code_tables.new.degrees c.code_tables.new.columns c.code_tables.new.weights) s c.args.message.now c.args.symbols.now))
