-- The reader's answer is the line's refusal, or the two numbers under which the rest is promised.
use mathlib.Core.Path.{◌≡◌, ap, ◌∙◌}
use borrow.Author.Rules.{rules}
use Rattle.trellis.specs.Reply.{refusal}
use Rattle.refusal.specs.Numbers.{number_of}
use Rattle.machine.specs.Encoding.{Wrote}
use Rattle.machine.specs.Combining.{combining}
use Rattle.combiner.proofs.Combined.{line_refused, line_is}
use Rattle.combiner.proofs.combine.Goals as goal

pub returns-in_err-numbers-clause-reply : goal.returns-in_err-numbers-clause-reply
returns-in_err-numbers-clause-reply c =
    let e : refusal (number_of c.in_err-numbers.field-0.0) ≡ (combining c.args.code.now c.args.first.now c.args.second.now c.args.out.now).reply =
    (line_refused c.args.code.now c.code_line.result c.code_line.ensures c.args.first.now c.args.second.now c.args.out.now _ c.in_err-numbers.was).0 in
    search rules

pub returns-in_err-numbers-clause-out_then : goal.returns-in_err-numbers-clause-out_then
returns-in_err-numbers-clause-out_then c =
    (line_refused c.args.code.now c.code_line.result c.code_line.ensures c.args.first.now c.args.second.now c.args.out.now _ c.in_err-numbers.was).1

pub returns : goal.returns
returns c =
    let e = line_is c.args.code.now c.code_line.result c.code_line.ensures c.args.first.now c.args.second.now c.args.out.now c.in_ok-numbers.numbers c.in_ok-numbers.was in
    record {
      reply = c.under_code.ensures.reply ∙ ap (λ (w : Wrote). w.reply) e;
      out_then = c.under_code.ensures.out_then ∙ ap (λ (w : Wrote). w.out) e;
    }
