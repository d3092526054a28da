-- The reader's answer is the line's refusal, or the numbers and tables of its code; under these the rest is promised.
use mathlib.Core.Path.{ap, ◌∙◌}
use native.Mathlib.Omega.{arith}
use Rattle.codeline.specs.inner.Coding.{code_of}
use Rattle.machine.specs.CodeLine.{columns_read}
use Rattle.machine.specs.Decoding.{lending}
use Rattle.codeline.proofs.Says.{line_says, line-coded}
use Rattle.layered.proofs.Decoded.{refused-calls, said-calls}
use Rattle.machine.proofs.Lines.{columns-small}
use Rattle.layered.proofs.decoding.decode_in.Goals as goal

pub invariant_of-accepted : goal.invariant_of-accepted
invariant_of-accepted g c =
    record { coded = line-coded c.args.code.now c.code_tables.result c.code_tables.ensures.numbers c.in-Ok.numbers c.in-Ok.is _ _ _ c.code_tables.new.degrees c.code_tables.new.columns c.code_tables.new.weights c.code_tables.ensures.degrees_then c.code_tables.ensures.columns_then c.code_tables.ensures.weights_then }

pub under_code-answer-requires : goal.under_code-answer-requires
under_code-answer-requires g c =
    record { arrived = omega arith; sent = omega arith }

pub returns-in-Err : goal.returns-in-Err
returns-in-Err g c =
    record {
      leaves = refused-calls c.args.code.now c.args.frame.now (lending c.args.symbols.now c.args.costs.now c.args.store.now c.args.margins.now) g.S.Schedule.early c.code_tables.result c.code_tables.ensures.numbers c.in-Err.refusal c.in-Err.is;
      columns = (ap columns_read (rw c.in-Err.is at c.code_tables.ensures.numbers), omega arith);
    }

pub returns-in-Ok : goal.returns-in-Ok
returns-in-Ok g c =
    let e = rw c.in-Ok.is at c.code_tables.ensures.numbers in
    record {
      leaves = said-calls c.args.code.now c.args.frame.now (lending c.args.symbols.now c.args.costs.now c.args.store.now c.args.margins.now) g.S.Schedule.early (code_of c.in-Ok.numbers c.code_tables.new.degrees c.code_tables.new.columns c.code_tables.new.weights) (line_says c.args.code.now c.code_tables.result c.code_tables.ensures.numbers c.in-Ok.numbers c.in-Ok.is _ _ _ c.code_tables.new.degrees c.code_tables.new.columns c.code_tables.new.weights c.code_tables.ensures.degrees_then c.code_tables.ensures.columns_then c.code_tables.ensures.weights_then) _ _ c.under_code-answer.ensures;
      columns = (c.from.ensures ∙ ap columns_read e, rw c.from.ensures (columns-small c.args.code.now _ e));
    }
