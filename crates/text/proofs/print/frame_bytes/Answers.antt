-- The buffers are long enough for every accepted code line, so that what decode leaves is what the definition prints.
use mathlib.Core.Path.{ap, ◌∙◌}
use native.Mathlib.Omega.{arith}
use borrow.Author.Rules.{rules}
use lib.ListN.{length, length-take}
use Rattle.machine.proofs.Early.{few-iterations}
use Rattle.text.specs.inner.Lines.{over}
use Rattle.text.proofs.Printing.{tells}
use Rattle.text.proofs.print.frame_bytes.Goals as goal

pub answer-requires : goal.answer-requires
answer-requires c =
    (simp length-take (omega arith), few-iterations c.args.code.now c.args.frame.now _ (λ i. omega (arith, c.type_inv.code i)) _ _ c.decode_counted-d.ensures.leaves)

pub returns : goal.returns
returns c =
    let t = tells c.args.code.now c.args.frame.now _ _ _ (record { for_symbols = search rules; for_costs = search rules; for_store = search rules; for_margins = search rules }) c.decode_counted-d.ensures.leaves c.decode_counted-d.result.columns c.decode_counted-d.ensures.columns.0 in
    record {
      written = c.answer.ensures.written ∙ ap length t.1;
      out_then = c.answer.ensures.out_then ∙ ap (λ l. over l c.args.out.now) t.1;
    }
