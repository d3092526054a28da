-- The end of the input prints nothing, or what the end of the line prints.
use mathlib.Core.Path.{sym, ap, ◌∙◌}
use native.Mathlib.Omega.{arith}
use lib.ListN.{length}
use Rattle.text.specs.inner.Held.{held_in, kept_of, put_at}
use Rattle.text.proofs.Laws.{close_none, close_some, turn_few, put-nothing}
use Rattle.text.proofs.cut.close_in.Goals as goal

pub returns-then-silent : goal.returns-then-silent
returns-then-silent c =
    let e = close_none c.args.st.len c.args.st.code c.args.st.ended c.args.line.now c.args.code.now c.requires.0 (sym c.silent.ensures ∙ c.if-silent.true) in
    record {
      written = sym (ap length e.0);
      code_then = e.1;
      out_then = put-nothing c.args.out.now 0 _ e.0;
    }

pub finish_line-requires : goal.finish_line-requires
finish_line-requires c =
    let e = close_some c.args.st.len c.args.st.code c.args.st.ended c.args.line.now c.args.code.now c.requires.0 (sym c.silent.ensures ∙ c.if-silent.false) in
    (c.requires.0, (c.requires.1.0, (e.0, omega (arith, turn_few (kept_of (held_in c.args.st c.args.line.now c.args.code.now)), c.requires.1.1))))

pub returns : goal.returns
returns c =
    let e = close_some c.args.st.len c.args.st.code c.args.st.ended c.args.line.now c.args.code.now c.requires.0 (sym c.silent.ensures ∙ c.if-silent.false) in
    let f = ap length e.1 in
    record {
      written = omega (arith, f, c.finish_line.ensures.full);
      code_then = ap (λ h. h.bytes) c.finish_line.ensures.held ∙ e.2;
      out_then = c.finish_line.ensures.out_then ∙ ap (put_at c.args.out.now 0) (sym e.1);
    }
