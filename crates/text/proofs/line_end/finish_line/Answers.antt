-- The kept fronts are the same whatever the numbers, since no buffer is longer.
use mathlib.Core.Path.{sym, ap, ◌∙◌}
use Prim.Native.Nat.{◌+◌}
use native.Mathlib.Omega.{arith}
use lib.ListN.{length, length-take}
use Rattle.text.specs.inner.Held.{put_at}
use Rattle.text.proofs.Laws.{first_out, first-held, later-out, later-held}
use Rattle.text.proofs.line_end.finish_line.Goals as goal

pub slice_bounds-finish_code-end : goal.slice_bounds-finish_code-end
slice_bounds-finish_code-end c = simp length-take (omega arith)

pub finish_code-requires : goal.finish_code-requires
finish_code-requires c =
    let e = first_out c.args.st.len c.args.st.code c.args.st.ended c.args.line.now c.args.code.now _ c.min-t.ensures c.requires.0 c.requires.1.1.0 c.if-st-eq0.true in
    (c.requires.1.0, rw e at c.requires.1.1.1)

pub returns-then-st-eq0 : goal.returns-then-st-eq0
returns-then-st-eq0 c =
    let e = first_out c.args.st.len c.args.st.code c.args.st.ended c.args.line.now c.args.code.now _ c.min-t.ensures c.requires.0 c.requires.1.1.0 c.if-st-eq0.true in
    record {
      held = first-held c.args.st.len c.args.st.code c.args.st.ended c.args.line.now c.args.code.now _ c.min-t.ensures c.requires.0 c.requires.1.1.0 c.if-st-eq0.true _ _ _ _ c.finish_code.ensures.held.0 c.finish_code.ensures.held.1.0 c.finish_code.ensures.held.1.1 c.finish_code.ensures.code_then;
      full = c.finish_code.ensures.full ∙ ap (λ x. c.args.st.full + length x) (sym e);
      out_then = c.finish_code.ensures.out_then ∙ ap (put_at c.args.out.now c.args.st.full) (sym e);
    }

pub slice_bounds-append_line-end-2 : goal.slice_bounds-append_line-end-2
slice_bounds-append_line-end-2 c = simp length-take (omega arith)

pub slice_bounds-append_line-end-3 : goal.slice_bounds-append_line-end-3
slice_bounds-append_line-end-3 c = simp length-take (omega arith)

pub append_line-full-requires : goal.append_line-full-requires
append_line-full-requires c =
    let e = later-out c.args.st.len c.args.st.code c.args.st.ended c.args.line.now c.args.code.now _ c.min-t.ensures c.requires.0 c.requires.1.1.0 c.if-st-eq0.false _ c.min-k.ensures c.requires.1.0 in
    rw e at c.requires.1.1.1

pub returns : goal.returns
returns c =
    let e = later-out c.args.st.len c.args.st.code c.args.st.ended c.args.line.now c.args.code.now _ c.min-t.ensures c.requires.0 c.requires.1.1.0 c.if-st-eq0.false _ c.min-k.ensures c.requires.1.0 in
    record {
      held = later-held c.args.st.len c.args.st.code c.args.st.ended c.args.line.now c.args.code.now _ c.min-t.ensures c.requires.0 c.requires.1.1.0 c.if-st-eq0.false;
      full = c.append_line-full.ensures.written ∙ ap (λ x. c.args.st.full + length x) (sym e);
      out_then = c.append_line-full.ensures.out_then ∙ ap (put_at c.args.out.now c.args.st.full) (sym e);
    }
