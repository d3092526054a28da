-- Accepted, the code line prints nothing; refused, by the line or the code, frame_line prints its number.
use mathlib.Core.Path.{refl, sym, ◌∙◌}
use Prim.Native.Nat.{◌≤◌}
use native.Mathlib.Omega.{arith}
use lib.ListN.{length, length-take}
use Rattle.text.specs.inner.Held.{code_bytes}
use Rattle.text.proofs.Laws.{row-long, accepted_turn, refused_turn, refused-front}
use Rattle.text.proofs.line_end.finish_code.Goals as goal

pub slice_bounds-accepted-end-2 : goal.slice_bounds-accepted-end-2
slice_bounds-accepted-end-2 c =
    let long : c.code_bytes-n.result ≤ length c.code_bytes-n.new.code = row-long (code_bytes c.args.text.now) c.args.code.now _ _ c.code_bytes-n.ensures.written.0 c.code_bytes-n.ensures.code_then in
    simp length-take (omega (arith, long))

pub returns-then-accepted : goal.returns-then-accepted
returns-then-accepted c =
    let e = accepted_turn c.args.text.now c.args.code.now _ _ c.code_bytes-n.ensures.written.0 c.code_bytes-n.ensures.code_then c.args.out.now c.args.full (sym c.accepted.ensures ∙ c.if-accepted.true) in
    record {
      held = (refl, (e.0, e.1));
      full = e.2;
      code_then = c.code_bytes-n.ensures.code_then;
      out_then = e.3;
    }

pub slice_bounds-append_line-end-2 : goal.slice_bounds-append_line-end-2
slice_bounds-append_line-end-2 c =
    let long : c.code_bytes-n.result ≤ length c.code_bytes-n.new.code = row-long (code_bytes c.args.text.now) c.args.code.now _ _ c.code_bytes-n.ensures.written.0 c.code_bytes-n.ensures.code_then in
    simp length-take (omega (arith, long))

pub append_line-full-requires : goal.append_line-full-requires
append_line-full-requires c =
    let e = refused-front c.args.text.now c.args.code.now _ _ c.code_bytes-n.ensures.written.0 c.code_bytes-n.ensures.code_then (sym c.accepted.ensures ∙ c.if-accepted.false) in
    rw e at c.requires.1

pub returns : goal.returns
returns c =
    let e = refused_turn c.args.text.now c.args.code.now _ _ c.code_bytes-n.ensures.written.0 c.code_bytes-n.ensures.code_then c.args.out.now _ c.args.full _ (sym c.accepted.ensures ∙ c.if-accepted.false) c.append_line-full.ensures.written c.append_line-full.ensures.out_then in
    record {
      held = (refl, (e.0, e.1));
      full = e.2;
      code_then = c.code_bytes-n.ensures.code_then;
      out_then = e.3;
    }
