-- A refused line of text prints its refusal; the bytes of an accepted one are the frame.
use native.Mathlib.Omega.{arith}
use lib.ListN.{length-take}
use Rattle.machine.specs.Printing.{frame_line}
use Rattle.text.proofs.Printing.{line_refused, line_read, new_line, new_room}
use Rattle.text.proofs.print.frame_line.Goals as goal

pub slice_bounds-bytes-end : goal.slice_bounds-bytes-end
slice_bounds-bytes-end c =
    let told = line_read c.args.text.now new_line new_room c.in-Ok.n c.in-Ok.ensures.reply in
    omega (arith, told.0)

pub slice_bounds-frame_bytes-end : goal.slice_bounds-frame_bytes-end
slice_bounds-frame_bytes-end c =
    let told = line_read c.args.text.now new_line new_room c.in-Ok.n c.in-Ok.ensures.reply in
    simp length-take (omega (arith, told.0))

pub returns-in-Err : goal.returns-in-Err
unfolding frame_line
returns-in-Err c =
    let e = line_refused c.args.text.now new_line new_room _ c.in-Err.ensures.reply c.args.code.now in
    record {
      written = rw e c.answer.ensures.written;
      out_then = rw e c.answer.ensures.out_then;
    }

pub returns-in-Ok : goal.returns-in-Ok
unfolding frame_line
returns-in-Ok c =
    let told = line_read c.args.text.now new_line new_room c.in-Ok.n c.in-Ok.ensures.reply in
    let e = told.2 c.args.code.now in
    record {
      written = rw e (rw (c.line.ensures.out_then, told.1) at c.frame_bytes.ensures.written);
      out_then = rw e (rw (c.line.ensures.out_then, told.1) at c.frame_bytes.ensures.out_then);
    }
