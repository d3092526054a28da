use Prim.Native.Nat.{◌<◌}
use native.Mathlib.Omega.{arith}
use borrow.Author.Rules.{rules}
use lib.ListN.{length, length-take, length-drop}
use Rattle.trellis.specs.Rules.{power_of}
use Rattle.checknode.proofs.Turns.{term_turn, out_turn, sum_turn}
use Rattle.checknode.proofs.Lining.{lines_room, column-room, column_turn, line_turn, line-cleared, lines_turn}
use Rattle.checknode.proofs.lines.lines.Goals as goal

pub slice_bounds-column-end-in-loop-n : goal.slice_bounds-column-end-in-loop-n
slice_bounds-column-end-in-loop-n c =
    let b = lines_room c.args.check.now.first c.args.l c.args.check.now.weights.now c.args.check.now.costs.now c.args.rows.now c.args.lines.now c.args.out.now c.args.check.now.ready c.requires.rows_value c.requires.lines_room c.loop-n.n (omega arith) c.size-q.result c.size-q.ensures.0 in omega (arith, b.1)

pub column-s-requires : goal.column-s-requires
column-s-requires c =
    let b = lines_room c.args.check.now.first c.args.l c.args.check.now.weights.now c.args.check.now.costs.now c.args.rows.now c.args.lines.now c.args.out.now c.args.check.now.ready c.requires.rows_value c.requires.lines_room c.loop-n.n (omega arith) c.size-q.result c.size-q.ensures.0 in column-room c.args.check.now.first c.args.l c.args.check.now.weights.now c.args.check.now.costs.now c.args.rows.now c.args.lines.now c.args.out.now c.args.check.now.ready c.requires.rows_value c.loop-n.n (omega arith) c.size-q.result c.size-q.ensures.0 _ (simp (length-take, length-drop) (omega (arith, b.2, c.loop-n.invariant.0.0, c.requires.lines_room.wide)))

pub loop-n-preserved : goal.loop-n-preserved
loop-n-preserved c =
    let f = c.args.check.now.first in
    let p = power_of f in
    let ws = c.args.check.now.weights.now in
    let cs = c.args.check.now.costs.now in
    let n = c.loop-n.n in
    let h : n < length ws = omega arith in
    let t = term_turn f ws cs c.args.check.now.ready n h _ c.size-q.ensures.0 (column_turn c.args.check.now.first c.args.l c.args.check.now.weights.now c.args.check.now.costs.now c.args.rows.now c.args.lines.now c.args.out.now c.args.check.now.ready c.requires.rows_value n h c.size-q.result c.size-q.ensures.0 c.column-s.ensures.term) in
    let o = line_turn c.args.check.now.first c.args.l c.args.check.now.weights.now c.args.check.now.costs.now c.args.rows.now c.args.lines.now c.args.out.now c.args.check.now.ready c.requires.rows_value n h c.size-q.result c.size-q.ensures.0 (line-cleared (power_of c.args.check.now.first) c.args.check.now.weights.now c.args.check.now.costs.now c.args.l c.loop-n.n c.args.lines.now c.loop-n.lines c.requires.lines_room.cleared c.loop-n.invariant.1.0) c.column-s.ensures.line_then in
    ((search rules, search rules), (lines_turn f ws cs c.args.l n c.args.check.now.ready h _ c.args.lines.now c.loop-n.lines c.size-q.ensures.0 c.loop-n.invariant.1.0 c.requires.lines_room.of_lines c.loop-n.invariant.0.0 o, (out_turn f ws cs c.args.check.now.ready n h c.loop-n.out c.args.out.now (omega (arith, c.requires.lines_room.of_out)) c.loop-n.invariant.1.1.0 t, sum_turn f ws cs c.args.check.now.ready n h c.loop-n.invariant.1.1.1 t)))
