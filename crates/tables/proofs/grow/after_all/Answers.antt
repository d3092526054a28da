use mathlib.Core.Path.{◌≡◌, ap, ◌∙◌}
use Prim.Native.Nat.{◌+◌, ◌-◌}
use native.Mathlib.Omega.{arith}
use lib.ListN.{length}
use Rattle.tables.specs.inner.Tables.{after_to}
use Rattle.tables.proofs.Growing.{widths, after-length, after_turn, keep_turn}
use Rattle.tables.proofs.grow.after_all.Goals as goal

pub keep-requires-clause-i_lt_n : goal.keep-requires-clause-i_lt_n
keep-requires-clause-i_lt_n c =
    let t = ap length c.after_first.ensures ∙ after-length c.args.shape.greatest c.args.shape.q c.args.shape.l c.args.shape.k c.args.lines.now c.args.d c.requires.le_d.0.0 c.requires.le_d.1.0 0 in
    let w = widths c.args.shape.k c.args.shape.l c.args.shape.shaped.table c.args.shape.shaped.few in
    ((omega arith, omega arith), (omega (arith, w, t), omega (arith, w, t)))

pub keep-requires-in-loop-i-clause-i_lt_n : goal.keep-requires-in-loop-i-clause-i_lt_n
keep-requires-in-loop-i-clause-i_lt_n c =
    let i = c.loop-i.i in
    let t = ap length (after_turn c.args.shape.greatest c.args.shape.q c.args.shape.l c.args.shape.k c.args.lines.now c.args.d c.requires.le_d.0.0 c.requires.le_d.1.0 i (c.args.d - 1 - i) (omega arith) (omega arith) c.loop-i.invariant.0 c.take_in.ensures) ∙ after-length c.args.shape.greatest c.args.shape.q c.args.shape.l c.args.shape.k c.args.lines.now c.args.d c.requires.le_d.0.0 c.requires.le_d.1.0 i in
    let w = widths c.args.shape.k c.args.shape.l c.args.shape.shaped.table c.args.shape.shaped.few in
    ((omega arith, omega arith), (omega (arith, w, t), omega (arith, w, t)))

pub loop-i-preserved : goal.loop-i-preserved
loop-i-preserved c =
    let i = c.loop-i.i in
    let t = after_turn c.args.shape.greatest c.args.shape.q c.args.shape.l c.args.shape.k c.args.lines.now c.args.d c.requires.le_d.0.0 c.requires.le_d.1.0 i (c.args.d - 1 - i) (omega arith) (omega arith) c.loop-i.invariant.0 c.take_in.ensures in
    let e : i ≡ i + 1 - 1 = omega arith in
    (t ∙ ap (after_to c.args.shape.greatest c.args.shape.q c.args.shape.l c.args.shape.k c.args.lines.now c.args.d) e, (keep_turn c.args.shape.greatest c.args.shape.q c.args.shape.l c.args.shape.k c.args.lines.now c.args.d c.requires.le_d.0.0 c.requires.le_d.1.0 _ c.loop-i.after i (omega arith) (omega (arith, c.requires.table_len)) c.loop-i.invariant.1 t c.keep-in-loop-i.ensures).1)
