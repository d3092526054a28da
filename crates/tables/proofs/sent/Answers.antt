use mathlib.Core.Path.{sym}
use native.Mathlib.Omega.{arith}
use lib.ListN.{length-take}
use Rattle.tables.proofs.Ranges.{in_range_lem, size_room}
use Rattle.tables.proofs.Calling.{sent-none, sent-short, sent_tight, sent-done}
use Rattle.tables.proofs.sent.Goals.{then-lines-n-via-then-lines-n, then-lines-n-via-else-lines-n+then-out-n}
use Rattle.tables.proofs.sent.Goals as goal

pub returns-in_default : goal.returns-in_default
returns-in_default c =
    sent-none c.args.rule.p c.args.rule.k c.args.d c.args.lines.now c.args.out.now c.args.rule.greatest (sym c.in_default.ensures.fits)

pub overflow_mul-n : goal.overflow_mul-n
overflow_mul-n c =
    omega (arith, size_room c.args.d c.in-Some.shape.l (in_range_lem c.args.rule.p c.args.rule.k c.args.d (sym c.in-Some.ensures.fits)).1.1.1 c.in-Some.shape.shaped.table.limit)

pub returns-then-lines-n : goal.returns-then-lines-n
returns-then-lines-n c =
    let call = sent-short c.args.rule.p c.args.rule.k c.args.d c.args.lines.now c.args.out.now c.args.rule.greatest c.in-Some.shape c.in-Some.ensures.shape (sym c.in-Some.ensures.fits) in
    let tight = sent_tight c.args.rule.p c.args.rule.k c.args.d c.args.lines.now c.args.out.now c.args.rule.greatest c.in-Some.shape c.in-Some.ensures.shape (sym c.in-Some.ensures.fits) in
    elim c.then-lines-n.branch [
      | then-lines-n-via-then-lines-n w ↦ call w.if-lines-n.true
      | then-lines-n-via-else-lines-n+then-out-n w ↦ tight w.if-lines-n.false w.if-out-n.true
    ]

pub rows-requires : goal.rows-requires
rows-requires c =
    let r = in_range_lem c.args.rule.p c.args.rule.k c.args.d (sym c.in-Some.ensures.fits) in
    record {
      le_d = (r.1.1, (simp length-take (omega arith), simp length-take (omega arith)));
    }

pub returns : goal.returns
returns c =
    sent-done c.args.rule.p c.args.rule.k c.args.d c.args.lines.now c.args.out.now c.args.rule.greatest c.in-Some.shape c.in-Some.ensures.shape (sym c.in-Some.ensures.fits) c.if-lines-n.false c.if-out-n.false c.rows.ensures
