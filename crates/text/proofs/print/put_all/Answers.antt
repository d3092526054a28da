use mathlib.Core.Path.{◌≡◌}
use native.Mathlib.Omega.{arith}
use lib.ListN.{length}
use Rattle.text.proofs.Printing.{line-end}
use Rattle.text.proofs.print.put_all.Goals as goal

pub returns : goal.returns
returns c =
    let a = c.args in
    let e : c.loop-i.i ≡ length a.bytes.now = omega arith in
    line-end a.bytes.now a.out.now c.loop-i.out (omega arith) (rw e at c.loop-i.invariant.1)
