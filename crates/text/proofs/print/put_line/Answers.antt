-- The two digits of the status, those of t and the line of the symbols, put one behind the other, are the line of all of them.
use native.Mathlib.Omega.{arith}
use lib.ListN.{length-take}
use Rattle.text.proofs.Printing.{line-head, length-line}
use Rattle.text.proofs.print.put_line.Goals as goal

pub slice_bounds-put-end-2 : goal.slice_bounds-put-end-2
slice_bounds-put-end-2 c = simp length-take (omega arith)

pub put-requires : goal.put-requires
put-requires c = simp length-take (omega arith)

pub returns : goal.returns
returns c =
    let a = c.args in
    record {
      written = length-line a.status a.t a.symbols.now;
      out_then = line-head a.out.now a.symbols.now _ _ _ a.status a.t (omega arith) c.put.ensures c.put-2.ensures c.put_all.ensures;
    }
