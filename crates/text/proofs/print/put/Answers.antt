-- Two stores fill a part of two bytes.
use Rattle.text.proofs.Printing.{two-set}
use Rattle.text.proofs.print.put.Goals as goal

pub returns : goal.returns
returns c =
    rw (← c.digit.ensures, ← c.digit-2.ensures) (two-set c.args.out.now c.digit.result c.digit-2.result c.requires)
