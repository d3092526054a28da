use native.Mathlib.Omega.{arith}
use lib.ListN.{length-set}
use Rattle.codeline.proofs.Parsing.{checks_more}
use Rattle.codeline.proofs.checks.checks.Goals as goal

pub loop-m-preserved : goal.loop-m-preserved
loop-m-preserved c = (grind arith, (simp (length-set, c.check.ensures.degrees) c.loop-m.invariant.1.0, (grind arith, grind (arith, checks_more))))
