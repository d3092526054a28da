-- With the pairs before j still to come the rows say what the pairs from j on say.
use mathlib.Core.Path.{◌≡◌}
use Rattle.trellis.specs.Lists.{tab}
use Rattle.expansion.proofs.Transposing.{said_from}
use Rattle.expansion.proofs.expansion.Lists.rows_from.Given as goal

abbrev pub invariant-loop-j : goal.invariant-loop-j
invariant-loop-j l = l.v ≡ tab (said_from l.self.bytes.now l.self.q l.self.k l.n l.at 16 l.j) 16
