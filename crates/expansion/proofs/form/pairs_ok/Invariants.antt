-- Where the pairs before j pass, those that are left decide; the next one may have no column below low.
use mathlib.Core.Path.{◌≡◌}
use Prim.Native.Nat.{◌+◌, ◌-◌, ◌*◌}
use mathlib.Core.Bool.{false}
use Rattle.trellis.specs.Lists.{pick}
use Rattle.trellis.specs.Record.{pairs_ok}
use Rattle.expansion.proofs.form.pairs_ok.Given as goal

abbrev pub invariant-loop-j : goal.invariant-loop-j
invariant-loop-j l = pairs_ok l.k l.r (l.at + 1) l.e l.d 0 ≡ pick l.ok (pairs_ok (l.k - l.j) l.r (l.at + 1 + 2 * l.j) l.e l.d l.low) false
