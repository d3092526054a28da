-- The columns before n stand, end to end; each part is inside its table.
use mathlib.Core.Path.{◌≡◌}
use Prim.Native.Nat.{◌*◌}
use lib.ListN.{length, take}
use Rattle.trellis.specs.Lists.{blocks}
use Rattle.sweep.specs.inner.Joins.{column_sent}
use Rattle.sweep.proofs.join.sent_all.Given as goal

abbrev pub invariant-loop-n : goal.invariant-loop-n
invariant-loop-n l = (length l.out ≡ length l.fn.out) × (take (l.n * l.q) l.out ≡ blocks (column_sent l.greatest l.q l.k l.before l.after l.shifts) l.n)
