use mathlib.Core.Path.{◌≡◌}
use mathlib.Core.List.{◌++◌}
use Prim.Native.Nat.{◌-◌, ◌*◌}
use lib.ListN.{drop}
use Rattle.trellis.specs.Lists.{blocks}
use Rattle.tables.specs.inner.Tables.{before_to, sent_row}
use Rattle.tables.proofs.rows.all.Given as goal

abbrev pub invariant-loop-n : goal.invariant-loop-n
invariant-loop-n l =
    (l.before ≡ before_to l.shape.greatest l.shape.q l.shape.l l.shape.k l.lines (l.n - 1))
    × (l.out ≡ blocks (sent_row l.shape.greatest l.shape.q l.shape.l l.shape.k l.lines l.d) l.n ++ drop (l.n * l.shape.l) l.initial.out)
