use mathlib.Core.Path.{◌≡◌}
use mathlib.Core.List.{◌++◌}
use Prim.Native.Nat.{suc, ◌-◌, ◌*◌}
use lib.ListN.{take, drop}
use Rattle.tables.specs.inner.Tables.{grown_list}
use Rattle.tables.proofs.grow.grow.Given as goal

abbrev pub invariant-loop-j : goal.invariant-loop-j
invariant-loop-j l =
    l.table ≡ take (suc (l.j - 1) * l.l) l.initial.table ++ drop (suc (l.j - 1) * l.l) (grown_list l.shape.greatest l.shape.q l.l l.shape.k l.line l.initial.table)
