-- The invariant is Going: where the next check stands, and that what is left gives the same as the whole.
use Prim.Native.Nat.{◌-◌}
use Rattle.machine.specs.Lent.{lent}
use Rattle.layered.specs.inner.Buffers.{SameLoans, SameScratch}
use Rattle.layered.specs.inner.Early.{Going}
use Rattle.layered.proofs.early.go_on.Given as goal

abbrev pub invariant-loop-u : goal.invariant-loop-u
invariant-loop-u l = Going l.code l.most (lent l.initial.b.costs.now l.initial.b.store.now) l.u l.here l.from l.b.costs.now l.b.store.now l.b.symbols.now × (SameLoans l.initial.b l.b × SameScratch l.initial.room l.room)

abbrev pub decreases-loop-u : goal.decreases-loop-u
decreases-loop-u l = l.most - l.u
