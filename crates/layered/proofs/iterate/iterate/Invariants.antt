-- The invariant: where the next check stands, and the buffers after the updates before it.
use mathlib.Core.Path.{◌≡◌}
use Prim.Native.Nat.{◌-◌, ◌≤◌}
use lib.ListN.{length}
use Rattle.layered.specs.inner.Buffers.{SameScratch}
use Rattle.codeline.specs.Codes.{lent_code}
use Rattle.machine.specs.Lent.{lent, update_lent}
use Rattle.trellis.specs.Lists.{upto}
use Rattle.layered.specs.inner.Places.{Stands}
use Rattle.layered.proofs.iterate.iterate.Given as goal

abbrev pub invariant-loop-here : goal.invariant-loop-here
invariant-loop-here l = (l.here.check ≤ l.count) × (Stands l.code.numbers.first l.code.degrees.now l.here.check l.here × ((lent l.costs l.store ≡ upto (update_lent (lent_code l.code) l.start) l.here.check (lent l.initial.costs l.initial.store)) × ((length l.costs ≡ length l.initial.costs) × ((length l.store ≡ length l.initial.store) × SameScratch l.initial.room l.room))))

abbrev pub decreases-loop-here : goal.decreases-loop-here
decreases-loop-here l = l.count - l.here.check
