-- What is left to run gives the same as the whole run; the buffers hold a state of the machine (run-next).
use mathlib.Core.Path.{◌≡◌}
use Prim.Native.Nat.{◌-◌, ◌≤◌}
use lib.Dec.{eqb}
use Rattle.layered.specs.inner.Buffers.{SameLoans, SameScratch}
use Rattle.codeline.specs.Codes.{lent_code}
use Rattle.machine.specs.Lent.{lent, go_lent}
use Rattle.layered.specs.inner.Iterations.{Running}
use Rattle.layered.proofs.iterate.run.Given as goal

abbrev pub invariant-loop-limit : goal.invariant-loop-limit
invariant-loop-limit l = (l.t ≤ l.code.numbers.limit) × (Running l.code (eqb l.t 0) l.b.costs.now l.b.store.now × ((go_lent (lent_code l.code) (l.code.numbers.limit - l.t) l.t (lent l.b.costs.now l.b.store.now) ≡ go_lent (lent_code l.code) l.code.numbers.limit 0 (lent l.initial.b.costs.now l.initial.b.store.now)) × (SameLoans l.initial.b l.b × SameScratch l.initial.room l.room)))

abbrev pub decreases-loop-limit : goal.decreases-loop-limit
decreases-loop-limit l = l.code.numbers.limit - l.t
