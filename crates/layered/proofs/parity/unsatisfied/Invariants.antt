-- Inner loop: the sum of the first n terms. Outer loop: the place of the check's edges, and that the checks before it hold.
use mathlib.Core.Path.{◌≡◌}
use mathlib.Core.Bool.{true}
use Prim.Native.Nat.{ℕ, ◌-◌, ◌≤◌, ◌<◌}
use Rattle.machine.specs.CodeLine.{power, check}
use Rattle.machine.specs.Machine.{parity_sum}
use Rattle.machine.specs.inner.Tables.{edges_before}
use Rattle.codeline.specs.Codes.{lent_code}
use Rattle.layered.specs.inner.Parity.{holds_at}
use Rattle.layered.proofs.parity.unsatisfied.Given as goal

abbrev pub invariant-loop-n : goal.invariant-loop-n
invariant-loop-n l =
    (l.n ≤ l.d) × (l.sum ≡ parity_sum (power (lent_code l.code)) (check (lent_code l.code) l.m) l.symbols l.n)

abbrev pub decreases-loop-n : goal.decreases-loop-n
decreases-loop-n l = l.d - l.n

abbrev pub invariant-checks : goal.invariant-checks
invariant-checks l =
    (l.initial.m ≤ l.m) × ((l.m ≤ l.to) × ((l.at ≡ edges_before l.code.degrees.now l.m) × ((j : ℕ) → l.initial.m ≤ j → j < l.m → holds_at (lent_code l.code) l.symbols j ≡ true)))

abbrev pub decreases-checks : goal.decreases-checks
decreases-checks l = l.to - l.m
