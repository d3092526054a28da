-- The last column of each check so far is its own, and its edges start where those before it end.
use mathlib.Core.Path.{◌≡◌}
use Prim.Native.Nat.{ℕ, ◌+◌, ◌<◌}
use Rattle.machine.specs.inner.Tables.{edges_before}
use Rattle.encoder.proofs.Refusals.{last_at}
use Rattle.encoder.proofs.form.formed.Given as goal

abbrev pub invariant-loop-m : goal.invariant-loop-m
invariant-loop-m l = (l.at ≡ edges_before l.code.degrees.now l.m) × ((j : ℕ) → j < l.m → last_at l.code.degrees.now l.code.columns.now j ≡ l.from + j)
