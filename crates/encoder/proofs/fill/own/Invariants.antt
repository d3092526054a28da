-- Before each edge the sum of the terms before it; the last weight divides the sum of all but the last.
use mathlib.Core.Path.{◌≡◌}
use Prim.Native.Nat.{◌-◌}
use Rattle.machine.specs.CodeLine.{power, check}
use Rattle.machine.specs.Machine.{parity_sum}
use Rattle.codeline.specs.Codes.{lent_code}
use Rattle.encoder.proofs.fill.own.Given as goal

abbrev pub invariant-loop-edge : goal.invariant-loop-edge
invariant-loop-edge l = l.sum ≡ parity_sum (power (lent_code l.code)) (check (lent_code l.code) l.m) l.word (l.edge - l.at)
