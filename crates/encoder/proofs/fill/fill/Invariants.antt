-- After m turns the buffer starts with the word of m checks, and the rest of it is as it was.
use mathlib.Core.Path.{◌≡◌}
use mathlib.Core.List.{◌++◌}
use Prim.Native.Nat.{◌+◌}
use lib.ListN.{length, take, drop}
use Rattle.machine.specs.Encoding.{encode_to}
use Rattle.machine.specs.inner.Tables.{edges_before}
use Rattle.codeline.specs.Codes.{lent_code}
use Rattle.encoder.proofs.fill.fill.Given as goal

abbrev pub invariant-loop-m : goal.invariant-loop-m
invariant-loop-m l = (l.at ≡ edges_before l.code.degrees.now l.m) × ((length l.symbols ≡ length l.initial.symbols) × (l.symbols ≡ encode_to (lent_code l.code) (take l.from l.initial.symbols) l.m ++ drop (l.from + l.m) l.initial.symbols))
