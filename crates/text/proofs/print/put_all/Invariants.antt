-- The invariant: the digits so far stand in front of the rest of the buffer, two for each byte; the 0A comes behind the last.
use mathlib.Core.Path.{◌≡◌}
use mathlib.Core.List.{◌++◌}
use Prim.Native.Nat.{◌*◌}
use lib.ListN.{length, drop}
use Rattle.trellis.specs.Lists.{blocks}
use Rattle.text.proofs.Printing.{digits_at}
use Rattle.text.proofs.print.put_all.Given as goal

abbrev pub invariant-loop-i : goal.invariant-loop-i
invariant-loop-i l = (length l.out ≡ length l.initial.out) × (l.out ≡ blocks (digits_at l.bytes) l.i ++ drop (l.i * 2) l.initial.out)
