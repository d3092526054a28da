-- The columns before n have their sent costs.
use mathlib.Core.Path.{◌≡◌}
use Prim.Native.Nat.{◌*◌}
use lib.ListN.{length, take}
use Rattle.trellis.specs.Lists.{blocks}
use Rattle.checknode.specs.inner.Lines.{sent_column}
use Rattle.checknode.proofs.send.columns.Given as goal

abbrev pub invariant-loop-n : goal.invariant-loop-n
invariant-loop-n l = (length l.out ≡ length l.fn.out) × (take (l.n * l.q) l.out ≡ blocks (sent_column l.q l.l l.rows l.shifts l.rests) l.n)
