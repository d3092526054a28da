-- The symbols with the first k columns decided again; none changed where the count is 0.
use mathlib.Core.Path.{◌≡◌}
use Prim.Native.Nat.{◌≤◌}
use lib.ListN.{length}
use Rattle.layered.specs.inner.Early.{decided_again}
use Rattle.layered.proofs.early.decide_again.Given as goal

abbrev pub invariant-loop-c : goal.invariant-loop-c
invariant-loop-c l = (length l.symbols ≡ length l.fn.symbols) × ((l.symbols ≡ decided_again l.q l.costs l.columns l.c-index l.fn.symbols) × ((l.changed ≤ l.c-index) × (l.changed ≡ 0 → l.symbols ≡ l.fn.symbols)))
