-- The loop fills the symbols from the front.
use mathlib.Core.Path.{◌≡◌}
use Prim.Native.Nat.{ℕ}
use lib.ListN.{length, take}
use Rattle.trellis.specs.Lists.{tab}
use Rattle.trellis.specs.Check.{first_zero}
use Rattle.machine.specs.CodeLine.{column_of}
use Rattle.layered.proofs.parity.decisions.Given as goal

abbrev pub invariant-loop-c : goal.invariant-loop-c
invariant-loop-c l = (length l.symbols ≡ length l.fn.symbols) × (take l.c l.symbols ≡ tab (λ (k : ℕ). first_zero (column_of l.q l.costs k)) l.c)
