-- The loop fills both from the front.
use mathlib.Core.Path.{◌≡◌}
use Prim.Native.Nat.{ℕ}
use lib.ListN.{length, take}
use Rattle.trellis.specs.Lists.{tab}
use Rattle.trellis.specs.Check.{first_zero, margin_of}
use Rattle.machine.specs.CodeLine.{column_of}
use Rattle.layered.proofs.parity.symbols_and_margins.Given as goal

abbrev pub invariant-loop-c : goal.invariant-loop-c
invariant-loop-c l =
    (length l.symbols ≡ length l.fn.symbols)
    × ((length l.margins ≡ length l.fn.margins)
    × ((take l.c l.symbols ≡ tab (λ (k : ℕ). first_zero (column_of l.q l.costs k)) l.c)
    × (take l.c l.margins ≡ tab (λ (k : ℕ). margin_of (column_of l.q l.costs k)) l.c)))
