-- The reply of the call, packed; what it writes is short enough for the lower half.
use mathlib.Core.Path.{subst}
use native.Mathlib.Omega.{arith}
use native.Mathlib.Nat.{le_trans}
use Rattle.display.proofs.Refusals.{display_short}
use Rattle.petsivola.specs.Packed.{Packs}
use Rattle.petsivola.proofs.petsivola_display.Goals as goal

pub packed-requires : goal.packed-requires
packed-requires c = rw c.display.ensures.reply (le_trans (display_short _ _ _ _) (omega arith))

pub returns : goal.returns
returns c =
    record {
      reply = subst (Packs _) c.display.ensures.reply c.packed.ensures;
      out_then = c.display.ensures.out_then;
    }
