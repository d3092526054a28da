-- The reply of the call, packed; what it writes is short enough for the lower half.
use mathlib.Core.Path.{subst}
use native.Mathlib.Omega.{arith}
use native.Mathlib.Nat.{le_trans}
use Rattle.expansion.proofs.Values.{expand_short}
use Rattle.petsivola.specs.Packed.{Packs}
use Rattle.petsivola.proofs.petsivola_expand.Goals as goal

pub packed-requires : goal.packed-requires
packed-requires c = rw c.expand.ensures.reply (le_trans (expand_short _ _ _ _) (omega arith))

pub returns : goal.returns
returns c =
    record {
      reply = subst (Packs _) c.expand.ensures.reply c.packed.ensures;
      out_then = c.expand.ensures.out_then;
    }
