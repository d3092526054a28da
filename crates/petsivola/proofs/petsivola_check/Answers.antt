-- The reply of the call, packed; what it writes is short enough for the lower half.
use mathlib.Core.Path.{subst}
use native.Mathlib.Omega.{arith}
use native.Mathlib.Nat.{le_trans}
use Rattle.checknode.proofs.Values.{check-short}
use Rattle.petsivola.specs.Packed.{Packs}
use Rattle.petsivola.proofs.petsivola_check.Goals as goal

pub packed-requires : goal.packed-requires
packed-requires c = rw c.check.ensures.reply (le_trans (check-short _ _ _ _) (omega arith))

pub returns : goal.returns
returns c =
    record {
      reply = subst (Packs _) c.check.ensures.reply c.packed.ensures;
      out_then = c.check.ensures.out_then;
    }
