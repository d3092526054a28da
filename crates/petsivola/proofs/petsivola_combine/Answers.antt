-- The reply of the call, packed; what it writes is short enough for the lower half.
use mathlib.Core.Path.{subst}
use Rattle.petsivola.specs.Packed.{Packs}
use Rattle.petsivola.proofs.Short.{frame-short}
use Rattle.petsivola.proofs.petsivola_combine.Goals as goal

pub packed-requires : goal.packed-requires
packed-requires c = rw c.combine.ensures.reply (frame-short _ _ _ _)

pub returns : goal.returns
returns c =
    record {
      reply = subst (Packs _) c.combine.ensures.reply c.packed.ensures;
      out_then = c.combine.ensures.out_then;
    }
