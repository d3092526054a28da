-- The reply of the call, packed; what it writes is short enough for the lower half.
use mathlib.Core.Path.{subst}
use Rattle.petsivola.specs.Packed.{Packs}
use Rattle.petsivola.proofs.Short.{word-short}
use Rattle.petsivola.proofs.petsivola_encode.Goals as goal

pub packed-requires : goal.packed-requires
packed-requires c = rw c.encode.ensures.reply (word-short _ _ _)

pub returns : goal.returns
returns c =
    record {
      reply = subst (Packs _) c.encode.ensures.reply c.packed.ensures;
      symbols_then = c.encode.ensures.symbols_then;
    }
