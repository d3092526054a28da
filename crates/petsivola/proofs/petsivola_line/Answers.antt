-- The reply of the call, packed; what it writes is short enough for the lower half.
use mathlib.Core.Path.{subst}
use Rattle.petsivola.specs.Packed.{Packs}
use Rattle.petsivola.proofs.Short.{line-short}
use Rattle.petsivola.proofs.petsivola_line.Goals as goal

pub packed-requires : goal.packed-requires
packed-requires c = rw c.line.ensures.reply (line-short _ _)

pub returns : goal.returns
returns c =
    record {
      reply = subst (Packs _) c.line.ensures.reply c.packed.ensures;
      out_then = c.line.ensures.out_then;
    }
