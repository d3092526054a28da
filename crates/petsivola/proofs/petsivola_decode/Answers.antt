-- The reply of the call, packed, and what it promises of the four buffers.
use mathlib.Core.Path.{subst}
use Rattle.petsivola.specs.Packed.{Packs}
use Rattle.petsivola.proofs.petsivola_decode.Goals as goal

pub returns : goal.returns
returns c =
    let D = c.decode.ensures in
    record {
      reply = subst (Packs _) D.replies c.of_answer.ensures;
      symbols_then = D.symbols-then;
      costs_then = D.costs-then;
      store_then = D.store_then;
      margins_then = D.margins-then;
    }
