-- One read, over the front of the block.
use Rattle.std.proofs.Common.{arith}
use Rattle.std.proofs.lemmas.List.{length-take}
use Rattle.decode.proofs.OneRead.{reads}
use Rattle.decode.proofs.read.Goals as goal

pub returns-clause-bytes : goal.returns-clause-bytes
returns-clause-bytes g c =
    let t = length-take c.min-k.result c.args.chunk.now in
    reads _ _ c.read.result c.read.new.buf _ c.min-k.result c.args.left _ c.min-k.ensures (omega (arith, t)) c.read.ensures.bound c.read.ensures.bytes
