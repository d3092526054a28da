-- messages accepts, and fills both buffers.
use Rattle.layered.proofs.Updates.{sent_is, messages_ok}
use Rattle.layered.proofs.update.send.Goals as goal

pub unwrap-requires : goal.unwrap-requires
unwrap-requires c =
    let a = c.args in
    messages_ok a.first a.weights.now a.costs.now c.requires.ready a.bytes.now a.out.now c.requires.for_record c.requires.full c.messages.result c.messages.ensures.reply

pub returns : goal.returns
returns c =
    let a = c.args in
    record {
      bytes_then = (sent_is a.first a.weights.now a.costs.now c.requires.ready a.bytes.now a.out.now _ _ c.requires.for_record c.requires.full c.messages.ensures.out_then c.messages.ensures.sent_then).0;
      out_then = (sent_is a.first a.weights.now a.costs.now c.requires.ready a.bytes.now a.out.now _ _ c.requires.for_record c.requires.full c.messages.ensures.out_then c.messages.ensures.sent_then).1;
    }
