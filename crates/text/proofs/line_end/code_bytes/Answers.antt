-- The bytes that `line` leaves, or none where it refuses.
use Rattle.text.proofs.Laws.{bytes_or_none}
use Rattle.text.proofs.line_end.code_bytes.Goals as goal

pub returns-clause-written : goal.returns-clause-written
returns-clause-written c =
    let b = bytes_or_none c.args.text.now c.args.code.now c.requires c.line.result c.line.ensures.reply _ c.line.ensures.out_then in
    rw c.unwrap_or.ensures b.0

pub returns-clause-code_then : goal.returns-clause-code_then
returns-clause-code_then c = (bytes_or_none c.args.text.now c.args.code.now c.requires c.line.result c.line.ensures.reply _ c.line.ensures.out_then).1
