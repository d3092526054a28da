-- The room is enough for the columns, and fresh arrays are zeros.
use lib.ListN.{length}
use Rattle.checknode.proofs.Resting.{parts_room}
use Rattle.checknode.proofs.record.messages_in.Goals as goal

pub messages_with-requires-clause-parts : goal.messages_with-requires-clause-parts
messages_with-requires-clause-parts g c = parts_room c.args.check.now.first (length c.args.check.now.weights.now) _ _ g.row.ROOM c.size.ensures.0 c.side.ensures c.requires.room.0
