-- The largest room is enough for 32 columns of 64 places.
use Rattle.checknode.proofs.Resting.{room_most}
use Rattle.checknode.proofs.record.record.Goals as goal

pub record_in-requires-else-n-le-SMALL_EXPANSION-clause-room : goal.record_in-requires-else-n-le-SMALL_EXPANSION-clause-room
record_in-requires-else-n-le-SMALL_EXPANSION-clause-room c = room_most c.args.check.now
