-- Each load is one step of loaded_to.
use Rattle.std.proofs.Common.{◌≡◌}
use Rattle.trellis.specs.Lists.{upto}
use Rattle.channels.specs.inner.Rounds.{Rooms, loaded_at}
use Rattle.channels.specs.inner.Standing.{standing_of, ChannelLoans}
use Rattle.channels.specs.inner.Layouts.{code_for}
use Rattle.channels.proofs.standing.Channels.load.Given as goal

abbrev pub invariant-loop-c : goal.invariant-loop-c
invariant-loop-c l =
    ChannelLoans l.fn.self l.self
    × Rooms (code_for l.layout) l.count (standing_of l.self)
    × (standing_of l.self ≡ upto (loaded_at (code_for l.layout) l.frames) l.c (standing_of l.fn.self))
