-- After each serving the next one has what it asks (serve_next).
use Rattle.std.proofs.Common.{◌≡◌, length}
use Rattle.trellis.specs.Lists.{upto}
use Rattle.channels.specs.inner.Rounds.{serving_at}
use Rattle.channels.specs.inner.Standing.{standing_of, ChannelLoans}
use Rattle.channels.specs.inner.Layouts.{code_for, RoundRoom}
use Rattle.channels.proofs.standing.Channels.round.Given as goal

abbrev pub invariant-loop-c : goal.invariant-loop-c
invariant-loop-c l =
    ChannelLoans l.fn.self l.self
    × RoundRoom l.count l.layout (standing_of l.self) l.arrived l.sent
    × (standing_of l.self ≡ upto (serving_at (code_for l.layout)) l.c (standing_of l.fn.self))
    × ((length l.arrived ≡ length l.fn.arrived) × (length l.sent ≡ length l.fn.sent))
