-- A round that spends nothing changes nothing, so that as many rounds as the allowance had give the same.
use Rattle.std.proofs.Common.{◌≡◌, length}
use Rattle.channels.specs.inner.Rounds.{rounds_at}
use Rattle.channels.specs.inner.Standing.{standing_of, ChannelLoans}
use Rattle.channels.specs.inner.Layouts.{code_for, RoundRoom}
use Rattle.channels.proofs.standing.Channels.serve.Given as goal

abbrev pub invariant-loop-self : goal.invariant-loop-self
invariant-loop-self l =
    ChannelLoans l.fn.self l.self
    × RoundRoom l.count l.layout (standing_of l.self) l.arrived l.sent
    × (rounds_at (code_for l.layout) l.count l.self.left (standing_of l.self) ≡ rounds_at (code_for l.layout) l.count l.fn.self.left (standing_of l.fn.self))
    × ((length l.arrived ≡ length l.fn.arrived) × (length l.sent ≡ length l.fn.sent))

abbrev pub decreases-loop-self : goal.decreases-loop-self
decreases-loop-self l = l.self.left
