use Rattle.std.proofs.Common.{◌≡◌, length, take, map}
use Rattle.channels.specs.declared.standing.Channel.{Channel}
use Rattle.channels.specs.inner.Statuses.{status_number}
use Rattle.channels.proofs.standing.Channels.served.Given as goal

abbrev pub invariant-loop-i : goal.invariant-loop-i
invariant-loop-i l =
    ((length l.status ≡ 8) × (take l.i l.status ≡ map (λ (c : Channel). status_number c.status) (take l.i l.self.each)))
    × ((length l.iterations ≡ 8) × (take l.i l.iterations ≡ map (λ (c : Channel). c.iterations) (take l.i l.self.each)))
