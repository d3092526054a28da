-- The struct of src/ in which the channels stand, as the rounds see it.
use Rattle.std.specs.Prelude.{◌≡◌, map}
use Rattle.machine.specs.Decoding.{lending}
use Rattle.channels.specs.declared.standing.Channel.{Channel}
use Rattle.channels.specs.declared.standing.Channels.{Channels}
use Rattle.channels.specs.inner.Statuses.{status_number}
use Rattle.channels.specs.inner.Rounds.{Standing, standing}

abbrev pub standing_of : Channels → Standing
standing_of s =
    standing (map (λ (c : Channel). status_number c.status) s.each) (map (λ (c : Channel). c.iterations) s.each) s.left
    (lending s.symbols.now s.costs.now s.store.now s.margins.now)

-- each buffer is the same loan as before
pub record ChannelLoans (old new : Channels) : Type 0 where
  pub symbols : new.symbols.ghost_name ≡ old.symbols.ghost_name
  pub costs : new.costs.ghost_name ≡ old.costs.ghost_name
  pub store : new.store.ghost_name ≡ old.store.ghost_name
  pub margins : new.margins.ghost_name ≡ old.margins.ghost_name
