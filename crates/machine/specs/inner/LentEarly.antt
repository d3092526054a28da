-- Stopping inside an iteration over the lent buffers, in the shape of the code's loop. proofs/EarlyLent.antt shows that it is that of
-- Early.antt.
use Rattle.std.specs.Prelude.{ℕ, zero, suc, ◌+◌, ◌%◌, ltb, length}
use Rattle.trellis.specs.Lists.{pick}
use Rattle.machine.specs.CodeLine.{Code}
use Rattle.machine.specs.Machine.{found, not_found, settled}
use Rattle.machine.specs.Lent.{Lent, Ended, ended, update_lent}

-- update u: of check u mod M, which has no record in the first M of them
abbrev pub next_lent : Code → ℕ → Lent → Lent
next_lent C u l = update_lent C (ltb u (length C.checks)) (u % length C.checks) l

-- at most n updates more, after u
unfoldable pub stop_lent : Code → ℕ → ℕ → Lent → Ended
stop_lent C zero u l = pick (settled C l.costs) (ended found u l) (ended not_found u l)
stop_lent C (suc n) u l = pick (settled C l.costs) (ended found u l) (stop_lent C n (u + 1) (next_lent C u l))
