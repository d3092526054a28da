-- The numbers of the statuses.
use Rattle.std.specs.Prelude.{ℕ}
use Rattle.refusal.specs.Numbers.{number_of}
use Rattle.channels.specs.declared.standing.Status.{Status}
use Rattle.channels.specs.declared.standing.Status.TheVariants.{Absent, Running, Found, NotFound, Refused}

-- 0 for a channel that there is not
abbrev pub status_number : Status → ℕ
status_number Absent = 0
status_number Running = 20
status_number Found = 0
status_number NotFound = 1
status_number (Refused r) = number_of r
