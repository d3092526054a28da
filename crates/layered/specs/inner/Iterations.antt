-- What an iteration and the run ask of the tables of a code and of the buffers, and what an outcome says of these.
use Rattle.std.specs.Prelude.{◌≡◌, Bool, List, ℕ, ◌≤◌, length}
use Rattle.trellis.specs.Sizes.{most_expansion}
use Rattle.machine.specs.Machine.{found, not_found}
use Rattle.machine.specs.Lent.{Lent, lent, Ended, ended}
use Rattle.machine.specs.inner.InRange.{Passable}
use Rattle.codeline.specs.declared.code.Code.{Code as LentCode}
use Rattle.codeline.specs.Codes.{lent_code}
use Rattle.layered.specs.declared.answers.Outcome.{Outcome}
use Rattle.layered.specs.declared.answers.Outcome.TheVariants.{Found, NotFound}

-- an outcome with what the buffers then hold
abbrev pub ended_in : Outcome → Lent → Ended
ended_in (Found t) l = ended found t l
ended_in (NotFound t) l = ended not_found t l

-- costs in range, and room for the records; but in the first iteration each stored record is of accepted form
pub record Running (K : LentCode) (start : Bool) (P store : List ℕ) : Type 0 where
  pub passable : Passable (lent_code K) K.coded.good start (lent P store)

-- room to work in: two lists for the largest check's columns
pub record IterateRoom (K : LentCode) (start : Bool) (P store A S : List ℕ) : Type 0 where
  pub running : Running K start P store
  pub arrived : most_expansion ≤ length A
  pub sent : most_expansion ≤ length S

-- and a symbol for each column
pub record RunRoom (K : LentCode) (start : Bool) (P store z A S : List ℕ) : Type 0 where
  pub iterate : IterateRoom K start P store A S
  pub symbols : length z ≡ K.numbers.columns
