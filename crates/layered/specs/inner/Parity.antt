-- The search for a check that the symbols do not satisfy, over the tables of a code, and what the functions of the parity test ask.
use Rattle.std.specs.Prelude.{◌≡◌, Bool, true, false, List, ℕ, Option, Some, None, ◌≤◌, ◌<◌, length, get_or}
use Rattle.trellis.specs.Lists.{all_to}
use Rattle.trellis.specs.Rules.{size_of}
use Rattle.machine.specs.CodeLine.{Code, power, check}
use Rattle.machine.specs.Machine.{satisfied}
use Rattle.machine.specs.inner.Tables.{edges_before}
use Rattle.machine.specs.inner.InRange.{Ranged}
use Rattle.codeline.specs.declared.code.Code.{Code as LentCode}
use Rattle.codeline.specs.Codes.{lent_code}
use Rattle.layered.specs.declared.parity.CheckAt.{CheckAt}

-- the symbols z satisfy check m; every check
abbrev pub holds_at : Code → List ℕ → ℕ → Bool
holds_at C z m = satisfied (power C) (check C m) z

unfoldable pub all_hold : Code → List ℕ → Bool
all_hold C z = all_to (holds_at C z) (length C.checks)

-- a symbol of the field for each column of the code
pub record ParityRoom (K : LentCode) (z : List ℕ) : Type 0 where
  pub symbols : length z ≡ K.numbers.columns
  pub small : (c : ℕ) → c < K.numbers.columns → get_or z c 0 < size_of K.numbers.first

-- the first edge of a check
abbrev pub EdgeOf : List ℕ → CheckAt → Type 0
EdgeOf ds c = c.edge ≡ edges_before ds c.check

-- some of the checks
pub record FromTo (K : LentCode) (from : CheckAt) (to : ℕ) : Type 0 where
  pub edge_is : EdgeOf K.degrees.now from
  pub ordered : from.check ≤ to
  pub inside : to ≤ K.numbers.checks

-- of the checks from `from` on and before `to` r is the first that is not satisfied
pub record FirstAt (C : Code) (ds z : List ℕ) (from to : ℕ) (r : CheckAt) : Type 0 where
  pub edge_is : EdgeOf ds r
  pub low : from ≤ r.check
  pub high : r.check < to
  pub before_it : (j : ℕ) → from ≤ j → j < r.check → holds_at C z j ≡ true
  pub not_it : holds_at C z r.check ≡ false

abbrev pub FirstNot : Code → List ℕ → List ℕ → ℕ → ℕ → Option CheckAt → Type 0
FirstNot C ds z from to (Some r) = FirstAt C ds z from to r
FirstNot C ds z from to None = (j : ℕ) → from ≤ j → j < to → holds_at C z j ≡ true

-- r is a check, and not every check is satisfied
pub record SomeAt (C : Code) (ds z : List ℕ) (r : CheckAt) : Type 0 where
  pub edge_is : EdgeOf ds r
  pub inside : r.check < length C.checks
  pub not_all : all_hold C z ≡ false

-- none where every one is
abbrev pub SomeNot : Code → List ℕ → List ℕ → Option CheckAt → Type 0
SomeNot C ds z (Some r) = SomeAt C ds z r
SomeNot C ds z None = all_hold C z ≡ true

-- before the decisions: costs in range, and room for a symbol of each column
pub record SettledRoom (K : LentCode) (P z : List ℕ) : Type 0 where
  pub ranged : Ranged (lent_code K) P
  pub symbols : length z ≡ K.numbers.columns
