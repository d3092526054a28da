-- Where a load or an iteration ends, and what a load and an iteration under a code that is read ask. proofs/Steps.antt shows that these are
-- loading and iterating.
use Rattle.std.specs.Prelude.{◌≡◌, Bool, List, ℕ, leb, length}
use Rattle.trellis.specs.Lists.{pick}
use Rattle.machine.specs.CodeLine.{good, Code}
use Rattle.machine.specs.Decoding.{Buffers, admitted_under}
use Rattle.machine.specs.Moments.{Stage as Ends, Moment, loading_under, resumable_under, iterating_under}
use Rattle.codeline.specs.declared.code.Code.{Code as LentCode}
use Rattle.layered.specs.Answers.{ends}
use Rattle.layered.specs.inner.Parity.{SettledRoom}
use Rattle.layered.specs.inner.Iterations.{IterateRoom}

-- "2 if the test holds, else 3 if t is I or more, else 1"
unfoldable pub stage_after : Bool → ℕ → ℕ → Ends
stage_after found t limit = ends (pick found 2 (pick (leb limit t) 3 1)) 0

-- a load and an iteration under a code that is read
abbrev pub loading_of : Code → List ℕ → Buffers → Moment
loading_of C f b = loading_under (admitted_under (good C) f b) f b

abbrev pub iterating_of : Code → List ℕ → ℕ → Buffers → Moment
iterating_of C f t b = iterating_under (resumable_under (admitted_under (good C) f b) t b) t b

-- room for the test: a symbol and a margin for each column
pub record TestRoom (K : LentCode) (P z v : List ℕ) : Type 0 where
  pub settled : SettledRoom K P z
  pub margins : length v ≡ K.numbers.columns

-- room for an iteration and the test after it
pub record StepRoom (K : LentCode) (start : Bool) (P store z v A S : List ℕ) : Type 0 where
  pub iterate : IterateRoom K start P store A S
  pub symbols : length z ≡ K.numbers.columns
  pub margins : length v ≡ K.numbers.columns
