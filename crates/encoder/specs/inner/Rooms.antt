-- What the loops over the tables of a code ask beside an accepted code; the public call asks nothing.
use Rattle.std.specs.Prelude.{◌≡◌, true, List, ℕ, ◌<◌, length, get_or}
use Rattle.trellis.specs.Rules.{size_of}
use Rattle.machine.specs.Encoding.{message_length, own_column, encodable}
use Rattle.machine.specs.inner.Tables.{edges_before}
use Rattle.codeline.specs.declared.code.Code.{Code as LentCode}
use Rattle.codeline.specs.Codes.{lent_code}

-- check m with the place of its edges, and in w an element for each column before its own
pub record OwnRoom (K : LentCode) (m at : ℕ) (w : List ℕ) : Type 0 where
  pub form : encodable (lent_code K) ≡ true
  pub inside : m < K.numbers.checks
  pub edge_is : at ≡ edges_before K.degrees.now m
  pub full : length w ≡ own_column (lent_code K) m
  pub small : (i : ℕ) → i < length w → get_or w i 0 < size_of K.numbers.first

-- room for N symbols, of which the first `from` are the message
pub record FillRoom (K : LentCode) (from : ℕ) (z : List ℕ) : Type 0 where
  pub form : encodable (lent_code K) ≡ true
  pub message : from ≡ message_length (lent_code K)
  pub full : length z ≡ K.numbers.columns
  pub small : (i : ℕ) → i < from → get_or z i 0 < size_of K.numbers.first
