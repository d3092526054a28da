-- Where a check stands in the tables and the store, and what one update of it asks.
use Rattle.std.specs.Prelude.{◌≡◌, Bool, false, List, ℕ, ◌≤◌, ◌<◌, eqb, length}
use Rattle.trellis.specs.Lists.{pick}
use Rattle.trellis.specs.Sizes.{most_expansion}
use Rattle.machine.specs.Machine.{used}
use Rattle.machine.specs.Lent.{lent}
use Rattle.machine.specs.inner.Tables.{edges_before, bytes_before}
use Rattle.machine.specs.inner.InRange.{Ranged, Formed}
use Rattle.codeline.specs.declared.code.Code.{Code as LentCode}
use Rattle.codeline.specs.Codes.{lent_code}
use Rattle.layered.specs.declared.place.Place.{Place}

-- where check m stands
pub record Stands (first : ℕ) (ds : List ℕ) (m : ℕ) (p : Place) : Type 0 where
  pub check_is : p.check ≡ m
  pub edge_is : p.edge ≡ edges_before ds m
  pub byte_is : p.byte ≡ bytes_before first ds m

-- of n checks the first comes behind the last
pub record Around (n : ℕ) (p r : Place) : Type 0 where
  pub check_is : r.check ≡ pick (eqb p.check n) 0 p.check
  pub edge_is : r.edge ≡ pick (eqb p.check n) 0 p.edge
  pub byte_is : r.byte ≡ pick (eqb p.check n) 0 p.byte

-- check m may be updated: the costs are in range, there is room for the records, and, but for a first update, its own is of accepted form
pub record Updatable (K : LentCode) (start : Bool) (m : ℕ) (P store : List ℕ) : Type 0 where
  pub in_code : m < K.numbers.checks
  pub ranged : Ranged (lent_code K) P
  pub room : used (lent_code K) ≤ length store
  pub formed : start ≡ false → Formed (lent_code K) K.coded.good (lent P store) m

-- and stands here; two lists to work in
pub record PlaceRoom (K : LentCode) (start : Bool) (p : Place) (P store A S : List ℕ) : Type 0 where
  pub updatable : Updatable K start p.check P store
  pub stands : Stands K.numbers.first K.degrees.now p.check p
  pub arrived : most_expansion ≤ length A
  pub sent : most_expansion ≤ length S
