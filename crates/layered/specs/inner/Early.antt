-- What the functions ask that stop inside an iteration, and the loop's invariant over stop_lent of the machine. proofs/Advances.antt keeps
-- it.
use Rattle.std.specs.Prelude.{◌≡◌, true, false, List, ℕ, Option, Some, None, ◌+◌, ◌-◌, ◌*◌, ◌%◌, ◌≤◌, ◌<◌, length, get_or, set}
use Rattle.trellis.specs.Lists.{upto}
use Rattle.trellis.specs.Check.{decide}
use Rattle.trellis.specs.Rules.{size_of}
use Rattle.trellis.specs.Sizes.{most_expansion, most_size}
use Rattle.machine.specs.CodeLine.{Code, column_of}
use Rattle.machine.specs.Machine.{symbols, settled}
use Rattle.machine.specs.Lent.{Lent, lent}
use Rattle.machine.specs.inner.LentEarly.{stop_lent}
use Rattle.machine.specs.inner.Tables.{edges_before, table_at}
use Rattle.machine.specs.inner.InRange.{Advancing}
use Rattle.codeline.specs.declared.code.Code.{Code as LentCode}
use Rattle.codeline.specs.Codes.{lent_code}
use Rattle.layered.specs.declared.parity.CheckAt.{CheckAt}
use Rattle.layered.specs.declared.place.Place.{Place}
use Rattle.layered.specs.inner.Parity.{EdgeOf, SettledRoom}
use Rattle.layered.specs.inner.Places.{Stands}

-- the symbols z where the first k of the columns cs are decided again, from costs P
unfoldable pub decided_again : ℕ → List ℕ → List ℕ → ℕ → List ℕ → List ℕ
decided_again q P cs k z = upto (λ j (z : List ℕ). set z (get_or cs j 0) (decide (column_of q P (get_or cs j 0))).symbol) k z

pub record AgainRoom (q : ℕ) (P cs z : List ℕ) : Type 0 where
  pub small : q ≤ most_size
  pub in_costs : (k : ℕ) → k < length cs → get_or cs k 0 * q + q ≤ length P
  pub in_symbols : (k : ℕ) → k < length cs → get_or cs k 0 < length z

-- the symbols z are the decisions of other costs, and check `from` was not satisfied; deciding the columns of the check at p again gives
-- those of P
pub record RetestRoom (K : LentCode) (p : Place) (from : CheckAt) (P z : List ℕ) : Type 0 where
  pub settled-room : SettledRoom K P z
  pub inside : p.check < K.numbers.checks
  pub edge_is : p.edge ≡ edges_before K.degrees.now p.check
  pub from_edge : EdgeOf K.degrees.now from
  pub from_inside : from.check < K.numbers.checks
  pub old : List ℕ
  pub decided : z ≡ symbols (lent_code K) old
  pub unsettled : settled (lent_code K) old ≡ false
  pub again : decided_again (size_of K.numbers.first) P (table_at K.degrees.now K.columns.now p.check) (length (table_at K.degrees.now K.columns.now p.check))
      (symbols (lent_code K) old)
      ≡ symbols (lent_code K) P

-- r is a check, and the decisions of P do not satisfy every one
pub record RetestedAt (C : Code) (ds P : List ℕ) (r : CheckAt) : Type 0 where
  pub edge_is : EdgeOf ds r
  pub inside : r.check < length C.checks
  pub unsettled : settled C P ≡ false

-- none where they do
abbrev pub Retested : Code → List ℕ → List ℕ → Option CheckAt → Type 0
Retested C ds P (Some r) = RetestedAt C ds P r
Retested C ds P None = settled C P ≡ true

-- after u updates, which have not satisfied every check: the symbols are the decisions
pub record Unsettled (K : LentCode) (u : ℕ) (P store z : List ℕ) : Type 0 where
  pub advancing : Advancing (lent_code K) K.coded.good u (lent P store)
  pub decided : z ≡ symbols (lent_code K) P
  pub unsettled : settled (lent_code K) P ≡ false

-- room to go on from there: two lists to work in
pub record GoRoom (K : LentCode) (P store z A S : List ℕ) : Type 0 where
  pub unsettled : Unsettled K 0 P store z
  pub arrived : most_expansion ≤ length A
  pub sent : most_expansion ≤ length S

-- in the loop over the updates, of which there are at most `most`: the next check stands here, check `from` is not satisfied, and what is
-- left gives the same as the whole
pub record Going (K : LentCode) (most : ℕ) (l₀ : Lent) (u : ℕ) (here : Place) (from : CheckAt)
    (P store z : List ℕ) : Type 0 where
  pub at_most : u ≤ most
  pub check_is : here.check ≡ u % K.numbers.checks
  pub stands : Stands K.numbers.first K.degrees.now here.check here
  pub from_edge : EdgeOf K.degrees.now from
  pub from_inside : from.check < K.numbers.checks
  pub unsettled : Unsettled K u P store z
  pub left : stop_lent (lent_code K) (most - u) u (lent P store) ≡ stop_lent (lent_code K) most 0 l₀
