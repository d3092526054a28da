-- What an update asks of costs and stored records, and leaves: costs in range, records of accepted form.
use Rattle.std.specs.Prelude.{◌≡◌, Bool, true, false, ℕ, ◌*◌, ◌≤◌, ◌<◌, length, get_or}
use mathlib.Core.List.{List, Memᴰ}
use Rattle.trellis.specs.Lists.{part}
use Rattle.trellis.specs.Record.{record_length, record_ok}
use Rattle.machine.specs.CodeLine.{Code, size, rule, check, column_of}
use Rattle.machine.specs.Machine.{place, used}
use Rattle.machine.specs.Lent.{Lent}
use Rattle.machine.specs.inner.Accepted.{GoodCode}

-- no element above b
abbrev pub Below : ℕ → List ℕ → Type 0
Below b l = (x : ℕ) → get_or l x 0 ≤ b

pub record Ranged (C : Code) (P : List ℕ) : Type 0 where
  pub full : length P ≡ C.columns * size C
  pub small : Below 510 P
  pub has_zero : (c : ℕ) → c < C.columns → Memᴰ 0 (column_of (size C) P c)

module _ (C : Code) (G : GoodCode C) where
  abbrev pub piece_in : Lent → ℕ → List ℕ
  piece_in l m = part l.store (place C m) (record_length (rule C) (length (check C m)))

  abbrev pub Formed : Lent → ℕ → Type 0
  Formed l m = record_ok (rule C) (length (check C m)) (piece_in l m) ≡ true

  -- costs in range, room in the store, and records of accepted form but in the first iteration
  pub record Passable (start : Bool) (l : Lent) : Type 0 where
    pub ranged : Ranged C l.costs
    pub room : used C ≤ length l.store
    pub formed : start ≡ false → (m : ℕ) → m < length C.checks → Formed l m

  -- after u updates: costs in range, room in the store, and each check that was updated has a record of accepted form
  pub record Advancing (u : ℕ) (l : Lent) : Type 0 where
    pub ranged : Ranged C l.costs
    pub room : used C ≤ length l.store
    pub done : (m : ℕ) → m < length C.checks → m < u → Formed l m
