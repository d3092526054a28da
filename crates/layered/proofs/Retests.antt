-- Deciding the columns of an updated check again gives the decisions after it, and the test from a check on is the whole test.
use mathlib.Core.Path.{◌≡◌, refl, sym, ap, ap₂, ◌∙◌}
use mathlib.Core.List.{List}
use Prim.Native.Nat.{ℕ, ◌+◌, ◌-◌, ◌*◌, ◌≤◌, ◌<◌}
use native.Mathlib.Nat.{add-sub_cancel_left}
use native.Mathlib.Decide.{dec_lt}
use native.Mathlib.Omega.{arith}
use lib.ListN.{length, get_or, drop}
use lib.Seq.{get_or-take, get_or-drop}
use Rattle.std.specs.Prelude.{Option, Some, None}
use Rattle.trellis.specs.Lists.{part}
use Rattle.trellis.specs.Rules.{power_of, size_of}
use Rattle.trellis.proofs.Recurrence.{size_64}
use Rattle.machine.specs.CodeLine.{Code, check, edge_at}
use Rattle.machine.specs.Machine.{symbols}
use Rattle.machine.specs.inner.Tables.{edges_before, table_at}
use Rattle.machine.proofs.Ranges.{column-room}
use Rattle.machine.proofs.InTables.{in_columns, column_in, degree_is}
use Rattle.codeline.specs.declared.code.Code.{Code as LentCode}
use Rattle.codeline.specs.Answers.{numbers_in}
use Rattle.codeline.specs.Codes.{lent_code}
use Rattle.layered.specs.declared.parity.CheckAt.{CheckAt}
use Rattle.layered.specs.declared.place.Place.{Place}
use Rattle.layered.specs.inner.Parity.{all_hold, ParityRoom, FromTo, FirstNot, SomeNot}
use Rattle.layered.specs.inner.Early.{decided_again, AgainRoom, RetestRoom, Retested}
use Rattle.machine.proofs.Places.{length_part}
use Rattle.layered.proofs.Satisfied.{decided-room, settled-by, all_hold_lem, one-not}
use Rattle.layered.proofs.Runs.{checks-count}

-- the test from a check on
module _ (C : Code) (ds z : List ℕ) (n : ℕ) (all : n ≡ length C.checks) (from : CheckAt) where
  pub behind_it : (r : Option CheckAt) → (r ≡ None → ⊥) → FirstNot C ds z from.check n r → SomeNot C ds z r
  behind_it None e F = absurd (e refl)
  behind_it (Some r) e F = record { edge_is = F.edge_is; inside = omega (arith, F.high); not_all = one-not C z r.check (omega (arith, F.high)) F.not_it }

  pub before_it : from.check ≤ n → FirstNot C ds z from.check n None → (b : Option CheckAt) → FirstNot C ds z 0 from.check b → SomeNot C ds z b
  before_it h F (Some b) B = record { edge_is = B.edge_is; inside = omega (arith, B.high); not_all = one-not C z b.check (omega (arith, B.high)) B.not_it }
  before_it h F None B =
      all_hold_lem C z (λ j l. elim (dec_lt j from.check) [
        | yes u ↦ B j (omega arith) (omega arith)
        | no u ↦ F j (omega arith) (omega arith)
      ])

-- the test after an update of the check that stands at p
module _ (K : LentCode) (p : Place) (from : CheckAt) (P z : List ℕ) (R : RetestRoom K p from P z) where
  abbrev m : ℕ
  m = p.check

  abbrev C : Code
  C = lent_code K

  abbrev hc : edges_before K.degrees.now K.numbers.checks ≤ length K.columns.now
  hc = K.coded.for_columns

  abbrev hw : edges_before K.degrees.now K.numbers.checks ≤ length K.weights.now
  hw = K.coded.for_weights

  checks-are : length C.checks ≡ K.numbers.checks
  checks-are = checks-count K

  pub edges-inside : (d : ℕ) → d ≡ get_or K.degrees.now m 0 → p.edge + d ≤ length K.columns.now
  edges-inside d i = rw (R.edge_is, i) (in_columns (numbers_in K.numbers) K.degrees.now K.columns.now K.weights.now hc hw m R.inside)

  pub check_there : m < length K.degrees.now
  check_there = omega (arith, R.inside, K.coded.for_degrees)

  -- its columns, as the code has them
  module _ (d : ℕ) (i : d ≡ get_or K.degrees.now m 0) where
    abbrev own : List ℕ
    own = part K.columns.now p.edge (p.edge + d - p.edge)

    own_is : own ≡ table_at K.degrees.now K.columns.now m
    own_is = ap (part K.columns.now p.edge) (add-sub_cancel_left p.edge d) ∙ ap₂ (part K.columns.now) R.edge_is i

    pub own_length : length own ≡ d
    own_length = ap (λ n. length (part K.columns.now p.edge n)) (add-sub_cancel_left p.edge d) ∙ length_part K.columns.now p.edge d (edges-inside d i)

    own_at : (n : ℕ) → n < d → get_or own n 0 < length z
    own_at n h =
        let e : get_or own n 0 ≡ get_or K.columns.now (edges_before K.degrees.now m + n) 0 =
        ap (λ w. get_or (part K.columns.now p.edge w) n 0) (add-sub_cancel_left p.edge d) ∙ get_or-take d (drop p.edge K.columns.now) n 0 h ∙ get_or-drop p.edge K.columns.now n 0 ∙ ap (λ w. get_or K.columns.now (w + n) 0) R.edge_is in
        let c : get_or K.columns.now (edges_before K.degrees.now m + n) 0 ≡ (edge_at (check C m) n).column = column_in (numbers_in K.numbers) K.degrees.now K.columns.now K.weights.now hc hw m R.inside n (omega arith) in
        let E = (K.coded.good.each-check m (omega (arith, R.inside, checks-are))).each-edge n (omega (arith, degree-here)) in
        omega (arith, e, c, E.column-small, R.settled-room.symbols)
      where
        degree-here : length (check C m) ≡ get_or K.degrees.now m 0
        degree-here = degree_is (numbers_in K.numbers) K.degrees.now K.columns.now K.weights.now hc hw m R.inside

    pub again_asks : (q : ℕ) → q ≡ size_of K.numbers.first → AgainRoom q P own z
    again_asks q e =
        record {
          small = rw e (size_64 (power_of K.numbers.first) K.coded.good.p-high);
          in_costs = λ n h.
              omega (
                arith,
                column-room (get_or own n 0) (length z) q (own_at n (omega (arith, own_length))),
                ap₂ (λ a b. a * b) R.settled-room.symbols e,
                R.settled-room.ranged.full,
              );
          in_symbols = λ n h. own_at n (omega (arith, own_length));
        }

    -- and its symbols
    module _ (q : ℕ) (e : q ≡ size_of K.numbers.first) (y : List ℕ) (o : y ≡ decided_again q P own (length own) z) where
      pub again-decided : y ≡ symbols C P
      again-decided =
          o ∙ ap₂ (λ n (l : List ℕ). decided_again n P l (length l) z) e own_is ∙ ap (decided_again (size_of K.numbers.first) P (table_at K.degrees.now K.columns.now m) (length (table_at K.degrees.now K.columns.now m))) R.decided ∙ R.again

      pub again-same : y ≡ z → Retested C K.degrees.now P (Some from)
      again-same s =
          let u : symbols C P ≡ symbols C R.old = sym again-decided ∙ s ∙ R.decided in
          record {
            edge_is = R.from_edge;
            inside = omega (arith, R.from_inside, checks-are);
            unsettled = sym (settled-by K P) ∙ ap (all_hold C) u ∙ settled-by K R.old ∙ R.unsettled;
          }

      pub again-room : ParityRoom K y × FromTo K from K.numbers.checks
      again-room = (
        decided-room K P z y R.settled-room again-decided,
        record { edge_is = R.from_edge; ordered = omega (arith, R.from_inside); inside = omega arith },
      )

      pub again_tested : (r : Option CheckAt) → SomeNot C K.degrees.now y r → Retested C K.degrees.now P r
      again_tested (Some r) S = record { edge_is = S.edge_is; inside = S.inside; unsettled = sym (settled-by K P) ∙ ap (all_hold C) (sym again-decided) ∙ S.not_all }
      again_tested None S = sym (settled-by K P) ∙ ap (all_hold C) (sym again-decided) ∙ S
