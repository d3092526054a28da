-- The loops of the parity test: decisions and margins column by column; a check's sum term by term; a check that fails makes the whole test fail,
-- however many come after it.
use mathlib.Core.Path.{◌≡◌, refl, sym, ap, ◌∙◌}
use mathlib.Core.Bool.{Bool, true, false, true≢false}
use mathlib.Core.List.{List}
use Prim.Native.Nat.{ℕ, zero, suc, ◌+◌, ◌*◌, ◌≤◌, ◌<◌}
use native.Mathlib.Decide.{ℕ_discrete}
use native.Mathlib.Numerals.{add-one}
use native.Mathlib.Omega.{arith}
use lib.Bits.{bit_xor}
use lib.ListN.{length, get_or}
use borrow.Author.Tests.{eq-eqb, ne_eqb}
use borrow.Author.Rules.{rules}
use Rattle.refusal.specs.declared.Refusal.{Refusal}
use Rattle.std.specs.Prelude.{Result, Ok, Err, IsOk, Option, Some, None, is_some, not}
use Rattle.trellis.specs.Lists.{tab, all_to}
use Rattle.trellis.specs.Field.{xor, product}
use Rattle.trellis.specs.Check.{first_zero, decide}
use Rattle.trellis.specs.Rules.{power_of, size_of}
use Rattle.trellis.proofs.Loops.{length-tab, get_d_tab}
use Rattle.trellis.proofs.Instances.{first-zero}
use Rattle.machine.specs.CodeLine.{Code, power, check, edge_at, column_of}
use Rattle.machine.specs.Machine.{symbols, margins, settled, parity_sum}
use Rattle.machine.specs.inner.Tables.{edges_before, term}
use Rattle.machine.proofs.Lists.{all-not}
use Rattle.machine.proofs.Ranges.{column-room}
use Rattle.machine.proofs.InTables.{count, degree_is, in_columns, in_weights, column_in, weight_in, term_in}
use Rattle.codeline.specs.declared.code.Code.{Code as LentCode}
use Rattle.codeline.specs.Answers.{numbers_in}
use Rattle.codeline.specs.Codes.{lent_code}
use Rattle.layered.specs.declared.parity.CheckAt.{CheckAt}
use Rattle.machine.specs.inner.Tables.{EdgeRoom}
use Rattle.layered.specs.inner.Parity.{holds_at, all_hold, ParityRoom, FirstNot, SettledRoom}
use Rattle.machine.proofs.Leasts.{up_to_tab}
use Rattle.machine.proofs.Places.{length_part}

-- a call that does not refuse
pub ok_by : (e : Result ℕ Refusal) → ((r : Refusal) → e ≡ Err r → ⊥) → IsOk e
ok_by (Ok x) h = search rules
ok_by (Err r) h = absurd (h r refl)

-- a check by its sum
module _ (C : Code) (z : List ℕ) where
  module _ (m d n s : ℕ) (i : d ≡ length (check C m)) (j : n ≡ d) (u : s ≡ parity_sum (power C) (check C m) z n) where
    whole : s ≡ parity_sum (power C) (check C m) z (length (check C m))
    whole = u ∙ ap (parity_sum (power C) (check C m) z) (j ∙ i)

    pub sum-holds : s ≡ 0 → holds_at C z m ≡ true
    sum-holds o = eq-eqb _ _ (sym whole ∙ o)

    pub sum-not : (s ≡ 0 → ⊥) → holds_at C z m ≡ false
    sum-not o = ne_eqb _ _ (λ x. o (whole ∙ x))

  -- one check more
  pub between_more : (from m : ℕ) → ((j : ℕ) → from ≤ j → j < m → holds_at C z j ≡ true) → holds_at C z m ≡ true
      → (j : ℕ) → from ≤ j → j < m + 1 → holds_at C z j ≡ true
  between_more from m B e j h k = elim (ℕ_discrete j m) [ yes i ↦ rw i e | no i ↦ B j h (omega arith) ]

  all_true : (f : ℕ → Bool) (n : ℕ) → ((j : ℕ) → j < n → f j ≡ true) → all_to f n ≡ true
  all_true f zero h = refl
  all_true f (suc n) h = rw (all_true f n (λ j i. h j (omega arith)), h n (omega arith))

  -- the whole test, by the first check that is not satisfied from one on and, where there is none, by the first before it
  pub all_hold_lem : ((j : ℕ) → j < length C.checks → holds_at C z j ≡ true) → all_hold C z ≡ true
  unfolding all_hold
  all_hold_lem h = all_true (holds_at C z) (length C.checks) h

  pub one-not : (m : ℕ) → m < length C.checks → holds_at C z m ≡ false → all_hold C z ≡ false
  unfolding all_hold
  one-not m h e = all-not _ m (length C.checks) h e

  -- of all checks: b is whether there is none
  pub first-not-all : (ds : List ℕ) (r : Option CheckAt) (b : Bool) → is_some r ≡ not b → (n : ℕ) → n ≡ length C.checks → FirstNot C ds z 0 n r → b ≡ all_hold C z
  first-not-all ds None true e n k F = sym (all_hold_lem (λ j h. F j (omega arith) (omega arith)))
  first-not-all ds None false e n k F = absurd (true≢false (sym e))
  first-not-all ds (Some r) true e n k F = absurd (true≢false e)
  first-not-all ds (Some r) false e n k F = sym (one-not r.check (omega (arith, F.high)) F.not_it)

module _ (K : LentCode) where
  -- what the two loops over the columns leave are the machine's
  pub symbols_are : (P : List ℕ) → tab (λ c. (decide (column_of (size_of K.numbers.first) P c)).symbol) K.numbers.columns ≡ symbols (lent_code K) P
  unfolding symbols
  symbols_are P = sym (up_to_tab (λ c. (decide (column_of (size_of K.numbers.first) P c)).symbol) K.numbers.columns)

  pub margins_are : (P : List ℕ) → tab (λ c. (decide (column_of (size_of K.numbers.first) P c)).margin) K.numbers.columns ≡ margins (lent_code K) P
  unfolding margins
  margins_are P = sym (up_to_tab (λ c. (decide (column_of (size_of K.numbers.first) P c)).margin) K.numbers.columns)

  pub settled-by : (P : List ℕ) → all_hold (lent_code K) (symbols (lent_code K) P) ≡ settled (lent_code K) P
  unfolding all_hold settled
  settled-by P = refl

  -- after the decisions each edge has its two elements
  pub decided-room : (P y z : List ℕ) → SettledRoom K P y → z ≡ symbols (lent_code K) P → ParityRoom K z
  decided-room P y z S o =
      let e : z ≡ tab (λ c. first_zero (column_of (size_of K.numbers.first) P c)) K.numbers.columns = o ∙ sym (symbols_are P) in
      record {
        symbols = ap length e ∙ length-tab (λ c. first_zero (column_of (size_of K.numbers.first) P c)) K.numbers.columns;
        small = λ c h.
            let l : length (column_of (size_of K.numbers.first) P c) ≡ size_of K.numbers.first = length_part P (c * size_of K.numbers.first) (size_of K.numbers.first) (omega (arith, S.ranged.full, column-room c K.numbers.columns (size_of K.numbers.first) h)) in
            rw (e, get_d_tab (λ c. first_zero (column_of (size_of K.numbers.first) P c)) K.numbers.columns c h) (omega (arith, (first-zero (S.ranged.has_zero c h)).0, l));
      }

  -- at the place that the loops carry
  module _ (z : List ℕ) (R : ParityRoom K z) (m n at d : ℕ) (h : m < K.numbers.checks) (e : at ≡ edges_before K.degrees.now m) (i : d ≡ get_or K.degrees.now m 0) where
    abbrev C : Code
    C = lent_code K

    abbrev hc : edges_before K.degrees.now K.numbers.checks ≤ length K.columns.now
    hc = K.coded.for_columns

    abbrev hw : edges_before K.degrees.now K.numbers.checks ≤ length K.weights.now
    hw = K.coded.for_weights

    pub degree : d ≡ length (check C m)
    degree = i ∙ sym (degree_is (numbers_in K.numbers) K.degrees.now K.columns.now K.weights.now hc hw m h)

    in_checks : m < length C.checks
    in_checks = omega (arith, count (numbers_in K.numbers) K.degrees.now K.columns.now K.weights.now hc hw)

    pub edge-room : n < d → EdgeRoom (power_of K.numbers.first) K.columns.now K.weights.now z (at + n)
    edge-room j =
        let G = K.coded.good in
        let E = (G.each-check m in_checks).each-edge n (omega (arith, degree)) in
        let c : get_or K.columns.now (edges_before K.degrees.now m + n) 0 ≡ (edge_at (check C m) n).column = column_in (numbers_in K.numbers) K.degrees.now K.columns.now K.weights.now hc hw m h n (omega arith) in
        let w : get_or K.weights.now (edges_before K.degrees.now m + n) 0 ≡ (edge_at (check C m) n).weight = weight_in (numbers_in K.numbers) K.degrees.now K.columns.now K.weights.now hc hw m h n (omega arith) in
        rw e
        record {
          low = G.p-low;
          high = G.p-high;
          in_columns = omega (arith, in_columns (numbers_in K.numbers) K.degrees.now K.columns.now K.weights.now hc hw m h);
          in_weights = omega (arith, in_weights (numbers_in K.numbers) K.degrees.now K.columns.now K.weights.now hc hw m h);
          column = rw c (omega (arith, E.column-small, R.symbols));
          weight = rw w E.weight-small;
          symbol = rw c (R.small (edge_at (check C m) n).column E.column-small);
        }

    pub edges-end : at + d ≤ length K.columns.now
    edges-end = rw (e, i) (in_columns (numbers_in K.numbers) K.degrees.now K.columns.now K.weights.now hc hw m h)

    -- one term more
    pub sum_more : n < d → (s t : ℕ) → s ≡ parity_sum (power C) (check C m) z n → t ≡ term (power C) K.columns.now K.weights.now z (at + n)
        → bit_xor s t ≡ parity_sum (power C) (check C m) z (n + 1)
    unfolding xor
    sum_more j s t u v =
        let w : t ≡ product (power C) (edge_at (check C m) n).weight (get_or z (edge_at (check C m) n).column 0) =
        v ∙ ap (λ a. term (power C) K.columns.now K.weights.now z (a + n)) e ∙ term_in (numbers_in K.numbers) K.degrees.now K.columns.now K.weights.now hc hw m h (power C) z n (omega arith) in
        rw (add-one n, u, w)
