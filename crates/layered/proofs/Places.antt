-- A check that may be updated: its parts of the tables, of the store and of the lists to work in are inside, what its update asks is there, and what it
-- leaves is the machine's update.
use mathlib.Core.Path.{◌≡◌, refl, sym, ap, ap₂, ◌∙◌}
use mathlib.Core.Bool.{Bool}
use mathlib.Core.List.{List}
use Prim.Native.Nat.{ℕ, suc, ◌+◌, ◌-◌, ◌*◌, ◌≤◌, ◌<◌}
use native.Mathlib.Nat.{mul-le-mul, add-sub_cancel_left}
use native.Mathlib.Numerals.{add-one}
use native.Mathlib.Omega.{arith}
use lib.ListN.{length, get_or}
use Rattle.trellis.specs.Lists.{part, patch}
use Rattle.trellis.specs.Record.{group_length, record_length}
use Rattle.trellis.specs.Rules.{size_of, rule_for}
use Rattle.trellis.proofs.Recurrence.{size_64}
use Rattle.machine.specs.CodeLine.{Code, power, size, rule, check, edge_at}
use Rattle.machine.specs.Machine.{place}
use Rattle.machine.specs.inner.Tables.{edges_of, edges_before, bytes_before, table_at}
use Rattle.machine.specs.Lent.{lent, record_at, costs_lent, record_lent, update_lent}
use Rattle.machine.specs.inner.Accepted.{GoodCheck}
use Rattle.machine.proofs.Ranges.{column-room}
use Rattle.machine.proofs.Lent.{place-suc, place_mono}
use Rattle.machine.proofs.Rooms.{used_high}
use Rattle.machine.proofs.InTables.{count, in_columns, in_weights, check_is, weights-length, same_length, degree_is, column-part, weight-part, place_is}
use Rattle.codeline.specs.declared.code.Code.{Code as LentCode}
use Rattle.codeline.specs.Answers.{numbers_in}
use Rattle.codeline.specs.Codes.{lent_code}
use Rattle.layered.specs.inner.Updates.{UpdateRoom}
use Rattle.layered.specs.declared.place.Place.{Place}
use Rattle.layered.specs.inner.Places.{Stands, Updatable}
use Rattle.machine.proofs.Places.{length_part}

-- by its own number
pub stands_own : (first : ℕ) (ds : List ℕ) (m : ℕ) (p : Place) → Stands first ds m p → Stands first ds p.check p
stands_own first ds m p S =
    record {
      check_is = refl;
      edge_is = S.edge_is ∙ ap (edges_before ds) (sym S.check_is);
      byte_is = S.byte_is ∙ ap (bytes_before first ds) (sym S.check_is);
    }

module _ (K : LentCode) (start : Bool) (m : ℕ) (P s : List ℕ) (U : Updatable K start m P s) where
  abbrev C : Code
  C = lent_code K

  abbrev hc : edges_before K.degrees.now K.numbers.checks ≤ length K.columns.now
  hc = K.coded.for_columns

  abbrev hw : edges_before K.degrees.now K.numbers.checks ≤ length K.weights.now
  hw = K.coded.for_weights

  pub check_there : m < length K.degrees.now
  check_there = omega (arith, U.in_code, K.coded.for_degrees)

  pub in_checks : m < length C.checks
  in_checks = omega (arith, U.in_code, count (numbers_in K.numbers) K.degrees.now K.columns.now K.weights.now hc hw)

  H : GoodCheck C.columns (size C) (check C m)
  H = K.coded.good.each-check m in_checks

  degree : length (check C m) ≡ get_or K.degrees.now m 0
  degree = degree_is (numbers_in K.numbers) K.degrees.now K.columns.now K.weights.now hc hw m U.in_code

  byte : bytes_before K.numbers.first K.degrees.now m ≡ place C m
  byte = place_is (numbers_in K.numbers) K.degrees.now K.columns.now K.weights.now hc hw m (omega (arith, U.in_code))

  -- the length of its record
  abbrev long : ℕ
  long = record_length (rule_for K.numbers.first) (get_or K.degrees.now m 0)

  record_is : part s (bytes_before K.numbers.first K.degrees.now m) long ≡ record_at C m s
  record_is = ap₂ (λ a d. part s a (record_length (rule C) d)) byte (sym degree)

  in-store : bytes_before K.numbers.first K.degrees.now m + long ≤ length s
  in-store = rw (byte, ← degree) (omega (arith, U.room, place-suc C m, place_mono C (suc m) (length C.checks) in_checks))

  room_at : (Q S : List ℕ) → length Q ≡ get_or K.degrees.now m 0 * size C → length S ≡ get_or K.degrees.now m 0 * size C
      → UpdateRoom K.numbers.first K.numbers.scale start (table_at K.degrees.now K.columns.now m) (table_at K.degrees.now K.weights.now m) P (part s (bytes_before K.numbers.first K.degrees.now m) long) Q S
  room_at Q S i j =
      let d : length (table_at K.degrees.now K.weights.now m) ≡ get_or K.degrees.now m 0 = weights-length (numbers_in K.numbers) K.degrees.now K.columns.now K.weights.now hc hw m U.in_code in
      let e : length (table_at K.degrees.now K.columns.now m) ≡ length (table_at K.degrees.now K.weights.now m) = same_length (numbers_in K.numbers) K.degrees.now K.columns.now K.weights.now hc hw m U.in_code in
      let w : (n : ℕ) → get_or (table_at K.degrees.now K.weights.now m) n 0 ≡ (edge_at (check C m) n).weight = weight-part (numbers_in K.numbers) K.degrees.now K.columns.now K.weights.now hc hw m U.in_code in
      let v : (n : ℕ) → get_or (table_at K.degrees.now K.columns.now m) n 0 ≡ (edge_at (check C m) n).column = column-part (numbers_in K.numbers) K.degrees.now K.columns.now K.weights.now hc hw m U.in_code in
      record {
        recall = record {
          weighed = record {
            accepted = K.coded.good.first;
            two = omega (arith, H.low, degree);
            few = omega (arith, H.high, degree);
            some = λ n u. rw (w n) (H.each-edge n (omega (arith, degree))).weight-some;
            small = λ n u. rw (w n) (H.each-edge n (omega (arith, degree))).weight-small;
          };
          form = λ f. rw (d, ← degree, byte) (U.formed f);
          full = j ∙ ap (λ x. x * size C) (sym d);
        };
        same = e;
        columns = λ n u. rw (v n) (omega (arith, U.ranged.full, column-room (edge_at (check C m) n).column C.columns (size C) (H.each-edge n (omega (arith, degree))).column-small));
        small = U.ranged.small;
        scale = K.coded.good.scale-high;
        for_record = length_part s (bytes_before K.numbers.first K.degrees.now m) long in-store ∙ ap (record_length (rule C)) (sym d);
        for_costs = i ∙ ap (λ x. x * size C) (sym d);
      }

  fits : (edges_before K.degrees.now m + get_or K.degrees.now m 0 ≤ length K.columns.now)
      × (edges_before K.degrees.now m + get_or K.degrees.now m 0 ≤ length K.weights.now)
      × (bytes_before K.numbers.first K.degrees.now m + long ≤ length s)
      × (get_or K.degrees.now m 0 * size_of K.numbers.first ≤ 2048)
  fits = (
    in_columns (numbers_in K.numbers) K.degrees.now K.columns.now K.weights.now hc hw m U.in_code,
    in_weights (numbers_in K.numbers) K.degrees.now K.columns.now K.weights.now hc hw m U.in_code,
    in-store,
    mul-le-mul {n₁ = get_or K.degrees.now m 0} {n₂ = 32} (rw (← degree) H.high) (size_64 (power C) K.coded.good.p-high),
  )

  -- and no place in the store is high
  byte_high : bytes_before K.numbers.first K.degrees.now m + long ≤ 57472
  byte_high = rw (byte, ← degree) (omega (arith, place-suc C m, place_mono C (suc m) (length C.checks) in_checks, used_high C K.coded.good))

  -- at the places that the code has
  module _ (at place d q groups : ℕ) (a : at ≡ edges_before K.degrees.now m) (b : place ≡ bytes_before K.numbers.first K.degrees.now m) (i : d ≡ get_or K.degrees.now m 0) (e : q ≡ size_of K.numbers.first) (j : groups ≡ group_length (rule_for K.numbers.first) * (size_of K.numbers.first - 1)) where
    record-end : d + groups ≡ long
    record-end = rw (j, i)

    pub places_inside : (at + d ≤ length K.columns.now) × ((at + d ≤ length K.weights.now) × ((place + (d + groups) ≤ length s) × (d * q ≤ 2048)))
    places_inside = (rw (a, i) fits.0, (rw (a, i) fits.1, (rw (b, record-end) fits.2, rw (i, e) fits.3)))

    pub byte_fits : place + (d + groups) ≤ 57472
    byte_fits = rw (b, record-end) byte_high

    pub next-byte : place + (d + groups) ≡ bytes_before K.numbers.first K.degrees.now (m + 1)
    unfolding bytes_before
    next-byte = rw (add-one m, b, record-end)

    pub update_asks : (Q S : List ℕ) → length Q ≡ d * q → length S ≡ d * q
        → UpdateRoom K.numbers.first K.numbers.scale start (part K.columns.now at (at + d - at)) (part K.weights.now at (at + d - at)) P (part s place (place + (d + groups) - place)) Q S
    update_asks Q S x y =
        let u : at + d - at ≡ d = add-sub_cancel_left at d in
        let v : place + (d + groups) - place ≡ d + groups = add-sub_cancel_left place (d + groups) in
        let w : d * q ≡ get_or K.degrees.now m 0 * size_of K.numbers.first = ap₂ (λ a b. a * b) i e in
        rw (u, v, record-end, a, b, i) (room_at Q S (x ∙ w) (y ∙ w))

    pub update-done : (P' r : List ℕ)
        → P' ≡ costs_lent (rule C) K.numbers.scale start (edges_of (part K.columns.now at (at + d - at)) (part K.weights.now at (at + d - at))) (part s place (place + (d + groups) - place)) P
        → r ≡ record_lent (rule C) K.numbers.scale start (edges_of (part K.columns.now at (at + d - at)) (part K.weights.now at (at + d - at))) (part s place (place + (d + groups) - place)) P
        → lent P' (patch s place (place + (d + groups) - place) r) ≡ update_lent C start m (lent P s)
    unfolding update_lent
    update-done P' r x y =
        let u : at + d - at ≡ d = add-sub_cancel_left at d in
        let v : place + (d + groups) - place ≡ d + groups = add-sub_cancel_left place (d + groups) in
        let l : record_length (rule C) (length (check C m)) ≡ long = ap (record_length (rule C)) degree in
        rw (x, y, u, v, record-end, a, b, i, ← check_is (numbers_in K.numbers) K.degrees.now K.columns.now K.weights.now hc hw m U.in_code, record_is, byte, l)
