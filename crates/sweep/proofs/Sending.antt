-- The sent costs from both sweeps, what these keep, and the record.
use mathlib.Core.Path.{◌≡◌, sym, ap, ap₂, ◌∙◌, subst}
use mathlib.Core.Bool.{Bool, true, false}
use mathlib.Core.List.{List, [], ◌++◌, append-nil}
use Prim.Native.Nat.{ℕ, suc, ◌+◌, ◌-◌, ◌*◌, ◌≤◌, ◌<◌}
use native.Mathlib.Numerals.{add-one}
use native.Mathlib.Omega.{arith}
use lib.ListN.{length, get_or, take, drop, length-take, length-drop, drop_of_length-le}
use lib.Seq.{take_at, drop_at, drop-drop}
use Rattle.trellis.specs.Lists.{tab, blocks, part}
use Rattle.trellis.specs.Field.{xor}
use Rattle.trellis.specs.Check.{Rule, Column, column, cost_at, shift, sent_at}
use Rattle.trellis.specs.Record.{group, record_of}
use Rattle.trellis.specs.Rules.{rule_for, power_of, size_of, most_of, greatest_of, columns_of}
use Rattle.trellis.specs.Ready.{Ready}
use Rattle.trellis.specs.Sweep.{Keeps, swept, swept_sent}
use Rattle.trellis.proofs.Xor.{xor_lt}
use Rattle.trellis.proofs.Loops.{length-tab, get_d_tab, tab_ext, blocks_ext, length-even}
use Rattle.trellis.proofs.Rules.{most-few}
use Rattle.trellis.proofs.Sent.{Proper}
use Rattle.trellis.proofs.Records.{shift_small}
use Rattle.trellis.proofs.Ready.{length-columns, ready_proper}
use Rattle.trellis.proofs.Sweep.{swept-sent, before-keeps, after-keeps}
use Rattle.checknode.specs.inner.Asks.{shifts_of}
use Rattle.field.proofs.Blocks.{block_at, in_block, part_room}
use Rattle.checknode.proofs.Resting.{column-bytes, shift-at, shifts-length, parts}
use Rattle.sweep.specs.Kept.{cell_count, cell_at, KeptCells}
use Rattle.sweep.specs.inner.Cells.{cells_of, turns_of, cells_after, table_of, Swept}
use Rattle.sweep.specs.inner.Joins.{join_at, cells_before, cells_behind, column_sent, JoinRoom}
use Rattle.sweep.specs.inner.Groups.{lowest_to, sent_of, group_by, PairsRoom}
use Rattle.sweep.proofs.Laws.{sums_of}
use Rattle.sweep.proofs.Swept.{join-within, join_is, sent-byte, size-limit, after-length}
use Rattle.sweep.proofs.Pairing.{lowest_ext, count_ext, group_ext, few-above, group_is}

-- two parts of a buffer written one after the other
pub two_parts : (S G out : List ℕ) (d n : ℕ) {s r : List ℕ} → s ≡ S → r ≡ G → length S ≡ d → n ≡ length out → d ≤ n → take d (s ++ drop d out) ++ (r ++ drop (n - d) (drop d (s ++ drop d out))) ≡ S ++ G
two_parts S G out d n a b l m h =
    let t : take d (S ++ drop d out) ≡ S = take_at S (drop d out) d l in
    let u : drop d (S ++ drop d out) ≡ drop d out = drop_at S (drop d out) d l in
    let z : drop (n - d) (drop d out) ≡ [] = drop-drop (n - d) d out ∙ drop_of_length-le out {i = d + (n - d)} (omega arith) in
    rw (a, b, t, u, z, append-nil G)

pub rest-length : (S out : List ℕ) (d n m : ℕ) {s : List ℕ} → s ≡ S → length S ≡ d → n ≡ length out → length out ≡ d + m → length (take (n - d) (drop d (s ++ drop d out))) ≡ m
rest-length S out d n m a l e h = ap (λ y. length (take (n - d) (drop d (y ++ drop d out)))) a ∙ ap (λ y. length (take (n - d) y)) (drop_at S (drop d out) d l) ∙ length-take (n - d) (drop d out) ∙ omega (arith, length-drop d out)

module _ (f : ℕ) (ws cs : List ℕ) (D : Ready f ws cs) where
  abbrev R : Rule
  R = rule_for f

  abbrev q : ℕ
  q = size_of f

  abbrev w : ℕ
  w = cell_count f

  abbrev C : List Column
  C = columns_of (size_of f) ws cs

  abbrev P : Proper R C
  P = ready_proper f ws cs D

  d-is : length C ≡ length ws
  d-is = length-columns (size_of f) ws cs

  table-length : (back : Bool) {T : List ℕ} → T ≡ table_of f back ws cs → length T ≡ length ws * cell_count f
  table-length back e = ap length e ∙ length-even (cells_after R back C) w (after-length f ws cs D back) (length ws)

  -- one cell of a sweep's table
  cell-is : (back : Bool) (T : List ℕ) → T ≡ table_of f back ws cs → (i j t : ℕ) → i < length ws → j ≤ most_of f → t < q
      → cell_at f T i j t ≡ swept R (turns_of back C i) j t
  unfolding cells_after
  cell-is back T e i j t h u v =
      let s : ℕ → ℕ → ℕ = swept R (turns_of back C i) in
      let l : j < suc (most_of f) = omega arith in
      let x : j * q + t < w = omega (arith, row-end j t l v) in
      ap (λ y. cell_at f y i j t) e ∙ in_block w (cells_after R back C) (after-length f ws cs D back) (length ws) i (j * q + t) h x
      ∙ in_block q (λ j. tab (s j) q) (λ j. length-tab (s j) q) (suc (most_of f)) j t l v ∙ get_d_tab (s j) q t v
    where
      row-end : (j t : ℕ) → j < suc (most_of f) → t < q → j * q + t < (most_of f + 1) * q
      row-end j t l v =
          let a : j * q + q ≤ suc (most_of f) * q = part_room j (suc (most_of f)) q l in
          let b : (most_of f + 1) * q ≡ suc (most_of f) * q = ap (λ y. y * q) (add-one (most_of f)) in
          omega arith

  module _ (bytes : (i : ℕ) → get_or cs i 0 < 256) where
    cost-byte : (n : ℕ) → n < length C → (y : ℕ) → cost_at (column C n) y ≤ 255
    cost-byte n l y = column-bytes f ws cs D bytes n y l

    -- "Each kept cost is proved to be that least, with a mark where no choice exists"
    pub kept_tables : {before after : List ℕ} → Swept f ws cs before after → KeptCells f ws cs before after
    kept_tables {before} {after} T =
        record {
          over-before = λ n j t h u v.
              subst (Keeps R (take n C) j t) (sym (cell-is false before T.of_before n j t h u v)) (before-keeps R C P (join-within (greatest_of f)) cost-byte n j t (omega (arith, most-few f)));
          over-after = λ n j t h u v.
              let m : length C - (length ws - suc n) ≡ suc n = omega (arith, d-is) in
              let c : cell_at f after (length ws - suc n) j t ≡ swept R (drop (suc n) C) j t =
              cell-is true after T.of_after (length ws - suc n) j t (omega arith) u v ∙ ap (λ y. swept R (drop y C) j t) m in
              subst (Keeps R (drop (suc n) C) j t) (sym c) (after-keeps R C P (join-within (greatest_of f)) cost-byte (suc n) j t (omega (arith, most-few f)));
        }

    S-byte : (a : ℕ) → a < q → (n : ℕ) → n < length C → sent_at R C n a ≤ 255
    S-byte a h n l = sent-byte R C P 255 cost-byte n a l h

    shift-below : (n : ℕ) → n < length ws → shift R C n < q
    shift-below n h = shift_small R C P n (omega (arith, d-is))

    -- the two sweeps joined for column n
    sent-joined : (n a : ℕ) → n < length ws → a < q
        → join_at (greatest_of f) q (most_of f) (cells_after R false C n) (cells_after R true C (length ws - suc n)) (xor a (shift R C n)) ≡ sent_at R C n a
    unfolding cells_after swept_sent
    sent-joined n a h l =
        let e : length C - (length ws - suc n) ≡ suc n = omega (arith, d-is) in
        let j : n < length C = omega (arith, d-is) in
        ap (λ (m : ℕ). join_at (greatest_of f) q (most_of f) (cells_of q (most_of f) (swept R (take n C))) (cells_of q (most_of f) (swept R (drop m C))) (xor a (shift R C n))) e
        ∙ (join_is (power_of f) (greatest_of f) (most_of f) (swept R (take n C)) (swept R (drop (suc n) C)) (xor a (shift R C n)) (xor_lt (power_of f) a _ l (shift-below n h))
        ∙ swept-sent R C P n a j l (omega (arith, S-byte a l n j)))

    module _ (before after : List ℕ) (T : Swept f ws cs before after) where
      abbrev shifts : List ℕ
      shifts = shifts_of (power_of f) ws cs

      joined_at : (n : ℕ) → n < length ws → (a : ℕ) → a < q
          → join_at (greatest_of f) q (most_of f) (cells_before w before n) (cells_behind w after (length shifts) n) (xor a (get_or shifts n 0)) ≡ sent_at R C n a
      joined_at n h a l =
          let full : (back : Bool) (j : ℕ) → length (cells_after R back C j) ≡ w = after-length f ws cs D in
          let m : length shifts - 1 - n ≡ length ws - suc n = omega (arith, shifts-length f ws cs D) in
          let b : cells_before w before n ≡ cells_after R false C n = ap (λ y. part y (n * w) w) T.of_before ∙ block_at w (cells_after R false C) (full false) (length ws) n h in
          let c : cells_behind w after (length shifts) n ≡ cells_after R true C (length ws - suc n) =
          ap₂ (λ y x. part y (x * w) w) T.of_after m ∙ block_at w (cells_after R true C) (full true) (length ws) (length ws - suc n) (omega arith) in
          ap₂ (λ x y. join_at (greatest_of f) q (most_of f) x y (xor a (get_or shifts n 0))) b c
          ∙ ap (λ y. join_at (greatest_of f) q (most_of f) (cells_after R false C n) (cells_after R true C (length ws - suc n)) (xor a y)) (shift-at f ws cs D n h)
          ∙ sent-joined n a h l

      module _ {g : Bool} {q' k : ℕ} {s : List ℕ} (eg : g ≡ greatest_of f) (eq : q' ≡ size_of f) (ek : k ≡ most_of f) (es : s ≡ shifts_of (power_of f) ws cs) where
        pub rows_joinable : (out : List ℕ) → length out ≡ length ws * size_of f → JoinRoom g q' k before after s out
        rows_joinable out o =
            let d : length shifts ≡ length ws = shifts-length f ws cs D in
            rw (eg, eq, ek, es)
            record {
              sums = sums_of (power_of f);
              limit = size-limit f ws cs D;
              counts = most-few f;
              few = omega (arith, d, D.few);
              of_before = table-length false T.of_before ∙ ap (λ y. y * w) (sym d);
              of_after = table-length true T.of_after ∙ ap (λ y. y * w) (sym d);
              of_out = o ∙ ap (λ y. y * q) (sym d);
              below = λ n h. let u : n < length ws = omega (arith, d) in rw (shift-at f ws cs D n u) (shift-below n u);
              bytes = λ n h. let u : n < length ws = omega (arith, d) in record { small = λ a l. omega (arith, joined_at n u a l, S-byte a l n (omega (arith, d-is))) };
            }

        pub rows_are : {r : List ℕ} → r ≡ blocks (column_sent g q' k before after s) (length s) → r ≡ blocks (λ n. tab (sent_at R C n) q) (length ws)
        rows_are o =
            o ∙ rw (eg, eq, ek, es, shifts-length f ws cs D)
            (blocks_ext (column_sent (greatest_of f) q (most_of f) before after shifts) (λ n. tab (sent_at R C n) q) (length ws) (λ n h. tab_ext _ _ q (λ a l. joined_at n h a l)))

    -- the record, from the sent costs
    module _ {q' k : ℕ} (eq : q' ≡ size_of f) (ek : k ≡ most_of f) (sent : List ℕ) (sent_is : sent ≡ blocks (λ n. tab (sent_at R C n) q) (length ws)) where
      at-sent : (n a : ℕ) → n < length ws → a < q → sent_of sent q a n ≡ sent_at R C n a
      at-sent n a h l = ap (λ y. get_or y (n * q + a) 0) sent_is ∙ in_block q (λ n. tab (sent_at R C n) q) (λ n. length-tab _ q) (length ws) n a h l ∙ get_d_tab (sent_at R C n) q a l

      pub sent-fits : PairsRoom k (length ws) q' sent
      sent-fits =
          rw (eq, ek)
          record {
            few = λ a z l.
                let same : (j : ℕ) → j < length ws → sent_of sent q a j ≡ sent_at R C j a = λ j h. at-sent j a h l in
                let e : lowest_to (sent_of sent q a) (length ws) ≡ lowest_to (λ n. sent_at R C n a) (length ws) = lowest_ext _ _ (length ws) same in
                let u = few-above R C P a l (S-byte a l) in
                rw (e, count_ext (lowest_to (λ n. sent_at R C n a) (length ws)) (sent_of sent q a) (λ n. sent_at R C n a) (length ws) same) (rw d-is at u);
          }

      pub record_is : shifts_of (power_of f) ws cs ++ blocks (λ i. group_by k (length ws) (sent_of sent q' (i + 1))) (q' - 1) ≡ record_of R C
      record_is =
          let one : (i : ℕ) → i < q - 1 → group_by (most_of f) (length ws) (sent_of sent q (i + 1)) ≡ group R C (suc i) =
          λ i l.
          let v : i + 1 < q = omega arith in
          group_ext (most_of f) (length ws) (sent_of sent q (i + 1)) (λ n. sent_at R C n (i + 1)) (λ j h. at-sent j (i + 1) h v)
          ∙ ap (λ y. group_by (most_of f) y (λ n. sent_at R C n (i + 1))) (sym d-is) ∙ sym (group_is R C P (i + 1) v (S-byte (i + 1) v)) ∙ ap (group R C) (add-one i) in
          rw (eq, ek, parts f ws cs D) (ap (λ y. shifts_of (power_of f) ws cs ++ y) (blocks_ext _ _ (q - 1) one))
