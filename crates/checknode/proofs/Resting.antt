-- The engine's calls on an accepted check: the lines are the columns', so what `tables` leaves is what is left of 255 after each sent cost; with the
-- shifts that gives the record, and by symbols the sent costs.
use mathlib.Core.Path.{◌≡◌, refl, sym, ap, ◌∙◌}
use mathlib.Core.Bool.{Bool}
use mathlib.Core.List.{List, [], ◌∷◌, ◌++◌, map, append-nil}
use Prim.Native.Nat.{ℕ, zero, suc, ◌+◌, ◌-◌, ◌*◌, ◌^◌, ◌≤◌, ◌<◌, max}
use native.Mathlib.Nat.{zero-add, mul_comm, mul-le-mul, le_refl}
use native.Mathlib.Omega.{arith}
use lib.Pow.{pow_mono}
use borrow.Author.Tests.{le-leb}
use lib.ListN.{length, take, drop, get_or, drop_of_length-le, length-take, length-drop, replicate, length-replicate}
use lib.Seq.{get_or-take, get_or-drop, take_at, drop_at, drop-drop}
use Rattle.trellis.specs.Lists.{tab, blocks, part, each, up_to, count_from}
use Rattle.trellis.specs.Field.{xor, product}
use Rattle.trellis.specs.Check.{Column, column, weigh, shift, sent, sent_at, all_sent}
use Rattle.trellis.specs.Record.{record_of, group_length, record_length, group}
use Rattle.trellis.specs.Rules.{rule_for, power_of, size_of, most_of, greatest_of, columns_of}
use Rattle.trellis.specs.Ready.{Ready}
use Rattle.trellis.proofs.Xor.{xor_lt}
use Rattle.trellis.proofs.Loops.{length-tab, get_d_tab, tab_ext, map-tab, blocks_ext, each-blocks}
use Rattle.trellis.proofs.Rules.{most-some, most-few}
use Rattle.trellis.proofs.Ready.{length-columns, column-at, ready-low, ready-high, ready_proper}
use Rattle.trellis.proofs.Records.{sent-at, sent-small, shift_small}
use Rattle.engine.specs.inner.Terms.{term_of, sum_to}
use Rattle.engine.specs.inner.Rests.{line_at}
use Rattle.engine.proofs.Lines.{placed_row}
use Rattle.engine.proofs.Record.{shift_is, record_parts}
use Rattle.tables.specs.Calls.{in_range, sent_leaves}
use Rattle.groups.specs.Calls.{groups_length, groups_leave}
use Rattle.tables.proofs.Meaning.{CallRoom, sent_means}
use Rattle.groups.proofs.Meaning.{groups_mean}
use Rattle.checknode.specs.inner.Asks.{shifts_of}
use Rattle.field.specs.Answers.{row_of}
use Rattle.checknode.specs.inner.Lines.{rests_of, side_of, Rests, PartsRoom, sent_in, sent_column, SendsRoom}
use Rattle.checknode.specs.declared.accepted.Check.{Check}
use Rattle.field.proofs.Blocks.{in_block}
use Rattle.field.proofs.Filling.{row-full}
use Rattle.checknode.proofs.Turns.{ready-times}
use Rattle.checknode.proofs.Lining.{rests_full, cleared-room, cleared-part}

-- elements that are bytes, in a part too
take-bytes : (n : ℕ) (l : List ℕ) → ((i : ℕ) → get_or l i 0 ≤ 255) → (i : ℕ) → get_or (take n l) i 0 ≤ 255
take-bytes zero l h i = omega arith
take-bytes (suc n) [] h i = omega arith
take-bytes (suc n) (x ∷ l) h zero = h 0
take-bytes (suc n) (x ∷ l) h (suc i) = take-bytes n l (λ j. h (suc j)) i

module _ (first : ℕ) (ws cs : List ℕ) (D : Ready first ws cs) where
  abbrev p : ℕ
  p = power_of first

  abbrev most : ℕ
  most = most_of first

  abbrev greatest : Bool
  greatest = greatest_of first

  abbrev q : ℕ
  q = 2 ^ p

  abbrev l : ℕ
  l = side_of p

  abbrev cols : List Column
  cols = columns_of (2 ^ p) ws cs

  asked : CallRoom p most (length ws) greatest (rule_for first) cols
  unfolding in_range
  asked = record {
    rule = record { size = refl; join = refl; most = refl };
    degree = sym (length-columns q ws cs);
    range = rw (le-leb 2 p (ready-low first ws cs D), le-leb p 6 (ready-high first ws cs D), le-leb 2 most (most-some first), le-leb most 3 (most-few first), le-leb 2 (length ws) (omega (arith, D.two)), le-leb (length ws) 32 D.few) refl;
    proper = ready_proper first ws cs D;
  }

  -- as many bytes as the record has behind its shifts
  groups-count : groups_length p most ≡ group_length (rule_for first) * (size_of first - 1)
  groups-count = let e : most * 2 + 1 ≡ 1 + 2 * most = omega arith in rw e (mul_comm (q - 1) (1 + 2 * most))

  -- the lines are the columns'
  line_is : (n a : ℕ) → n < length ws → a < q → get_or (blocks (rests_of p ws cs l) (length ws)) (n * l + a) 0 ≡ line_at (rule_for first) (column cols n) a
  line_is n a h k =
      let c : Column = column cols n in
      let e = column-at q ws cs n h in
      in_block l (rests_of p ws cs l) (rests_full p ws cs l) (length ws) n a h (omega arith)
      ∙ ap (λ (c : Column). get_or (Rattle.engine.specs.inner.Lines.placed c.costs (tab (product p c.weight) q) (product p c.weight (Rattle.trellis.specs.Check.first_zero c.costs)) q (tab (λ a. 0) l)) a 0) (sym e)
      ∙ placed_row (rule_for first) cols (ready_proper first ws cs D) n (omega (arith, length-columns q ws cs)) (tab (product p c.weight) q) (λ x u. get_d_tab (product p c.weight) q x u) l (omega arith) a k

  pub rests_law : (lines rests : List ℕ) {r : List ℕ} → lines ≡ blocks (rests_of p ws cs l) (length ws) → length lines ≡ length ws * l → length rests ≡ length ws * l → length r ≡ length ws * l
      → r ≡ sent_leaves p most greatest (length ws) lines rests → Rests first ws cs r
  rests_law lines rests e h k m o =
      record {
        full = m;
        at = λ n a i j. ap (λ y. get_or y (n * l + a) 0) o
            ∙ sent_means p most (length ws) greatest (rule_for first) cols asked lines rests (omega arith) (omega arith) (λ n a i j. ap (λ y. get_or y (n * l + a) 0) e ∙ line_is n a i j) n a i j;
      }

  module _ (bytes : (i : ℕ) → get_or cs i 0 < 256) where
    pub column-bytes : (n y : ℕ) → n < length cols → get_or (column cols n).costs y 0 ≤ 255
    column-bytes n y h =
        let e = column-at q ws cs n (omega (arith, length-columns q ws cs)) in
        rw e (take-bytes q (drop (n * q) cs) (λ i. rw (get_or-drop (n * q) cs i 0) (omega (arith, bytes (n * q + i)))) y)

    pub groups_are : (rests out : List ℕ) {r : List ℕ} → Rests first ws cs rests → length out ≡ groups_length p most → r ≡ groups_leave p most (length ws) rests out
        → r ≡ blocks (λ i. group (rule_for first) cols (suc i)) (q - 1)
    groups_are rests out S h o =
        let z : drop (groups_length p most) out ≡ [] = drop_of_length-le out {i = groups_length p most} (omega arith) in
        o ∙ groups_mean p most (length ws) greatest (rule_for first) cols asked column-bytes rests out (omega (arith, S.full)) (omega arith) S.at
        ∙ ap (λ y. each (group (rule_for first) cols) (count_from 1 (q - 1)) ++ y) z ∙ append-nil _
        ∙ each-blocks (group (rule_for first) cols) 1 (q - 1) ∙ blocks_ext (λ j. group (rule_for first) cols (1 + j)) _ (q - 1) (λ j i. ap (group (rule_for first) cols) (omega arith))

  pub shifts_law : {o r : List ℕ} {s : ℕ} → s ≡ sum_to (term_of p ws cs) (length ws) → o ≡ tab (term_of p ws cs) (length ws) → r ≡ tab (λ i. xor s (get_or o i 0)) (length o) → r ≡ shifts_of p ws cs
  unfolding shifts_of
  shifts_law {o} {r} {s} a b e =
      let l : length o ≡ length ws = ap length b ∙ length-tab (term_of p ws cs) (length ws) in
      e ∙ ap (tab (λ i. xor s (get_or o i 0))) l
      ∙ tab_ext _ _ (length ws) (λ j h. let g : get_or o j 0 ≡ term_of p ws cs j = ap (λ y. get_or y j 0) b ∙ get_d_tab (term_of p ws cs) (length ws) j h in rw (a, g))

  pub shifts-length : length (shifts_of p ws cs) ≡ length ws
  unfolding shifts_of
  shifts-length = length-tab _ (length ws)

  pub shift-at : (n : ℕ) → n < length ws → get_or (shifts_of p ws cs) n 0 ≡ shift (rule_for first) cols n
  unfolding shifts_of
  shift-at n h = get_d_tab _ (length ws) n h ∙ sym (shift_is first ws cs D n h)

  pub parts : record_of (rule_for first) cols ≡ shifts_of p ws cs ++ blocks (λ i. group (rule_for first) cols (suc i)) (q - 1)
  unfolding shifts_of
  parts = record_parts first ws cs D

  pub record_front : take (length ws) (record_of (rule_for first) cols) ≡ shifts_of p ws cs
  record_front = rw parts (take_at (shifts_of p ws cs) _ (length ws) shifts-length)

  -- shifts and groups, written one after the other, are the record
  module _ (bytes : (i : ℕ) → get_or cs i 0 < 256) where
    pub record_law : (out rests : List ℕ) (e : ℕ) {s r : List ℕ} → e ≡ length out → length out ≡ record_length (rule_for first) (length ws) → Rests first ws cs rests → s ≡ shifts_of p ws cs
        → r ≡ groups_leave p most (length ws) rests (take (e - length ws) (drop (length ws) (s ++ drop (length ws) out)))
        → take (length ws) (s ++ drop (length ws) out) ++ (r ++ drop (e - length ws) (drop (length ws) (s ++ drop (length ws) out))) ≡ record_of (rule_for first) cols
    record_law out rests e {s} {r} h k S a b =
        let n : ℕ = length ws in
        let m : length s ≡ n = ap length a ∙ shifts-length in
        let t : take n (s ++ drop n out) ≡ s = take_at s (drop n out) n m in
        let d : drop n (s ++ drop n out) ≡ drop n out = drop_at s (drop n out) n m in
        let z : drop (e - n) (drop n out) ≡ [] = drop-drop (e - n) n out ∙ drop_of_length-le out {i = n + (e - n)} (omega arith) in
        let g : r ≡ groups_leave p most n rests (take (e - n) (drop n out)) = b ∙ ap (λ y. groups_leave p most n rests (take (e - n) y)) d in
        let w : length (take (e - n) (drop n out)) ≡ groups_length p most = simp (length-take, length-drop) (omega (arith, groups-count)) in
        let y : r ≡ blocks (λ i. group (rule_for first) cols (suc i)) (q - 1) = groups_are bytes rests (take (e - n) (drop n out)) S w g in
        rw (t, d, z, append-nil r, a, y) (sym parts)

    -- what each column is sent, by symbols
    sent-one : (rows rests : List ℕ) → rows ≡ blocks (row_of p ws) (length ws) → Rests first ws cs rests → (n x : ℕ) → n < length ws → x < q
        → sent_in (part rows (n * q) q) (get_or (shifts_of p ws cs) n 0) (part rests (n * l) l) x ≡ sent (rule_for first) cols n x
    sent-one rows rests e S n x h k =
        let i : n < length cols = omega (arith, length-columns q ws cs) in
        let P = ready_proper first ws cs D in
        let a : get_or (part rows (n * q) q) x 0 ≡ product p (get_or ws n 0) x = get_or-take q (drop (n * q) rows) x 0 k ∙ get_or-drop (n * q) rows x 0 ∙ ap (λ y. get_or y (n * q + x) 0) e
        ∙ in_block q (row_of p ws) (row-full p ws) (length ws) n x h k ∙ get_d_tab (product p (get_or ws n 0)) q x k in
        let w : weigh (rule_for first) (column cols n) x ≡ product p (get_or ws n 0) x = ap (λ (c : Column). product p c.weight x) (column-at q ws cs n h) in
        let b : ℕ = xor (product p (get_or ws n 0) x) (shift (rule_for first) cols n) in
        let u : b < q = xor_lt p _ _ ((ready-times first ws cs D n h).closed x k) (shift_small (rule_for first) cols P n i) in
        let o : get_or (part rests (n * l) l) b 0 ≡ 255 - sent_at (rule_for first) cols n b = get_or-take l (drop (n * l) rests) b 0 (omega arith) ∙ get_or-drop (n * l) rests b 0 ∙ S.at n b h u in
        let v : sent_at (rule_for first) cols n b ≡ sent (rule_for first) cols n x = sym (sent-at (rule_for first) cols P n x ∙ ap (λ y. sent_at (rule_for first) cols n (xor y (shift (rule_for first) cols n))) w) in
        let c : sent (rule_for first) cols n x ≤ 255 = sent-small (rule_for first) cols P 255 (λ m j y. column-bytes bytes m y j) n x i k in
        rw (a, shift-at n h, o, v) (omega arith)

    pub send_law : (rows rests out : List ℕ) (w m : ℕ) {r : List ℕ} → rows ≡ blocks (row_of p ws) (length ws) → Rests first ws cs rests → out ≡ record_of (rule_for first) cols → w ≡ q → m ≡ l
        → r ≡ blocks (sent_column w m rows (take (length ws) out) rests) (length (take (length ws) out)) → r ≡ all_sent (rule_for first) cols
    unfolding all_sent
    send_law rows rests out w m e S o f g h =
        let t : take (length ws) out ≡ shifts_of p ws cs = ap (take (length ws)) o ∙ record_front in
        let k : length cols ≡ length ws = length-columns q ws cs in
        h ∙ rw (t, f, g, shifts-length)
        (blocks_ext (sent_column q l rows (shifts_of p ws cs) rests) (λ n. map (sent (rule_for first) cols (0 + n)) (up_to q)) (length ws)
        (λ n i. tab_ext _ _ q (λ x j. sent-one rows rests e S n x i j ∙ ap (λ y. sent (rule_for first) cols y x) (sym (zero-add n))) ∙ sym (map-tab (sent (rule_for first) cols (0 + n)) 0 q ∙ tab_ext _ _ q (λ x j. ap (sent (rule_for first) cols (0 + n)) (zero-add x)))))
        ∙ sym (ap (λ y. each (λ n. map (sent (rule_for first) cols n) (up_to q)) (up_to y)) k ∙ each-blocks (λ n. map (sent (rule_for first) cols n) (up_to q)) 0 (length ws))

  pub sends_room : (rows rests out sent : List ℕ) (w m : ℕ) → rows ≡ blocks (row_of p ws) (length ws) → length rows ≡ length ws * q → Rests first ws cs rests → out ≡ record_of (rule_for first) cols → length sent ≡ length ws * q → w ≡ q → m ≡ l
      → SendsRoom w m rows (take (length ws) out) rests sent
  sends_room rows rests out sent w m e h S o k f g =
      let t : take (length ws) out ≡ shifts_of p ws cs = ap (take (length ws)) o ∙ record_front in
      rw (t, f, g)
      (record {
        few = omega (arith, shifts-length, D.few);
        narrow = pow_mono {i = p} {j = 6} (ready-high first ws cs D);
        short = omega (arith, pow_mono {i = p} {j = 6} (ready-high first ws cs D));
        of_rows = h ∙ ap (λ y. y * q) (sym shifts-length);
        of_rests = S.full ∙ ap (λ y. y * l) (sym shifts-length);
        of_out = k ∙ ap (λ y. y * q) (sym shifts-length);
        below = λ n x i j.
            let u : n < length ws = omega (arith, shifts-length) in
            let a : get_or rows (n * q + x) 0 ≡ product p (get_or ws n 0) x = ap (λ y. get_or y (n * q + x) 0) e ∙ in_block q (row_of p ws) (row-full p ws) (length ws) n x u j ∙ get_d_tab (product p (get_or ws n 0)) q x j in
            let b = xor_lt p _ _ ((ready-times first ws cs D n u).closed x j) (shift_small (rule_for first) cols (ready_proper first ws cs D) n (omega (arith, length-columns q ws cs))) in
            rw (a, shift-at n u) (omega (arith, b));
      })

-- the largest room is enough
pub room_most : (c : Check) → (length c.weights.now * max 16 (size_of c.first) ≤ 2048) × (2048 ≤ 2048)
room_most c =
    let a : size_of c.first ≤ 64 = pow_mono {i = power_of c.first} {j = 6} (ready-high _ _ _ c.ready) in
    let b : length c.weights.now * max 16 (size_of c.first) ≤ length c.weights.now * 64 = mul-le-mul (le_refl (length c.weights.now)) (omega arith) in
    (omega (arith, b, c.ready.few), omega arith)

-- parts of room of n places, for d columns with q products and l places of a line each
module _ (first d q l n : ℕ) (size : q ≡ size_of first) (side : l ≡ max 16 (size_of first)) (room : d * max 16 (size_of first) ≤ n) where
  pub parts_within : (d * q ≤ n) × (d * l ≤ n)
  parts_within =
      let a : d * l ≤ n = rw side room in
      let b : d * q ≤ d * l = mul-le-mul (le_refl d) (omega arith) in
      (omega arith, a)

  part-length : (m : ℕ) → m ≤ n → length (take m (replicate {A = ℕ} n 0)) ≡ m
  part-length m h = simp (length-take, length-replicate) (omega arith)

  pub parts_room : PartsRoom first d (take (d * q) (replicate n 0)) (take (d * l) (replicate n 0)) (take (d * l) (replicate n 0))
  parts_room =
      let b = part-length (d * l) parts_within.1 ∙ ap (λ y. d * y) side in
      record { of_rows = part-length (d * q) parts_within.0 ∙ ap (λ y. d * y) size; of_lines = b; cleared = cleared-part (replicate n 0) 0 (d * l) (cleared-room n); of_rests = b }

-- the calls of `tables`, with the rule as its numbers
pub sent-same : {p p' k k' : ℕ} {g g' : Bool} (d : ℕ) {x y : List ℕ} (out : List ℕ) → p ≡ p' → k ≡ k' → g ≡ g' → x ≡ y → sent_leaves p k g d x out ≡ sent_leaves p' k' g' d y out
sent-same d out a b c e = rw (a, b, c, e) refl

pub groups_same : {p p' k k' : ℕ} (d : ℕ) (rests out : List ℕ) → p ≡ p' → k ≡ k' → groups_leave p k d rests out ≡ groups_leave p' k' d rests out
groups_same d rests out a b = rw (a, b) refl
