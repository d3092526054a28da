-- The cells after each turn of a sweep are the kept costs, and two of them joined are the sent costs.
use mathlib.Core.Path.{◌≡◌, refl, sym, ap, ap₂, ◌∙◌}
use mathlib.Core.Bool.{Bool, true, false}
use mathlib.Core.List.{List, [], ◌∷◌, ◌++◌, append_assoc, append-nil}
use Prim.Native.Nat.{ℕ, zero, suc, ◌+◌, ◌-◌, ◌*◌, ◌^◌, ◌≤◌, ◌<◌, min}
use native.Mathlib.Nat.{suc-mul, mul-le-mul}
use native.Mathlib.Numerals.{add-one}
use native.Mathlib.Omega.{arith}
use borrow.Author.Tests.{ne_eqb}
use lib.ListN.{length, get_or, take, drop, set, length-take, length-drop, length-append, length-set}
use lib.Pow.{pow_mono}
use lib.Seq.{drop-length, take_at, drop_at}
use Rattle.trellis.specs.Lists.{tab, blocks, part}
use Rattle.trellis.specs.Field.{xor, product}
use Rattle.trellis.specs.Check.{Rule, Column, column, first_zero, cost_at, sent_at}
use Rattle.trellis.specs.Rules.{join_of, rule_of, rule_for, power_of, size_of, most_of, greatest_of, columns_of, costs_at}
use Rattle.trellis.specs.Ready.{Ready}
use Rattle.trellis.specs.Sweep.{mark, swept, least_to, stepped, across, joined}
use Rattle.trellis.proofs.Xor.{xor_lt}
use Rattle.trellis.proofs.Loops.{length-tab, get_d_tab, tab_ext, tab-front, blocks_ext, blocks-front, length-even, block_more}
use Rattle.trellis.proofs.Rules.{most-few}
use Rattle.trellis.proofs.Sent.{Proper, sent-one, symbol}
use Rattle.trellis.proofs.Ready.{length-columns, column-at, costs-length, ready-high, ready_proper}
use Rattle.trellis.proofs.Sweep.{swept_none, swept-before, swept-after}
use Rattle.checknode.specs.inner.Asks.{Times}
use Rattle.field.proofs.Blocks.{block_at}
use Rattle.checknode.proofs.Turns.{ready-times, part_is}
use Rattle.sweep.specs.Kept.{cell_count}
use Rattle.sweep.specs.inner.Cells.{cells_of, move_cost, deviation_at, layer_at, count_cells, step_cells, Sized, step_by, order_of, turns_of, cells_after}
use Rattle.sweep.specs.inner.Joins.{across_at, beside_at, join_at}
use Rattle.sweep.proofs.Rows.{row_sizes}

least_to_ext : (f g : ℕ → ℕ) (n : ℕ) → ((x : ℕ) → x < n → f x ≡ g x) → least_to f n ≡ least_to g n
least_to_ext f g zero h = refl
least_to_ext f g (suc n) h = ap₂ min (least_to_ext f g n (λ x l. h x (omega arith))) (h n (omega arith))

module _ (q k : ℕ) (f : ℕ → ℕ → ℕ) where
  cell-part : (j : ℕ) → j < suc k → part (cells_of q k f) (j * q) q ≡ tab (f j) q
  cell-part j h = block_at q (λ j. tab (f j) q) (λ m. length-tab (f m) q) (suc k) j h

  cells_ext : (g : ℕ → ℕ → ℕ) → ((j t : ℕ) → j < suc k → t < q → f j t ≡ g j t) → cells_of q k f ≡ cells_of q k g
  cells_ext g h = blocks_ext _ _ (suc k) (λ j l. tab_ext (f j) (g j) q (λ t m. h j t l m))

-- no column
const_more : (v a b : ℕ) → tab (λ i. v) a ++ tab (λ i. v) b ≡ tab (λ i. v) (a + b)
const_more v a zero = let e : a + 0 ≡ a = omega arith in rw e (append-nil (tab (λ i. v) a))
const_more v a (suc b) =
    let e : a + suc b ≡ suc (a + b) = omega arith in
    sym (append_assoc (tab (λ i. v) a) (tab (λ i. v) b) (v ∷ [])) ∙ ap {B = List ℕ} (λ l. l ++ (v ∷ [])) (const_more v a b) ∙ ap (tab (λ (i : ℕ). v)) (sym e)

const_blocks : (v q k : ℕ) → blocks (λ (j : ℕ). tab (λ (i : ℕ). v) q) k ≡ tab (λ (i : ℕ). v) (k * q)
const_blocks v q zero = let z : 0 * q ≡ 0 = omega arith in rw z refl
const_blocks v q (suc k) = ap {B = List ℕ} (λ l. l ++ tab (λ (i : ℕ). v) q) (const_blocks v q k) ∙ const_more v (k * q) q ∙ ap (tab (λ (i : ℕ). v)) (sym (suc-mul k q))

none-sum : (R : Rule) (t : ℕ) → swept R [] 0 (suc t) ≡ mark
none-sum R t = swept_none R 0 (suc t) ∙ rw (ne_eqb (suc t) 0 (λ (z : suc t ≡ 0). omega arith)) refl

none-count : (R : Rule) (j t : ℕ) → swept R [] (suc j) t ≡ mark
none-count R j t = swept_none R (suc j) t ∙ rw (ne_eqb (suc j) 0 (λ (z : suc j ≡ 0). omega arith)) refl

cells_none : (R : Rule) (q k n : ℕ) → 0 < q → n ≡ (k + 1) * q → set (tab (λ i. mark) n) 0 0 ≡ cells_of q k (swept R [])
cells_none R zero k n h e = absurd (omega arith)
cells_none R (suc q) k n h e =
    let m : n ≡ suc (q + k * suc q) = omega (arith, e, ap (λ y. y * suc q) (add-one k), suc-mul k (suc q)) in
    let a : tab (swept R [] 0) (suc q) ≡ 0 ∷ tab (λ (i : ℕ). mark) q =
    tab-front (swept R [] 0) q ∙ ap₂ {C = List ℕ} (λ x l. x ∷ l) (swept_none R 0 0) (tab_ext (λ j. swept R [] 0 (suc j)) (λ (i : ℕ). mark) q (λ t l. none-sum R t)) in
    let b : blocks (λ j. tab (swept R [] (suc j)) (suc q)) k ≡ tab (λ i. mark) (k * suc q) =
    blocks_ext _ _ k (λ j l. tab_ext _ _ (suc q) (λ t u. none-count R j t)) ∙ const_blocks mark (suc q) k in
    rw (m, tab-front (λ (i : ℕ). mark) (q + k * suc q))
    (ap {B = List ℕ} (λ l. 0 ∷ l) (sym (const_more mark q (k * suc q))) ∙ sym (blocks-front (λ j. tab (swept R [] j) (suc q)) k ∙ ap₂ {C = List ℕ} (λ x y. x ++ y) a b))

module _ (p : ℕ) (g : Bool) (k h : ℕ) (costs : List ℕ) (T : Times p h) (z : first_zero costs < 2 ^ p) (f : ℕ → ℕ → ℕ) where
  abbrev q : ℕ
  q = 2 ^ p

  abbrev the_column : Column
  the_column = record { weight = h; costs = costs }

  abbrev row : List ℕ
  row = tab (product p h) q

  abbrev moves : List ℕ
  moves = tab (move_cost costs (first_zero costs)) q

  decided-sum : (t : ℕ) → t < q → xor t (product p h (first_zero costs)) < q
  decided-sum t l = xor_lt p t _ l (T.closed (first_zero costs) z)

  layer-is : (i t : ℕ) → t < q → layer_at g row moves (tab (f i) q) (tab (f (suc i)) q) (product p h (first_zero costs)) t ≡ stepped (rule_of p (join_of g) k) the_column f (suc i) t
  unfolding layer_at deviation_at stepped
  layer-is i t l =
      ap₂ min (get_d_tab (f (suc i)) q _ (decided-sum t l))
      (rw (length-tab (product p h) q)
      (least_to_ext _ _ q (λ x u. ap₂ (join_of g) (get_d_tab (move_cost costs (first_zero costs)) q x u) (ap (λ y. get_or (tab (f i) q) (xor t y) 0) (get_d_tab (product p h) q x u) ∙ get_d_tab (f i) q (xor t (product p h x)) (xor_lt p t _ l (T.closed x u))))))

  count-is : (j : ℕ) → j < suc k → count_cells g q row moves (cells_of q k f) (product p h (first_zero costs)) j ≡ tab (stepped (rule_of p (join_of g) k) the_column f j) q
  unfolding count_cells stepped
  count-is zero l =
      let e : 0 * q ≡ 0 = omega arith in
      let c : take q (cells_of q k f) ≡ tab (f 0) q = ap (λ y. take q (drop y (cells_of q k f))) (sym e) ∙ cell-part q k f 0 l in
      tab_ext _ _ q (λ t u. ap (λ y. get_or y (xor t (product p h (first_zero costs))) 0) c ∙ get_d_tab (f 0) q _ (decided-sum t u))
  count-is (suc i) l =
      let e : suc i * q - q ≡ i * q = omega (arith, suc-mul i q) in
      rw (ne_eqb (suc i) 0 (λ (z : suc i ≡ 0). omega arith), e, cell-part q k f i (omega arith), cell-part q k f (suc i) l) (tab_ext _ _ q (λ t u. layer-is i t u))

  -- one column more is one step
  step_is : step_by p g k h costs (cells_of q k f) ≡ cells_of q k (stepped (rule_of p (join_of g) k) the_column f)
  unfolding step_by step_cells
  step_is = ap (blocks (count_cells g q row moves (cells_of q k f) (product p h (first_zero costs)))) (add-one k) ∙ blocks_ext _ _ (suc k) (λ j l. count-is j l)

module _ (R : Rule) (cs : List Column) (P : Proper R cs) where
  -- after the first i turns and one more
  turn_is : (back : Bool) (i : ℕ) → i < length cs
      → cells_after R back cs (suc i) ≡ cells_of R.size R.most (stepped R (column cs (order_of back (length cs) i)) (swept R (turns_of back cs i)))
  unfolding cells_after
  turn_is true i l =
      let m : length cs - i ≡ suc (length cs - suc i) = omega arith in
      cells_ext R.size R.most _ _ (λ j t u v. swept-after R cs P (length cs - suc i) (omega arith) j t)
      ∙ ap (λ (n : ℕ). cells_of R.size R.most (stepped R (column cs (length cs - suc i)) (swept R (drop n cs)))) (sym m)
  turn_is false i l = cells_ext R.size R.most _ _ (λ j t u v. swept-before R cs P i l j t)

  -- S is a byte
  pub sent-byte : (b : ℕ) → ((n : ℕ) → n < length cs → (y : ℕ) → cost_at (column cs n) y ≤ b) → (n a : ℕ) → n < length cs → a < R.size → sent_at R cs n a ≤ b
  sent-byte b B zero a l h = let j : 1 < length cs = omega (arith, P.two) in omega (arith, sent-one R cs P a h 0 1 l j (λ (e : 0 ≡ 1). omega arith), B 1 j (symbol R cs P a h 1 j))
  sent-byte b B (suc n) a l h = let j : 0 < length cs = omega arith in omega (arith, sent-one R cs P a h (suc n) 0 l j (λ (e : suc n ≡ 0). omega arith), B 0 j (symbol R cs P a h 0 j))

module _ (p : ℕ) (g : Bool) (k : ℕ) (f h : ℕ → ℕ → ℕ) (t : ℕ) (small : t < 2 ^ p) where
  across-is : (i j : ℕ) → across_at g (tab (f i) (2 ^ p)) (tab (h j) (2 ^ p)) t ≡ across (rule_of p (join_of g) k) f h t i j
  unfolding across_at
  across-is i j =
      rw (length-tab (f i) (2 ^ p)) (least_to_ext _ _ (2 ^ p) (λ s l. ap₂ (join_of g) (get_d_tab (f i) (2 ^ p) s l) (get_d_tab (h j) (2 ^ p) (xor s t) (xor_lt p s t l small))))

  pub join_is : join_at g (2 ^ p) k (cells_of (2 ^ p) k f) (cells_of (2 ^ p) k h) t ≡ joined (rule_of p (join_of g) k) f h k t
  unfolding join_at beside_at joined
  join_is =
      let e : k + 1 ≡ suc k = omega arith in
      rw e
      (least_to_ext _ _ (suc k) (λ i l.
      let u : k - i + 1 ≡ suc (k - i) = omega arith in
      let inner : least_to (λ (j : ℕ). across_at g (part (cells_of (2 ^ p) k f) (i * 2 ^ p) (2 ^ p)) (part (cells_of (2 ^ p) k h) (j * 2 ^ p) (2 ^ p)) t) (suc (k - i)) ≡ least_to (across (rule_of p (join_of g) k) f h t i) (suc (k - i)) = least_to_ext _ _ (suc (k - i)) (λ j m. rw (cell-part (2 ^ p) k f i l, cell-part (2 ^ p) k h j (omega arith)) (across-is i j)) in
      rw u inner))

pub join-within : (g : Bool) (a b : ℕ) → join_of g a b ≤ a + b
join-within true a b = omega arith
join-within false a b = omega arith

cells_length : (q k : ℕ) (f : ℕ → ℕ → ℕ) → length (cells_of q k f) ≡ (k + 1) * q
cells_length q k f = length-even (λ j. tab (f j) q) q (λ j. length-tab (f j) q) (suc k) ∙ ap (λ y. y * q) (sym (add-one k))

-- an accepted check
module _ (f : ℕ) (ws cs : List ℕ) (D : Ready f ws cs) where
  abbrev R : Rule
  R = rule_for f

  abbrev C : List Column
  C = columns_of (size_of f) ws cs

  pub size-limit : size_of f ≤ 64
  size-limit = pow_mono {i = power_of f} {j = 6} (ready-high f ws cs D)

  pub ready_sizes : (cell_count f ≤ 256) × ((length ws * cell_count f ≤ 8192) × (length ws * size_of f ≤ 2048))
  ready_sizes = row_sizes (size_of f) (most_of f) (length ws) size-limit (most-few f) D.few

  pub cells_some : 0 < cell_count f
  cells_some =
      let a : 0 < size_of f = pow_mono {i = 0} {j = power_of f} (omega arith) in
      let b : 1 ≤ most_of f + 1 = omega arith in
      omega (arith, mul-le-mul b a)

  module _ (n : ℕ) (h : n < length ws) (q : ℕ) (e : q ≡ size_of f) where
    pub sized_of : {row moves : List ℕ} → length row ≡ size_of f → length moves ≡ size_of f → Sized (size_of f) (take (n * q + q - n * q) (drop (n * q) cs)) row moves
    sized_of r m =
        rw (part_is f ws cs D n h q e)
        record { of_costs = costs-length f ws cs D n h; of_row = r; of_moves = m; has_zero = D.zeros n h; limit = size-limit }

  module _ (back : Bool) where
    abbrev kept : ℕ → List ℕ
    kept = cells_after R back C

    pub after-length : (i : ℕ) → length (kept i) ≡ cell_count f
    unfolding cells_after
    after-length i = cells_length (size_of f) (most_of f) (swept R (turns_of back C i))

    -- no column yet
    pub table-start : (table : List ℕ) (w : ℕ) {r : List ℕ} → w ≡ cell_count f → w ≤ length table → r ≡ set (tab (λ i. mark) (length (take w table))) 0 0
        → r ++ drop w table ≡ blocks kept 1 ++ drop (1 * w) (r ++ drop w table)
    unfolding cells_after
    table-start table w {r} e h o =
        let n : length (take w table) ≡ (most_of f + 1) * size_of f = length-take w table ∙ omega (arith, e) in
        let m : 0 < size_of f = pow_mono {i = 0} {j = power_of f} (omega arith) in
        let c : r ≡ kept 0 = o ∙ cells_none R (size_of f) (most_of f) (length (take w table)) m n ∙ ap (λ (l : List Column). cells_of (size_of f) (most_of f) (swept R l)) (sym (empty back)) in
        let z : 1 * w ≡ w = omega arith in
        let d : drop w (r ++ drop w table) ≡ drop w table = drop_at r (drop w table) w (ap length c ∙ after-length 0 ∙ sym e) in
        rw (z, d, c)
      where
        empty : (b : Bool) → turns_of b C 0 ≡ []
        empty true = let z : length C - 0 ≡ length C = omega arith in rw z (drop-length C)
        empty false = refl

    pub start-length : (table : List ℕ) (w : ℕ) {r : List ℕ} → w ≤ length table → r ≡ set (tab (λ i. mark) (length (take w table))) 0 0 → length (r ++ drop w table) ≡ length table
    start-length table w {r} h o =
        let n : length r ≡ w = ap length o ∙ length-set (tab (λ i. mark) (length (take w table))) 0 0 ∙ length-tab _ (length (take w table)) ∙ length-take w table ∙ omega arith in
        simp (length-append, length-drop) (omega arith)

    -- one turn: the part before, copied, and the part that follows from it
    module _ (i : ℕ) (l : 1 ≤ i) (w : ℕ) (e : w ≡ cell_count f) where
      full : (j : ℕ) → length (kept j) ≡ w
      full j = after-length j ∙ sym e

      pub table_copied : (table : List ℕ) {cells : List ℕ} → table ≡ blocks kept i ++ drop (i * w) table
          → cells ≡ take (i * w - (i * w - w)) (drop (i * w - w) table) → cells ≡ kept (i - 1)
      table_copied table {cells} t c =
          let s : suc (i - 1) ≡ i = omega arith in
          let m : i * w ≡ (i - 1) * w + w = ap (λ y. y * w) (sym s) ∙ suc-mul (i - 1) w in
          let a : i * w - w ≡ (i - 1) * w = omega arith in
          let b : i * w - (i * w - w) ≡ w = omega arith in
          let rest : List ℕ = drop (i * w) table in
          let u : table ≡ blocks kept (i - 1) ++ (kept (i - 1) ++ rest) = t ∙ ap (λ y. blocks kept y ++ rest) (sym s) ∙ append_assoc (blocks kept (i - 1)) (kept (i - 1)) rest in
          c ∙ ap₂ (λ u v. take v (drop u table)) a b ∙ ap (λ y. take w (drop ((i - 1) * w) y)) u
          ∙ ap (take w) (drop_at (blocks kept (i - 1)) (kept (i - 1) ++ rest) ((i - 1) * w) (length-even kept w full (i - 1))) ∙ take_at (kept (i - 1)) rest w (full (i - 1))

      pub table_turn : (n : ℕ) {cells out : List ℕ} → i < length ws → n ≡ order_of back (length ws) (i - 1) → n < length ws → cells ≡ kept (i - 1)
          → out ≡ step_by (power_of f) (greatest_of f) (most_of f) (get_or ws n 0) (costs_at (size_of f) cs n) cells → out ≡ kept i
      unfolding cells_after
      table_turn n h m u c o =
          let d : length C ≡ length ws = length-columns (size_of f) ws cs in
          let j : n ≡ order_of back (length C) (i - 1) = m ∙ ap (λ y. order_of back y (i - 1)) (sym d) in
          let s : suc (i - 1) ≡ i = omega arith in
          o ∙ ap (step_by (power_of f) (greatest_of f) (most_of f) (get_or ws n 0) (costs_at (size_of f) cs n)) c
          ∙ step_is (power_of f) (greatest_of f) (most_of f) (get_or ws n 0) (costs_at (size_of f) cs n) (ready-times f ws cs D n u) (D.zeros n u) (swept R (turns_of back C (i - 1)))
          ∙ ap (λ (c : Column). cells_of (size_of f) (most_of f) (stepped R c (swept R (turns_of back C (i - 1))))) (sym (column-at (size_of f) ws cs n u) ∙ ap (column C) j)
          ∙ sym (turn_is R C (ready_proper f ws cs D) back (i - 1) (omega (arith, d)))
          ∙ ap kept s

      pub table-next : (table : List ℕ) {r : List ℕ} → table ≡ blocks kept i ++ drop (i * w) table → r ≡ kept i
          → let next : List ℕ = take (i * w) table ++ (r ++ drop (i * w + w - i * w) (drop (i * w) table)) in
          next ≡ blocks kept (i + 1) ++ drop ((i + 1) * w) next
      table-next table t o =
          let x = block_more kept w full table table i t o in
          let y = ap (drop ((i + 1) * w)) x ∙ drop_at (blocks kept (i + 1)) (drop ((i + 1) * w) table) ((i + 1) * w) (length-even kept w full (i + 1)) in
          x ∙ ap (λ y. blocks kept (i + 1) ++ y) (sym y)

      pub next-length : (table : List ℕ) {r : List ℕ} → i * w + w ≤ length table → r ≡ kept i
          → length (take (i * w) table ++ (r ++ drop (i * w + w - i * w) (drop (i * w) table))) ≡ length table
      next-length table {r} h o =
          let n : length r ≡ w = ap length o ∙ full i in
          simp (length-append, length-take, length-drop) (omega arith)
