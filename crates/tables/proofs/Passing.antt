-- The rows of the costs sent, from the tables before and after each column.
use mathlib.Core.Path.{◌≡◌, sym, ap, ap₂, ◌∙◌}
use mathlib.Core.Bool.{Bool, true, false}
use mathlib.Core.List.{List}
use Prim.Native.Nat.{ℕ, zero, suc, ◌+◌, ◌-◌, ◌*◌, ◌≤◌, ◌<◌, max}
use native.Mathlib.Nat.{suc-mul, mul-le-mul_right}
use native.Mathlib.Omega.{arith}
use borrow.Author.Tests.{eq-eqb, ne_eqb}
use lib.Dec.{eqb}
use lib.ListN.{length, drop, take, get_or, length-take, length-drop}
use Rattle.trellis.specs.Lists.{pick, tab, blocks, part}
use Rattle.trellis.proofs.Loops.{length-tab}
use Rattle.tables.specs.inner.Tables.{risen_at, met_in, grown_at, grown_list, after_to, before_to, last_table, sent_to, sent_row, sent_rows}
use Rattle.tables.proofs.Parts.{past_first, part_of, blocks-length, blocks-part}
use Rattle.tables.proofs.Growing.{Half, half_low, after-length}

-- the last tables
pub apart_is : (g : Bool) (q l k : ℕ) (before after : List ℕ) (t n : ℕ) {o r : List ℕ} → t ≡ (k - 1) * l → n ≡ t + l → o ≡ take (n - t) (drop t after) → length o ≡ l
    → r ≡ tab (λ a. max (get_or o a 0) (get_or (take (n - t) (drop t before)) a 0)) (length o) → r ≡ sent_to g q l k before after 0
unfolding sent_to
apart_is g q l k before after t n {o} {r} et en eo lo er =
    er ∙ ap (tab (λ a. max (get_or o a 0) (get_or (take (n - t) (drop t before)) a 0))) lo
    ∙ ap₂ (λ x y. tab (λ a. max (get_or x a 0) (get_or y a 0)) l) (eo ∙ part_of after t n (k - 1) l et en) (part_of before t n (k - 1) l et en)

-- some deviations on either side, by a join with a copy of a table before
pub met_is : (g : Bool) (q l k : ℕ) (before after out s : List ℕ) (j m a b : ℕ) {r : List ℕ} → 1 ≤ j → m ≡ j * l → a ≡ (k - 1 - j) * l → b ≡ a + l
    → s ≡ take (m - (m - l)) (drop (m - l) before) → r ≡ tab (risen_at g q (take (b - a) (drop a after)) s out) l
    → r ≡ met_in g q l k before after out j
unfolding met_in
met_is g q l k before after out s j m a b h em ea eb C o =
    let p = past_first j l h in
    let c : m - (m - l) ≡ l = omega arith in
    let low : s ≡ part before (j * l - l) l = C ∙ ap (λ y. take y (drop (m - l) before)) c ∙ ap (λ y. take l (drop (y - l) before)) em in
    o ∙ ap₂ (λ x y. tab (risen_at g q x y out) l) (part_of after a b (k - 1 - j) l ea eb) low

pub sent-length : (g : Bool) (q l k : ℕ) (before after : List ℕ) (i : ℕ) → length (sent_to g q l k before after i) ≡ l
unfolding sent_to
sent-length g q l k before after zero = length-tab _ l
sent-length g q l k before after (suc i) = length-tab _ l

-- one turn, where the tables from j + 1 on have taken the line in already
pub met_turn : (g : Bool) (q l k : ℕ) (line before : List ℕ) (size : length before ≡ k * l) (after s out : List ℕ) (j : ℕ) {r : List ℕ} → 1 ≤ j → j < k
    → Half g q l k line before size j s → out ≡ sent_to g q l k before after (k - 1 - j) → r ≡ met_in g q l k s after out j → r ≡ sent_to g q l k before after (k - 1 - (j - 1))
unfolding sent_to met_in
met_turn g q l k line before size after s out j h m H e o =
    let i : k - 1 - (j - 1) ≡ suc (k - 1 - j) = omega arith in
    let x : k - 2 - (k - 1 - j) ≡ j - 1 = omega arith in
    let y : suc (j - 1) ≡ j = omega arith in
    let p = suc-mul (j - 1) l in
    let z : j * l - l ≡ (k - 2 - (k - 1 - j)) * l = rw x (omega (arith, p, ap (λ y. y * l) y)) in
    rw i (o ∙ ap₂ (λ u v. tab (risen_at g q (part after ((k - 1 - j) * l) l) u v) l) (half_low g q l k line before size j s h m H ∙ ap (λ y. part before y l) z) e)

module _ (g : Bool) (q l k : ℕ) (lines : List ℕ) (d : ℕ) (some : 2 ≤ d) (full : length lines ≡ d * l) (one : 1 ≤ k) where
  abbrev After : ℕ → List ℕ
  After = after_to g q l k lines d

  abbrev Before : ℕ → List ℕ
  Before = before_to g q l k lines

  abbrev pub Row : ℕ → List ℕ
  Row = sent_row g q l k lines d

  pub before-length : (i : ℕ) → length (Before i) ≡ k * l
  unfolding before_to grown_list
  before-length zero = blocks-length (λ _. part lines 0 l) l (λ _. length-take l lines ∙ omega (arith, mul-le-mul_right l (let x : 1 ≤ d = omega arith in x))) k
  before-length (suc i) = blocks-length (λ j. tab (grown_at g q l (part lines (suc i * l) l) (Before i) j) l) l (λ j. length-tab _ l) k

  last-length : (t : List ℕ) → length t ≡ k * l → length (last_table l k t) ≡ l
  last-length t e =
      let x : suc (k - 1) ≡ k = omega arith in
      length-take l (drop ((k - 1) * l) t) ∙ omega (arith, length-drop ((k - 1) * l) t, suc-mul (k - 1) l, ap (λ y. y * l) x)

  pub row-length : (n : ℕ) → length (Row n) ≡ l
  unfolding sent_row
  row-length zero = last-length (After (d - 2)) (after-length g q l k lines d some full (d - 2))
  row-length (suc n) = go (eqb (suc (suc n)) d)
    where
      go : (b : Bool) → length (pick b (last_table l k (Before n)) (sent_to g q l k (Before n) (After (d - 2 - suc n)) (k - 1))) ≡ l
      go true = last-length (Before n) (before-length n)
      go false = sent-length g q l k (Before n) (After (d - 2 - suc n)) (k - 1)

  -- the tables after a column, in their place
  after-at : (after : List ℕ) (i : ℕ) → i < d - 1 → after ≡ blocks After (d - 1) → part after (i * (k * l)) (k * l) ≡ After i
  after-at after i h e = ap (λ y. part y (i * (k * l)) (k * l)) e ∙ blocks-part After (k * l) (after-length g q l k lines d some full) (d - 1) i h

  pub row_first : (after : List ℕ) → after ≡ blocks After (d - 1) → last_table l k (part after ((d - 2) * (k * l)) (k * l)) ≡ Row 0
  unfolding sent_row
  row_first after e = ap (last_table l k) (after-at after (d - 2) (omega arith) e)

  pub row_middle : (after before : List ℕ) (n : ℕ) → 1 ≤ n → n + 1 < d → after ≡ blocks After (d - 1) → before ≡ Before (n - 1)
      → sent_to g q l k before (part after ((d - 2 - n) * (k * l)) (k * l)) (k - 1) ≡ Row n
  unfolding sent_row
  row_middle after before zero h m e o = absurd (omega arith)
  row_middle after before (suc n) h m e o =
      let x : suc n - 1 ≡ n = omega arith in
      ap₂ (λ u v. sent_to g q l k u v (k - 1)) (o ∙ ap Before x) (after-at after (d - 2 - suc n) (omega arith) e)
      ∙ sym (ap (λ b. pick b (last_table l k (Before n)) (sent_to g q l k (Before n) (After (d - 2 - suc n)) (k - 1))) (ne_eqb (suc (suc n)) d (λ y. omega arith)))

  pub row_last : (before : List ℕ) (n : ℕ) → n ≡ d - 1 → before ≡ Before (n - 1) → last_table l k before ≡ Row n
  unfolding sent_row
  row_last before zero h o = absurd (omega arith)
  row_last before (suc n) h o =
      let x : suc n - 1 ≡ n = omega arith in
      ap (last_table l k) (o ∙ ap Before x)
      ∙ sym (ap (λ b. pick b (last_table l k (Before n)) (sent_to g q l k (Before n) (After (d - 2 - suc n)) (k - 1))) (eq-eqb (suc (suc n)) d (omega arith)))

  pub before_turn : (before : List ℕ) (n : ℕ) {r : List ℕ} → 1 ≤ n → before ≡ Before (n - 1) → r ≡ grown_list g q l k (part lines (n * l) l) before → r ≡ Before (n + 1 - 1)
  unfolding before_to
  before_turn before zero h e o = absurd (omega arith)
  before_turn before (suc n) h e o =
      let x : suc n - 1 ≡ n = omega arith in
      let y : suc n + 1 - 1 ≡ suc n = omega arith in
      rw y (o ∙ ap (grown_list g q l k (part lines (suc n * l) l)) (e ∙ ap Before x))

  pub before-start : {r : List ℕ} → r ≡ blocks (λ _. take l lines) k → r ≡ Before 0
  unfolding before_to
  before-start e = e

  pub after-size : (after : List ℕ) → after ≡ blocks After (d - 1) → length after ≡ (d - 1) * (k * l)
  after-size after e = ap length e ∙ blocks-length After (k * l) (after-length g q l k lines d some full) (d - 1)

  pub rows_are : {r : List ℕ} → r ≡ blocks Row d → r ≡ sent_rows g q l k lines d
  unfolding sent_rows
  rows_are e = e
