-- Turns of loops that fill a list or look for a least number, and parts of a list.
use mathlib.Core.Path.{◌≡◌, sym, ap, ap₂, ◌∙◌, subst}
use mathlib.Core.Bool.{Bool, true, false}
use mathlib.Core.Logic.{◌≢◌}
use mathlib.Core.List.{List}
use Prim.Native.Nat.{ℕ, ◌+◌, ◌-◌, ◌*◌, ◌≤◌, ◌<◌, min, max, ◌^◌}
use native.Mathlib.Numerals.{add-one}
use native.Mathlib.Omega.{arith}
use native.Mathlib.Nat.{add-sub_cancel_left, mul-le-mul_right}
use borrow.Author.Tests.{eq-eqb, ne_eqb}
use lib.ListN.{replicate, length-replicate, get_or-replicate, length, drop, take, get_or, length-take, length-drop}
use lib.Seq.{ext_get_or}
use Rattle.std.proofs.Math.Seq.{take-length}
use Rattle.trellis.specs.Lists.{tab, part}
use Rattle.trellis.specs.Field.{xor, product}
use Rattle.trellis.specs.Check.{first_zero}
use Rattle.trellis.specs.Rules.{join_of, power_of, size_of, most_of, greatest_of}
use Rattle.trellis.specs.Sweep.{least_to}
use Rattle.trellis.proofs.Xor.{xor_lt}
use Rattle.trellis.proofs.Loops.{length-tab, get_d_tab}
use Rattle.trellis.proofs.Rules.{most-few}
use Rattle.checknode.specs.inner.Asks.{Times}
use Rattle.sweep.specs.Kept.{cell_count}
use Rattle.sweep.specs.inner.Cells.{Sums, Steps, deviation_at, layer_at, count_cells, step_cells, move_cost, step_by}

pub least_turn : (f : ℕ → ℕ) (x : ℕ) {e r v : ℕ} → e ≡ least_to f x → v ≡ f x → r ≡ min e v → r ≡ least_to f (x + 1)
least_turn f x a b o = o ∙ rw (a, b, add-one x)

-- one sum of a count
pub layer_value : (g : Bool) (row moves low same : List ℕ) (s t : ℕ) {a b r : ℕ} → a ≡ get_or same (xor t s) 0 → b ≡ deviation_at g row moves low t → r ≡ min a b → r ≡ layer_at g row moves low same s t
unfolding layer_at
layer_value g row moves low same s t ea eb em = em ∙ ap₂ min ea eb

pub join_greatest : {g : Bool} (a b : ℕ) {r : ℕ} → g ≡ true → r ≡ max a b → r ≡ join_of g a b
join_greatest a b e o = rw e o

pub join-sum : {g : Bool} (a b : ℕ) {r : ℕ} → g ≡ false → r ≡ a + b → r ≡ join_of g a b
join-sum a b e o = rw e o

-- the front that is the whole
pub front_whole : (out : List ℕ) (n : ℕ) {r : List ℕ} → take n out ≡ r → n ≡ length out → out ≡ r
front_whole out n e h = sym (take-length out) ∙ ap (λ k. take k out) (sym h) ∙ e

-- one value everywhere
pub tab_replicate : (v n : ℕ) → replicate n v ≡ tab (λ i. v) n
tab_replicate v n =
    let e : length {A = ℕ} (replicate n v) ≡ n = length-replicate n v in
    ext_get_or 0 (replicate n v) (tab (λ i. v) n) (e ∙ sym (length-tab _ n)) (λ i h. get_or-replicate n i v 0 (omega arith) ∙ sym (get_d_tab (λ i. v) n i (omega arith)))

pub sums_of : (p : ℕ) → Sums (2 ^ p)
sums_of p = record { sum = xor_lt p }

pub sums_same : {m n : ℕ} → m ≡ n → Sums m → Sums n
sums_same e s = subst (λ n. Sums n) e s

-- parts of q elements
pub past_first : (j q : ℕ) → j ≢ 0 → q ≤ j * q
past_first j q h = let k : 1 ≤ j = omega arith in omega (arith, mul-le-mul_right q k)

pub cut_is : (l : List ℕ) (a q : ℕ) → take (a + q - a) (drop a l) ≡ part l a q
cut_is l a q = rw (add-sub_cancel_left a q)

pub part_length : (l : List ℕ) (a q : ℕ) → a + q ≤ length l → length (take (a + q - a) (drop a l)) ≡ q
part_length l a q h = simp (length-take, length-drop) (omega arith)

below_is : (l : List ℕ) (b q : ℕ) → q ≤ b → take (b - (b - q)) (drop (b - q) l) ≡ part l (b - q) q
below_is l b q h = let e : b - (b - q) ≡ q = omega arith in rw e

module _ (g : Bool) (q : ℕ) (row moves cells : List ℕ) (s : ℕ) where
  pub count-first : (j n : ℕ) {out : List ℕ} → j ≡ 0 → n ≡ q → out ≡ tab (λ t. get_or (take q cells) (xor t s) 0) n → out ≡ count_cells g q row moves cells s j
  unfolding count_cells
  count-first j n e u o = rw (eq-eqb _ _ e) (o ∙ ap (tab (λ t. get_or (take q cells) (xor t s) 0)) u)

  pub count-later : (j n : ℕ) {out : List ℕ} → j ≢ 0 → n ≡ q
      → out ≡ tab (layer_at g row moves (take (j * q - (j * q - q)) (drop (j * q - q) cells)) (take (j * q + q - j * q) (drop (j * q) cells)) s) n → out ≡ count_cells g q row moves cells s j
  unfolding count_cells
  count-later j n e u o =
      rw (ne_eqb _ _ e)
      (o ∙ ap₂ (λ x y. tab (layer_at g row moves x y s) n) (below_is cells (j * q) q (past_first j q e)) (cut_is cells (j * q) q)
      ∙ ap (tab (layer_at g row moves (part cells (j * q - q) q) (part cells (j * q) q) s)) u)

-- a column's products and costs are made
steps_of : (p h : ℕ) → Times p h → (f : ℕ → ℕ) {row moves : List ℕ} → row ≡ tab (product p h) (2 ^ p) → moves ≡ tab f (2 ^ p) → Steps row moves
steps_of p h T f {row} {moves} e u =
    let r : length row ≡ 2 ^ p = ap length e ∙ length-tab _ (2 ^ p) in
    let m : length moves ≡ 2 ^ p = ap length u ∙ length-tab _ (2 ^ p) in
    record {
      costed = omega (arith, r, m);
      below = λ x l. let k : x < 2 ^ p = omega arith in rw (r, e, get_d_tab (product p h) (2 ^ p) x k) (T.closed x k);
      sums = sums_same (sym r) (sums_of p);
    }

-- one column more, with the rule as its numbers
module _ (f h : ℕ) (costs : List ℕ) (T : Times (power_of f) h) {p s i q k : ℕ} {g : Bool} {row moves : List ℕ} (ep : p ≡ power_of f) (es : s ≡ product p h (first_zero costs))
    (er : row ≡ tab (product p h) (2 ^ p)) (em : moves ≡ tab (move_cost costs (first_zero costs)) (2 ^ p)) (ei : i ≡ s) (eq : q ≡ size_of f) (ek : k ≡ most_of f) (eg : g ≡ greatest_of f) where
  rows : row ≡ tab (product (power_of f) h) (size_of f)
  rows = er ∙ ap (λ p. tab (product p h) (2 ^ p)) ep

  costed : moves ≡ tab (move_cost costs (first_zero costs)) (size_of f)
  costed = em ∙ ap (λ p. tab (move_cost costs (first_zero costs)) (2 ^ p)) ep

  at-decision : i ≡ product (power_of f) h (first_zero costs)
  at-decision = ei ∙ es ∙ ap (λ p. product p h (first_zero costs)) ep

  pub step_asks : (cells out : List ℕ) → first_zero costs < size_of f → length cells ≡ cell_count f → length out ≡ cell_count f
      → Steps row moves × (((length row ≡ q) × ((i < q) × (k ≤ 3))) × ((length cells ≡ (k + 1) * q) × (length out ≡ (k + 1) * q)))
  step_asks cells out z c o =
      let w : cell_count f ≡ (k + 1) * q = ap₂ (λ k q. (k + 1) * q) (sym ek) (sym eq) in (
        steps_of (power_of f) h T (move_cost costs (first_zero costs)) rows costed,
        ((ap length rows ∙ length-tab _ (size_of f) ∙ sym eq, (rw (at-decision, eq) (T.closed (first_zero costs) z), omega (arith, ek, most-few f))), (c ∙ w, o ∙ w)),
      )

  pub step-done : (cells : List ℕ) {out : List ℕ} → out ≡ step_cells g q k row moves cells i → out ≡ step_by (power_of f) (greatest_of f) (most_of f) h costs cells
  unfolding step_by
  step-done cells n = n ∙ rw (eg, eq, ek, rows, costed, at-decision)
