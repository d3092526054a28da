-- Mirrors the loops of one sweep, over cells: the cost for j deviations and partial sum t stands at j q + t. The reader's definitions are
-- those of trellis; proofs/Swept.antt ties these to them.
use Rattle.std.specs.Prelude.{◌≡◌, Bool, true, false, cond, List, ℕ, suc, ◌+◌, ◌-◌, ◌*◌, ◌^◌, ◌≤◌, ◌<◌, min, eqb, length, get_or, take, drop}
use Rattle.trellis.specs.Lists.{pick, tab, blocks, part}
use Rattle.trellis.specs.Field.{xor, product}
use Rattle.trellis.specs.Check.{Rule, Column, first_zero}
use Rattle.trellis.specs.Rules.{join_of, rule_for, power_of, size_of, most_of, greatest_of, columns_of, costs_at}
use Rattle.trellis.specs.Sweep.{mark, swept, least_to}
use Rattle.trellis.specs.Sizes.{most_size}
use Rattle.engine.specs.inner.Terms.{term_of}
use Rattle.sweep.specs.declared.columns.Direction.{Direction}
use Rattle.sweep.specs.declared.columns.Direction.TheVariants.{Forward, Backward}

-- all cells of a function of count and sum
abbrev pub cells_of : ℕ → ℕ → (ℕ → ℕ → ℕ) → List ℕ
cells_of q k f = blocks (λ j. tab (f j) q) (suc k)

-- each h times z
abbrev pub terms_of : ℕ → List ℕ → List ℕ → List ℕ
terms_of p ws cs = tab (term_of p ws cs) (length ws)

-- the sum of two elements is one
pub record Sums (q : ℕ) : Type 0 where
  pub sum : (a b : ℕ) → a < q → b < q → xor a b < q

-- the cost of a deviation to x, by the column's costs and its decision z
abbrev pub move_cost : List ℕ → ℕ → ℕ → ℕ
move_cost costs z x = cond (eqb x z) mark (get_or costs x 0)

-- the cheapest deviation that leads to sum t: by the products of the column's weight with each symbol, and the costs of a deviation
unfoldable pub deviation_at : Bool → List ℕ → List ℕ → List ℕ → ℕ → ℕ
deviation_at g row moves low t = least_to (λ x. join_of g (get_or moves x 0) (get_or low (xor t (get_or row x 0)) 0)) (length row)

-- one column more, for one count: the decision, whose product is s, from the costs of that count, or a deviation from those of one fewer
unfoldable pub layer_at : Bool → List ℕ → List ℕ → List ℕ → List ℕ → ℕ → ℕ → ℕ
layer_at g row moves low same s t = min (get_or same (xor t s) 0) (deviation_at g row moves low t)

abbrev pub layers : Bool → List ℕ → List ℕ → List ℕ → List ℕ → ℕ → List ℕ
layers g row moves low same s = tab (layer_at g row moves low same s) (length row)

-- a column's products and the costs of its deviations, for as many sums
pub record Steps (row moves : List ℕ) : Type 0 where
  pub costed : length moves ≡ length row
  pub below : (x : ℕ) → x < length row → get_or row x 0 < length row
  pub sums : Sums (length row)

-- the costs of j deviations, from all cells
unfoldable pub count_cells : Bool → ℕ → List ℕ → List ℕ → List ℕ → ℕ → ℕ → List ℕ
count_cells g q row moves cells s j =
    pick (eqb j 0)
    (tab (λ t. get_or (take q cells) (xor t s) 0) q)
    (tab (layer_at g row moves (part cells (j * q - q) q) (part cells (j * q) q) s) q)

-- all counts up to k
unfoldable pub step_cells : Bool → ℕ → ℕ → List ℕ → List ℕ → List ℕ → ℕ → List ℕ
step_cells g q k row moves cells s = blocks (count_cells g q row moves cells s) (k + 1)

-- a column's costs, with a 0 among them, and room for its products and the costs of its deviations
pub record Sized (q : ℕ) (costs row moves : List ℕ) : Type 0 where
  pub of_costs : length costs ≡ q
  pub of_row : length row ≡ q
  pub of_moves : length moves ≡ q
  pub has_zero : first_zero costs < q
  pub limit : q ≤ most_size

-- one column more: weight h, and its costs
unfoldable pub step_by : ℕ → Bool → ℕ → ℕ → List ℕ → List ℕ → List ℕ
step_by p g k h costs cells =
    step_cells g (2 ^ p) k (tab (product p h) (2 ^ p)) (tab (move_cost costs (first_zero costs)) (2 ^ p)) cells
    (product p h (first_zero costs))

-- by the rule of a first code byte, and for column n
abbrev pub step_for : ℕ → ℕ → List ℕ → List ℕ → List ℕ
step_for f h costs cells = step_by (power_of f) (greatest_of f) (most_of f) h costs cells

abbrev pub step_column : ℕ → List ℕ → List ℕ → ℕ → List ℕ → List ℕ
step_column f ws cs n cells = step_for f (get_or ws n 0) (costs_at (size_of f) cs n) cells

-- whether a sweep goes from the last column on
abbrev pub is_back : Direction → Bool
is_back Forward = false
is_back Backward = true

-- which column a sweep takes as its turn i: from the first on, or from the last on
abbrev pub order_of : Bool → ℕ → ℕ → ℕ
order_of back d i = pick back (d - suc i) i

-- the columns of its first i turns
abbrev pub turns_of : Bool → List Column → ℕ → List Column
turns_of back cs i = pick back (drop (length cs - i) cs) (take i cs)

-- the cells kept over the columns of the first i turns: each the least cost with its count and sum, or the mark
unfoldable pub cells_after : Rule → Bool → List Column → ℕ → List ℕ
cells_after R back cs i = cells_of R.size R.most (swept R (turns_of back cs i))

-- the table of a sweep over the columns of an accepted check
abbrev pub table_of : ℕ → Bool → List ℕ → List ℕ → List ℕ
table_of f back ws cs = blocks (cells_after (rule_for f) back (columns_of (size_of f) ws cs)) (length ws)

-- both of them
pub record Swept (f : ℕ) (ws cs before after : List ℕ) : Type 0 where
  pub of_before : before ≡ table_of f false ws cs
  pub of_after : after ≡ table_of f true ws cs
