-- Mirrors the loops that join two sweeps: the costs sent to each column, from the cells before it and after it.
use Rattle.std.specs.Prelude.{◌≡◌, Bool, List, ℕ, ◌+◌, ◌-◌, ◌*◌, ◌≤◌, ◌<◌, length, get_or}
use Rattle.trellis.specs.Lists.{tab, blocks, part}
use Rattle.trellis.specs.Field.{xor}
use Rattle.trellis.specs.Rules.{join_of}
use Rattle.trellis.specs.Sweep.{least_to}
use Rattle.trellis.specs.Sizes.{most_degree, most_size}
use Rattle.sweep.specs.inner.Cells.{Sums}

-- two sweeps joined at one count each
unfoldable pub across_at : Bool → List ℕ → List ℕ → ℕ → ℕ
across_at g f h t = least_to (λ s. join_of g (get_or f s 0) (get_or h (xor s t) 0)) (length f)

-- one count before with the n least counts after
unfoldable pub beside_at : Bool → ℕ → List ℕ → List ℕ → ℕ → ℕ → ℕ
beside_at g q f after n t = least_to (λ j. across_at g f (part after (j * q) q) t) n

-- all counts that are k or less together
unfoldable pub join_at : Bool → ℕ → ℕ → List ℕ → List ℕ → ℕ → ℕ
join_at g q k before after t = least_to (λ i. beside_at g q (part before (i * q) q) after (k - i + 1) t) (k + 1)

-- each cost sent to a column whose shift is s is a byte
pub record ByteCostsRoom (g : Bool) (q k : ℕ) (before after : List ℕ) (s : ℕ) : Type 0 where
  pub small : (a : ℕ) → a < q → join_at g q k before after (xor a s) < 256

-- the cells before column n and those after it, each a part of w cells; n columns from the front are d - 1 - n from the back
abbrev pub cells_before : ℕ → List ℕ → ℕ → List ℕ
cells_before w before n = part before (n * w) w

abbrev pub cells_behind : ℕ → List ℕ → ℕ → ℕ → List ℕ
cells_behind w after d n = part after ((d - 1 - n) * w) w

-- the costs sent to column n, for each a
abbrev pub column_sent : Bool → ℕ → ℕ → List ℕ → List ℕ → List ℕ → ℕ → List ℕ
column_sent g q k before after shifts n =
    tab (λ a. join_at g q k (cells_before ((k + 1) * q) before n) (cells_behind ((k + 1) * q) after (length shifts) n)
    (xor a (get_or shifts n 0))) q

-- to each column
abbrev pub columns_sent : Bool → ℕ → ℕ → List ℕ → List ℕ → List ℕ → List ℕ
columns_sent g q k before after shifts = blocks (column_sent g q k before after shifts) (length shifts)

-- both tables have a part for each column, and what they send is bytes
pub record JoinRoom (g : Bool) (q k : ℕ) (before after shifts out : List ℕ) : Type 0 where
  pub sums : Sums q
  pub limit : q ≤ most_size
  pub counts : k ≤ 3
  pub few : length shifts ≤ most_degree
  pub of_before : length before ≡ length shifts * ((k + 1) * q)
  pub of_after : length after ≡ length shifts * ((k + 1) * q)
  pub of_out : length out ≡ length shifts * q
  pub below : (n : ℕ) → n < length shifts → get_or shifts n 0 < q
  pub bytes : (n : ℕ) → n < length shifts
      → ByteCostsRoom g q k (cells_before ((k + 1) * q) before n) (cells_behind ((k + 1) * q) after (length shifts) n) (get_or shifts n 0)
