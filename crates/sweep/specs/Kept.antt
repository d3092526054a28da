-- What the two sweeps of an accepted check keep: "for each partial sum and each count of deviations up to k, the least cost over the
-- columns before n, and the same over the columns after n", "with a mark where no choice exists". Which number that is, trellis says
-- (Keeps).
use Rattle.std.specs.Prelude.{List, ℕ, suc, ◌+◌, ◌-◌, ◌*◌, ◌≤◌, ◌<◌, length, get_or, take, drop}
use Rattle.trellis.specs.Rules.{rule_for, size_of, most_of, columns_of}
use Rattle.trellis.specs.Sweep.{Keeps}

-- the cells of one table part: k + 1 counts of q sums
abbrev pub cell_count : ℕ → ℕ
cell_count f = (most_of f + 1) * size_of f

-- in part i of a table, the cell of j deviations and partial sum t
abbrev pub cell_at : ℕ → List ℕ → ℕ → ℕ → ℕ → ℕ
cell_at f table i j t = get_or table (i * cell_count f + (j * size_of f + t)) 0

-- part n of the first table is over the columns before n, part d - 1 - n of the second over the columns after n
pub record KeptCells (f : ℕ) (ws cs before after : List ℕ) : Type 0 where
  pub over-before : (n j t : ℕ) → n < length ws → j ≤ most_of f → t < size_of f
      → Keeps (rule_for f) (take n (columns_of (size_of f) ws cs)) j t (cell_at f before n j t)
  pub over-after : (n j t : ℕ) → n < length ws → j ≤ most_of f → t < size_of f
      → Keeps (rule_for f) (drop (suc n) (columns_of (size_of f) ws cs)) j t (cell_at f after (length ws - suc n) j t)
