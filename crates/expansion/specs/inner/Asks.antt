-- What the inner functions ask of their slices, and what they leave.
use Rattle.std.specs.Prelude.{◌≡◌, ◌≢◌, List, map, ℕ, ◌+◌, ◌-◌, ◌*◌, ◌^◌, ◌≤◌, ◌<◌, length, get_or}
use Rattle.trellis.specs.Lists.{up_to}
use Rattle.trellis.specs.Record.{expand_at}
use Rattle.trellis.specs.Rules.{rule_of}
use Rattle.trellis.specs.Sizes.{most_degree}

-- weights that are accepted, and a record of accepted form with k pairs a group
pub record ExpandRoom (p k : ℕ) (ws r : List ℕ) : Type 0 where
  pub low : 2 ≤ p
  pub high : p ≤ 6
  pub pairs : k ≤ 3
  pub few : length ws ≤ most_degree
  pub weight-some : (n : ℕ) → n < length ws → get_or ws n 0 ≢ 0
  pub weight-small : (n : ℕ) → n < length ws → get_or ws n 0 < 2 ^ p
  pub long : length r ≡ length ws + (1 + 2 * k) * (2 ^ p - 1)
  pub shift_small : (n : ℕ) → n < length ws → get_or r n 0 < 2 ^ p

-- the bytes of column n in an expansion
abbrev pub column_bytes : ℕ → ℕ → List ℕ → List ℕ → ℕ → List ℕ
column_bytes p k ws r n = map (expand_at (rule_of p ◌+◌ k) ws r n) (up_to (2 ^ p))
