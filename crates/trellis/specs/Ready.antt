-- A check as a caller hands it over, where none of the specification's refusals of the check itself applies.
use Rattle.std.specs.Prelude.{◌≡◌, true, ◌≢◌, List, ℕ, ◌*◌, ◌≤◌, ◌<◌, length, get_or}
use Rattle.trellis.specs.Check.{first_zero}
use Rattle.trellis.specs.Rules.{first_ok, size_of, costs_at}
use Rattle.trellis.specs.Sizes.{most_degree}

-- the first code byte, the weights and the costs: none of 6, 9, 11, 12, 13 applies
pub record Ready (f : ℕ) (ws cs : List ℕ) : Type 0 where
  pub first : first_ok f ≡ true
  pub two : 2 ≤ length ws
  pub few : length ws ≤ most_degree
  pub weight-some : (n : ℕ) → n < length ws → get_or ws n 0 ≢ 0
  pub weight-small : (n : ℕ) → n < length ws → get_or ws n 0 < size_of f
  pub count : length cs ≡ length ws * size_of f
  pub zeros : (n : ℕ) → n < length ws → first_zero (costs_at (size_of f) cs n) < size_of f
