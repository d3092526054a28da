-- What the inner functions ask of their numbers and slices.
use Rattle.std.specs.Prelude.{List, ℕ, ◌^◌, ◌≤◌, ◌<◌, length, get_or}
use Rattle.trellis.specs.Sizes.{most_degree}

-- h is an element of the field, and p is 2 to 6
pub record Factor (p h : ℕ) : Type 0 where
  pub low : 2 ≤ p
  pub high : p ≤ 6
  pub element : h < 2 ^ p

-- at most 32 weights, each an element
pub record Factors (p : ℕ) (ws : List ℕ) : Type 0 where
  pub low : 2 ≤ p
  pub high : p ≤ 6
  pub few : length ws ≤ most_degree
  pub elements : (n : ℕ) → n < length ws → get_or ws n 0 < 2 ^ p
