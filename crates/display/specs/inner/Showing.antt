-- What the inner function asks.
use Rattle.std.specs.Prelude.{◌≡◌, List, ℕ, ◌≤◌, ◌<◌, length, get_or}
use Rattle.division.specs.Numbers.{QuotientRoom}

-- d weights, at least d bytes of a record, d bytes to write; each weight divides its shift
pub record ShowRoom (p : ℕ) (ws r out : List ℕ) : Type 0 where
  pub shifts : length ws ≤ length r
  pub room : length out ≡ length ws
  pub divides : (n : ℕ) → n < length ws → QuotientRoom p (get_or ws n 0) (get_or r n 0)
