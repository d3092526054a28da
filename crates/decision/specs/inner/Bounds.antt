-- What the loop over the other costs finds besides their least.
use Rattle.std.specs.Prelude.{◌≢◌, List, ℕ, ◌<◌, ◌≤◌, get_or}

-- of the first n costs none but the one at place z is above b
abbrev pub BoundedBut : ℕ → List ℕ → ℕ → ℕ → Type 0
BoundedBut b l z n = (x : ℕ) → x < n → x ≢ z → get_or l x 0 ≤ b
