-- What the numbers of a shape are.
use Rattle.std.specs.Prelude.{◌≡◌, ◌≢◌, ℕ, ◌%◌, ◌≤◌, ◌<◌}
use Rattle.trellis.specs.Sizes.{most_size}

-- tables are l rows long: 16, 32 or 64
pub record Table (l : ℕ) : Type 0 where
  pub one : l ≢ 64 → l ≢ 32 → l ≡ 16
  pub even : l % 16 ≡ 0
  pub limit : l ≤ most_size

-- and q of them are asked for, a multiple of four; k is 2 or 3
pub record Shaped (q l k : ℕ) : Type 0 where
  pub table : Table l
  pub fours : q % 4 ≡ 0
  pub within : q ≤ l
  pub some : 2 ≤ k
  pub few : k ≤ 3
  pub four : 4 ≤ q
  pub full : 16 < l → q ≡ l
