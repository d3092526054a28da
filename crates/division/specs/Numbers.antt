-- A quotient wherever the code asks for one, and what the functions on elements ask.
use Rattle.std.specs.Prelude.{Bool, false, ◌≢◌, ℕ, ◌^◌, ◌≤◌, ◌<◌, eqb, ltb}
use Rattle.trellis.specs.Lists.{pick}
use Rattle.trellis.specs.Field.{quotient}

-- p is 2 to 6, and h an element other than 0
unfoldable pub divisor_ok : ℕ → ℕ → Bool
divisor_ok p h = pick (ltb p 2) false (pick (ltb 6 p) false (pick (eqb h 0) false (ltb h (2 ^ p))))

-- s divided by h; 0 where h does not divide, or s is no element
unfoldable pub quotient_or : ℕ → ℕ → ℕ → ℕ
quotient_or p h s = pick (divisor_ok p h) (pick (ltb s (2 ^ p)) (quotient p h s) 0) 0

-- an element that is not 0
pub record DivisorRoom (p h : ℕ) : Type 0 where
  pub low : 2 ≤ p
  pub high : p ≤ 6
  pub some : h ≢ 0
  pub small : h < 2 ^ p

-- and one to be divided by it
pub record QuotientRoom (p h s : ℕ) : Type 0 where
  pub divisor : DivisorRoom p h
  pub dividend : s < 2 ^ p
