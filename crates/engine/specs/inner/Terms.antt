-- What the loops make of an accepted check: the products from a symbol's bits, each h times z, and their sum.
use Rattle.std.specs.Prelude.{cond, List, [], ◌∷◌, ℕ, zero, suc, ◌/◌, ◌%◌, ◌^◌, eqb, get_or}
use Rattle.trellis.specs.Field.{xor, product}
use Rattle.trellis.specs.Check.{first_zero}
use Rattle.trellis.specs.Rules.{costs_at}

-- the terms of the bits that x has, lowest first, added
abbrev pub bits_of : List ℕ → ℕ → ℕ
bits_of [] x = 0
bits_of (t ∷ l) x = xor (cond (eqb (x % 2) 1) t 0) (bits_of l (x / 2))

-- h times z of column n
abbrev pub term_of : ℕ → List ℕ → List ℕ → ℕ → ℕ
term_of p ws cs n = product p (get_or ws n 0) (first_zero (costs_at (2 ^ p) cs n))

-- the sum of the first n terms
abbrev pub sum_to : (ℕ → ℕ) → ℕ → ℕ
sum_to f zero = 0
sum_to f (suc n) = xor (sum_to f n) (f n)
