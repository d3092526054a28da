-- Sixteen rows of a table at a time, and a table joined with another.
use Rattle.std.specs.Prelude.{Bool, List, ℕ, ◌+◌, ◌-◌, ◌%◌, min, max, get_or}
use Rattle.trellis.specs.Lists.{pick, tab}
use Rattle.trellis.specs.Field.{xor}
use Rattle.engine.specs.inner.Rests.{most_to, meet_of, joined_at}

-- what is left of the rest v where x is taken: the lesser, or the difference, which stops at 0
abbrev pub cut : Bool → ℕ → ℕ → ℕ
cut greatest v x = pick greatest (min v x) (v - x)

-- a rest as it is taken: itself, or its cost
abbrev pub taken : Bool → ℕ → ℕ
taken greatest u = pick greatest u (255 - u)

-- sixteen rows
unfoldable pub lanes : (ℕ → ℕ) → List ℕ
lanes f = tab f 16

-- each row x at x + j
abbrev pub flipped : ℕ → List ℕ → List ℕ
flipped j w = lanes (λ i. get_or w (xor i j) 0)

-- the rows from j on, then those before them
abbrev pub rotated : ℕ → List ℕ → List ℕ
rotated j x = lanes (λ i. get_or x ((i + j) % 16) 0)

-- row b of x, taken from row a + b of w
abbrev pub cell : Bool → List ℕ → List ℕ → ℕ → ℕ → ℕ
cell greatest w x a b = cut greatest (get_or w (xor a b) 0) (get_or x b 0)

-- the best of e and the first n turns, whose turn b is f a b at row a
abbrev pub best_to : (ℕ → ℕ → ℕ) → List ℕ → ℕ → List ℕ
best_to f e n = lanes (λ a. max (get_or e a 0) (most_to (f a) n))

abbrev pub cell2 : Bool → List ℕ → List ℕ → List ℕ → List ℕ → ℕ → ℕ → ℕ
cell2 greatest w x v y a b = max (cell greatest w x a b) (cell greatest v y a b)

abbrev pub cell4 : Bool → List ℕ → List ℕ → List ℕ → List ℕ → List ℕ → List ℕ → List ℕ → List ℕ → ℕ → ℕ → ℕ
cell4 greatest w x v y t z s r a b = max (cell2 greatest w x v y a b) (cell2 greatest t z s r a b)

-- the best of top and the rows of u joined with the table low, at row a
unfoldable pub risen_at : Bool → ℕ → List ℕ → List ℕ → List ℕ → ℕ → ℕ
risen_at greatest q u low top a = max (get_or top a 0) (joined_at (meet_of greatest) q (λ x. get_or low x 0) (λ b. get_or u b 0) a)
