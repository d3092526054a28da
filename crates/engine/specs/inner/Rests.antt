-- The numbers of the tables. A choice starts with 255, and each deviation takes its cost off, stopping at 0: what is left is its rest.
-- Rests are never added, only taken from one another, and a least cost that is sent is at most 255, so 255 less the best rest is that
-- cost. A table has, for each weighted difference from the decisions, the best rest over a part of the columns.
use Rattle.std.specs.Prelude.{Bool, ℕ, zero, suc, ◌-◌, min, max}
use mathlib.Core.List.{List, map, foldr}
use Rattle.trellis.specs.Lists.{keep, pick}
use Rattle.trellis.specs.Field.{xor}
use Rattle.trellis.specs.Check.{Rule, Column, cost_at, cost_of, choices, allowed?, decided}
use Rattle.trellis.specs.Rows.{symbol_at}

-- the rule with at most j deviations
abbrev pub at_most : Rule → ℕ → Rule
at_most R j = record { size = R.size; times = R.times; join = R.join; most = j }

-- the best rest over the choices with at most j deviations whose weighted difference from the decisions is a, by looking at every choice;
-- 0 where there is none, and where each costs 255 or more
unfoldable pub rest : Rule → List Column → ℕ → ℕ → ℕ
rest R cs j a =
    foldr max 0 (map (λ w. 255 - cost_of R cs w) (keep (allowed? (at_most R j) cs (xor a (decided R cs))) (choices R.size cs)))

-- a column's line: the rest of its symbol in row a
unfoldable pub line_at : Rule → Column → ℕ → ℕ
line_at R c a = 255 - cost_at c (symbol_at R c a)

-- the greatest of f 0, .., f (n - 1); 0 where there is none
abbrev pub most_to : (ℕ → ℕ) → ℕ → ℕ
most_to f zero = 0
most_to f (suc n) = max (most_to f n) (f n)

-- what two rests leave together: the first less the second's cost; where a choice costs the greatest, the lesser of the two
abbrev pub meet_of : Bool → ℕ → ℕ → ℕ
meet_of greatest u v = pick greatest (min u v) (u - (255 - v))

-- two tables of q rows joined, at row a: the first has a + b where the second has b
unfoldable pub joined_at : (ℕ → ℕ → ℕ) → ℕ → (ℕ → ℕ) → (ℕ → ℕ) → ℕ → ℕ
joined_at meet q f g a = most_to (λ b. meet (f (xor a b)) (g b)) q

-- one column more, where f j is the table for at most j deviations: table 1 takes its line in; table j + 2 joins table j + 1 with it
unfoldable pub grown : (ℕ → ℕ → ℕ) → ℕ → (ℕ → ℕ) → (ℕ → ℕ → ℕ) → ℕ → ℕ → ℕ
grown meet q line f zero a = f zero a
grown meet q line f (suc zero) a = max (f 1 a) (line a)
grown meet q line f (suc (suc j)) a = max (f (suc (suc j)) a) (joined_at meet q (f (suc j)) line a)

-- the tables before a column joined with those after it: at most k deviations together, all before, all after, or some on either side
unfoldable pub between : (ℕ → ℕ → ℕ) → ℕ → ℕ → (ℕ → ℕ → ℕ) → (ℕ → ℕ → ℕ) → ℕ → ℕ
between meet q k f g a = max (max (f k a) (g k a)) (most_to (λ i. joined_at meet q (f (k - suc i)) (g (suc i)) a) (k - 1))
