-- The rule that a first code byte stands for, and a check as a caller hands it over: this byte, the weights, and the costs column by
-- column.
use Rattle.std.specs.Prelude.{Bool, cond, ◌&&◌, List, [], ◌∷◌, ℕ, ◌+◌, ◌^◌, ◌*◌, ◌/◌, ◌%◌, max, leb, ltb, eqb, take, drop}
use Rattle.trellis.specs.Lists.{pick}
use Rattle.trellis.specs.Field.{product}
use Rattle.trellis.specs.Check.{Rule, Column}

-- the field of 2 ^ p elements, with a join of costs and a number of deviations
abbrev pub rule_of : ℕ → (ℕ → ℕ → ℕ) → ℕ → Rule
rule_of p op k = record { size = 2 ^ p; times = product p; join = op; most = k }

-- how the costs of a choice are joined: their sum, or the greatest of them
abbrev pub join_of : Bool → ℕ → ℕ → ℕ
join_of greatest = pick greatest max ◌+◌

-- the first code byte f. "p in its low digit"; q is 2 ^ p (SPEC 4.1)
abbrev pub power_of : ℕ → ℕ
power_of f = f % 16

abbrev pub size_of : ℕ → ℕ
size_of f = 2 ^ power_of f

-- "The number of deviations becomes k, 2 or 3": high digits 0 and 1 have k = 2, "high digit 2 or 3" has k = 3 (SPEC 4.1)
abbrev pub most_of : ℕ → ℕ
most_of f = cond (ltb (f / 16) 2) 2 3

-- "With high digit 1 (k = 2) or 3 (k = 3) a choice costs the greatest of its columns' costs; digits 0 and 2 keep the sum" (SPEC 4.1)
abbrev pub greatest_of : ℕ → Bool
greatest_of f = eqb (f / 16 % 2) 1

-- "Refusal 6: high digit above 3, or low digit outside 2 to 6" (SPEC 8.2)
unfoldable pub first_ok : ℕ → Bool
first_ok f = leb (f / 16) 3 && (leb 2 (power_of f) && leb (power_of f) 6)

-- a choice has at most k deviations, and costs the sum of its columns' costs or the greatest of them (SPEC 2.4)
abbrev pub rule_for : ℕ → Rule
rule_for f = rule_of (power_of f) (join_of (greatest_of f)) (most_of f)

-- the columns: each weight with the next q costs
unfoldable pub columns_of : ℕ → List ℕ → List ℕ → List Column
columns_of q [] cs = []
columns_of q (h ∷ ws) cs = record { weight = h; costs = take q cs } ∷ columns_of q ws (drop q cs)

-- the costs of column n
abbrev pub costs_at : ℕ → List ℕ → ℕ → List ℕ
costs_at q cs n = take q (drop (n * q) cs)
