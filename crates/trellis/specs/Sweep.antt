-- Two sweeps over the columns of one check, "for each partial sum and each count of deviations up to k, the least cost over the columns
-- before n, and the same over the columns after n", and their join, the cost sent to column n.
use Rattle.std.specs.Prelude.{◌≡◌, ◌⊎◌, Bool, cond, ◌&&◌, ℕ, zero, suc, ◌-◌, ◌≤◌, min, eqb, take, drop}
use mathlib.Core.List.{List, map, foldr}
use Rattle.trellis.specs.Lists.{keep}
use Rattle.trellis.specs.Field.{xor}
use Rattle.trellis.specs.Check.{Rule, Column, Fits, cost_at, decision, weigh, cost_of, weighted_sum, deviations, choices, shift}

-- "with a mark where no choice exists": a number above every cost. Three deviations cost at most 3 times 255
abbrev pub mark : ℕ
mark = 1024

-- a choice with j deviations and weighted sum t
pub record Counted (R : Rule) (cs : List Column) (j t : ℕ) (w : List ℕ) : Type 0 where
  pub fits : Fits R.size cs w
  pub count : deviations cs w ≡ j
  pub sum : weighted_sum R cs w ≡ t

-- m is the least cost over those choices
pub record LeastCounted (R : Rule) (cs : List Column) (j t m : ℕ) : Type 0 where
  pub choice : List ℕ
  pub counted : Counted R cs j t choice
  pub attained : cost_of R cs choice ≡ m
  pub least : (w : List ℕ) → Counted R cs j t w → m ≤ cost_of R cs w

-- m is that least, or the mark where no such choice exists
abbrev pub Keeps : Rule → List Column → ℕ → ℕ → ℕ → Type 0
Keeps R cs j t m = LeastCounted R cs j t m ⊎ ((m ≡ mark) × ((w : List ℕ) → Counted R cs j t w → ⊥))

abbrev pub counted? : Rule → List Column → ℕ → ℕ → List ℕ → Bool
counted? R cs j t w = eqb (deviations cs w) j && eqb (weighted_sum R cs w) t

-- what a sweep keeps for j deviations and partial sum t, by looking at every choice; proofs/Sweep.antt shows that it is the Keeps of these
unfoldable pub swept : Rule → List Column → ℕ → ℕ → ℕ
swept R cs j t = foldr min mark (map (cost_of R cs) (keep (counted? R cs j t) (choices R.size cs)))

-- the least of f 0, .., f (n - 1); the mark where none is below it
abbrev pub least_to : (ℕ → ℕ) → ℕ → ℕ
least_to f zero = mark
least_to f (suc n) = min (least_to f n) (f n)

-- the cost of a deviation: none at the decision
abbrev pub deviation_cost : Column → ℕ → ℕ
deviation_cost c x = cond (eqb x (decision c).symbol) mark (cost_at c x)

-- one column more: it keeps its decision, or it is one of the deviations
unfoldable pub stepped : Rule → Column → (ℕ → ℕ → ℕ) → ℕ → ℕ → ℕ
stepped R c f zero t = f 0 (xor t (weigh R c (decision c).symbol))
stepped R c f (suc j) t =
    min (f (suc j) (xor t (weigh R c (decision c).symbol)))
    (least_to (λ x. R.join (deviation_cost c x) (f j (xor t (weigh R c x)))) R.size)

-- two sweeps joined at i and j deviations, at partial sums s and s + t
abbrev pub across : Rule → (ℕ → ℕ → ℕ) → (ℕ → ℕ → ℕ) → ℕ → ℕ → ℕ → ℕ
across R f g t i j = least_to (λ s. R.join (f i s) (g j (xor s t))) R.size

-- the least over all counts that are k or less together
unfoldable pub joined : Rule → (ℕ → ℕ → ℕ) → (ℕ → ℕ → ℕ) → ℕ → ℕ → ℕ
joined R f g k t = least_to (λ i. least_to (across R f g t i) (suc (k - i))) (suc k)

-- "joins the two sweeps for column n": S_n(a)
unfoldable pub swept_sent : Rule → List Column → ℕ → ℕ → ℕ
swept_sent R cs n a = joined R (swept R (take n cs)) (swept R (drop (suc n) cs)) R.most (xor a (shift R cs n))
