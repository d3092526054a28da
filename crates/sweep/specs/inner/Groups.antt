-- Mirrors the loops over the costs sent at one a: E, and the pairs of the columns above it.
use Rattle.std.specs.Prelude.{List, [], ◌∷◌, ◌++◌, ℕ, zero, suc, ◌+◌, ◌-◌, ◌*◌, ◌≤◌, ◌<◌, min, ltb, get_or, drop}
use Rattle.trellis.specs.Lists.{pick, blocks}

-- the least of f 0, .., f (n - 1), where they are bytes
abbrev pub lowest_to : (ℕ → ℕ) → ℕ → ℕ
lowest_to f zero = 255
lowest_to f (suc n) = min (lowest_to f n) (f n)

-- column n's cost at a
abbrev pub sent_of : List ℕ → ℕ → ℕ → ℕ → ℕ
sent_of l q a n = get_or l (n * q + a) 0

-- column n, if its cost is above e
abbrev pub pair_above : ℕ → (ℕ → ℕ) → ℕ → List ℕ
pair_above e S n = pick (ltb e (S n)) (n ∷ S n ∷ []) []

-- how many of the first n columns are above e
abbrev pub pair_count : ℕ → (ℕ → ℕ) → ℕ → ℕ
pair_count e S zero = 0
pair_count e S (suc n) = pick (ltb e (S n)) (pair_count e S n + 1) (pair_count e S n)

-- the pairs of the first n columns, put before what stood there
abbrev pub pairs_over : ℕ → (ℕ → ℕ) → ℕ → List ℕ → List ℕ
pairs_over e S n old = blocks (pair_above e S) n ++ drop (pair_count e S n * 2) old

abbrev pub unused_pair : ℕ → List ℕ
unused_pair i = 0xFF ∷ 0x00 ∷ []

unfoldable pub group_by : ℕ → ℕ → (ℕ → ℕ) → List ℕ
group_by k d S = lowest_to S d ∷ (blocks (pair_above (lowest_to S d) S) d ++ blocks unused_pair (k - pair_count (lowest_to S d) S d))

-- at each a from 1 on, at most k columns are above E
pub record PairsRoom (k d q : ℕ) (sent : List ℕ) : Type 0 where
  pub few : (a : ℕ) → 0 < a → a < q → pair_count (lowest_to (sent_of sent q a) d) (sent_of sent q a) d ≤ k
