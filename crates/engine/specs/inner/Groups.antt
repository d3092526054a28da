-- The bytes of one a, from the rests S n of the costs sent: E from the best of them, and the columns below it, found from the last column
-- to the first, each put before those found already.
use Rattle.std.specs.Prelude.{Bool, List, [], ◌∷◌, ℕ, zero, suc, ◌-◌, ltb}
use Rattle.trellis.specs.Lists.{pick, blocks}
use Rattle.engine.specs.inner.Rests.{most_to}

-- x put before f, or not
abbrev pub pushed : Bool → ℕ → (ℕ → ℕ) → ℕ → ℕ
pushed t x f zero = pick t x (f zero)
pushed t x f (suc j) = pick t (f j) (f (suc j))

-- the column of pair j after i turns, and its rest: turn i looks at column d - 1 - i. A pair that is not used is 255 twice
unfoldable pub listed_column : (ℕ → ℕ) → ℕ → ℕ → ℕ → ℕ → ℕ
listed_column S e d zero j = 255
listed_column S e d (suc i) j = pushed (ltb (S (d - suc i)) e) (d - suc i) (listed_column S e d i) j

unfoldable pub listed_rest : (ℕ → ℕ) → ℕ → ℕ → ℕ → ℕ → ℕ
listed_rest S e d zero j = 255
listed_rest S e d (suc i) j = pushed (ltb (S (d - suc i)) e) (S (d - suc i)) (listed_rest S e d i) j

-- the bytes of pair j: FF 00 where it is not used, for its rest is then 255
abbrev pub listed_pair : (ℕ → ℕ) → ℕ → ℕ → ℕ → List ℕ
listed_pair S e d j = listed_column S e d d j ∷ (255 - listed_rest S e d d j) ∷ []

-- E, then k pairs
unfoldable pub listed_group : ℕ → ℕ → (ℕ → ℕ) → List ℕ
listed_group k d S = (255 - most_to S d) ∷ blocks (listed_pair S (most_to S d) d) k
