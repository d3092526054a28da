-- The table of products at p = 6, as the specification's recurrence gives it: a times b stands at 64 a + b.
use Rattle.std.specs.Prelude.{List, [], ◌∷◌, ℕ, zero, suc, ◌/◌, ◌%◌}
use Rattle.trellis.specs.Field.{product}

-- f i, f (i + 1), ..: n of them
abbrev pub build : (ℕ → ℕ) → ℕ → ℕ → List ℕ
build f i zero = []
build f i (suc n) = f i ∷ build f (suc i) n

unfoldable pub product_table : List ℕ
product_table = build (λ k. product 6 (k / 64) (k % 64)) 0 4096
