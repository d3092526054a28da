-- The table of inverses: at 2 ^ p + h stands the element that times h is 1, for each field and each h but 0. One test that computes.
use Rattle.std.specs.Prelude.{Bool, ◌&&◌, ◌||◌, List, ℕ, ◌+◌, ◌^◌, eqb, ltb, get_or}
use Rattle.trellis.specs.Lists.{all_to}
use Rattle.trellis.specs.Field.{product}

-- h times its entry is 1, and the entry is an element
abbrev pub inverted_at : List ℕ → ℕ → ℕ → Bool
inverted_at l p h = eqb (product p h (get_or l (2 ^ p + h) 0)) 1 && ltb (get_or l (2 ^ p + h) 0) (2 ^ p)

abbrev pub inverted : List ℕ → ℕ → Bool
inverted l p = all_to (λ h. eqb h 0 || inverted_at l p h) (2 ^ p)

unfoldable pub all_inverted : List ℕ → Bool
all_inverted l = inverted l 2 && (inverted l 3 && (inverted l 4 && (inverted l 5 && inverted l 6)))
