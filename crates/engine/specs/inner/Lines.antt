-- A column's line: what is left of 255 after each symbol's cost, put into the symbol's row.
use Rattle.std.specs.Prelude.{List, ℕ, ◌-◌, get_or, set}
use Rattle.trellis.specs.Lists.{upto}
use Rattle.trellis.specs.Field.{xor}

-- the first q symbols: symbol x goes to row (row x + s)
unfoldable pub placed : List ℕ → List ℕ → ℕ → ℕ → List ℕ → List ℕ
placed costs row s q l = upto (λ x l. set l (xor (get_or row x 0) s) (255 - get_or costs x 0)) q l
