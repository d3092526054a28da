-- What the printing of a line leaves, and room for the largest code.
use Rattle.std.specs.Prelude.{◌≡◌, List, [], ◌∷◌, ◌++◌, ℕ, length, drop}
use Rattle.trellis.specs.Lists.{each}
use Rattle.trellis.specs.Sizes.{most_symbols, most_costs, most_store}
use Rattle.machine.specs.Printing.{digits_of}

-- "all as two-digit bytes"; "Each printed line ends in 0A."
unfoldable pub as_line : List ℕ → List ℕ
as_line l = each digits_of l ++ (0x0A ∷ [])

-- a list put over the front of a buffer
abbrev pub over : List ℕ → List ℕ → List ℕ
over l out = l ++ drop (length l) out

-- the four buffers of a decoding under any code line
pub record DecodeRoom (symbols costs store margins : List ℕ) : Type 0 where
  pub for_symbols : length symbols ≡ most_symbols
  pub for_costs : length costs ≡ most_costs
  pub for_store : length store ≡ most_store
  pub for_margins : length margins ≡ most_symbols
