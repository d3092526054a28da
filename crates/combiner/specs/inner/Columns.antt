-- What the loop over a column leaves, and a code line by the two numbers that combining reads of it. proofs/Combined.antt shows that these
-- give machine's combining.
use Rattle.std.specs.Prelude.{List, [], ℕ, min}
use Rattle.trellis.specs.Lists.{upto}
use Rattle.machine.specs.CodeLine.{Code}
use Rattle.machine.specs.Combining.{both_costs}

-- the least of the first n sums, from a number that none of them reaches
unfoldable pub least_both : List ℕ → List ℕ → ℕ → ℕ
least_both a b n = upto (λ k v. min v (both_costs a b k)) n 1000

-- a code with this first byte and N columns; a frame's tests and its combination read no more of a code
abbrev pub headed : ℕ → ℕ → Code
headed byte n = record { first = byte; columns = n; scale = 0; limit = 0; checks = [] }
