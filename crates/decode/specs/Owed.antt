-- What is printed in all, at a reader and a writer whose bytes are known: what is written, and what is still to come.
use Rattle.std.specs.Prelude.{List, ℕ, ◌++◌, take, Option, None, Some}
use Rattle.machine.specs.inner.Blocks.{Session, fed, fed_out, close_out}

-- what is printed from here on, of the bytes that the reader has left and of which `left` may still be read
abbrev pub rest_out : Session → ℕ → List ℕ → List ℕ
rest_out k left xs = fed_out k (take left xs) ++ close_out (fed k (take left xs))

-- what stands written when the program ends
abbrev pub owed : Option (List ℕ) → Option (List ℕ) → Session → ℕ → Option (List ℕ)
owed (Some xs) (Some ws) k left = Some (ws ++ rest_out k left xs)
owed (Some xs) None k left = None
owed None w k left = None
