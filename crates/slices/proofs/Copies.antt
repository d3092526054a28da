-- What the callers of a copy know: with the same lengths the one list is the other then.
use mathlib.Core.Path.{◌≡◌, ◌∙◌}
use mathlib.Core.List.{List}
use Prim.Native.Nat.{ℕ}
use lib.ListN.{length}
use borrow.Author.Tests.{eq-eqb}
use Rattle.slices.specs.Copies.{copied_to}

pub copied_is : (s d r : List ℕ) → length s ≡ length d → r ≡ copied_to s d → r ≡ s
copied_is s d r h e = e ∙ rw (eq-eqb (length s) (length d) h)
