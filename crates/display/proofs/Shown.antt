-- The loop over the columns leaves the quotients of the shifts.
use mathlib.Core.Path.{◌≡◌, sym, ap, ◌∙◌}
use mathlib.Core.List.{List, map}
use Prim.Native.Nat.{ℕ, ◌+◌}
use native.Mathlib.Nat.{zero-add}
use native.Mathlib.Omega.{arith}
use lib.ListN.{length, get_or}
use Rattle.trellis.specs.Lists.{up_to, tab}
use Rattle.trellis.specs.Field.{quotient}
use Rattle.trellis.specs.Display.{displayed}
use Rattle.trellis.proofs.Loops.{map-tab, tab_ext}
use Rattle.division.specs.Numbers.{quotient_or}
use Rattle.division.proofs.Quotients.{quotient_is}
use Rattle.display.specs.inner.Showing.{ShowRoom}

abbrev pub divided_at : ℕ → List ℕ → List ℕ → ℕ → ℕ
divided_at p ws r n = quotient_or p (get_or ws n 0) (get_or r n 0)

pub shown_done : (p : ℕ) (ws r d out : List ℕ) → ShowRoom p ws r d → out ≡ tab (divided_at p ws r) (length d) → out ≡ displayed p ws r
unfolding displayed
shown_done p ws r d out R o =
    let q : ℕ → ℕ = λ n. quotient p (get_or ws n 0) (get_or r n 0) in
    let a : tab (divided_at p ws r) (length d) ≡ tab q (length d) =
    tab_ext (divided_at p ws r) q (length d) (λ n l. quotient_is p (get_or ws n 0) (get_or r n 0) (R.divides n (omega (arith, R.room)))) in
    let m : map q (up_to (length ws)) ≡ tab q (length ws) = map-tab q 0 (length ws) ∙ tab_ext (λ j. q (0 + j)) q (length ws) (λ j h. ap q (zero-add j)) in
    o ∙ a ∙ ap (tab q) R.room ∙ sym m
