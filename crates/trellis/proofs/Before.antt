-- What the least degree changes and what it leaves: not every column stands above E, so of two columns at most one does; and where the degree
-- exceeds k the record is what it was with E over all columns.
use mathlib.Core.Path.{◌≡◌, ap}
use mathlib.Core.Bool.{Bool, true, false, cond}
use mathlib.Core.List.{List, ◌∷◌, ◌++◌}
use Prim.Native.Nat.{ℕ, zero, suc, ◌+◌, ◌-◌, ◌≤◌, ◌<◌}
use native.Mathlib.Decide.{ℕ_discrete}
use native.Mathlib.Omega.{arith}
use lib.Dec.{ltb}
use lib.ListN.{length}
use borrow.Author.Tests.{le-ltb}
use Rattle.trellis.specs.Lists.{keep, count_from}
use Rattle.trellis.specs.Check.{Rule, Column, sent_at, extra}
use Rattle.trellis.specs.Record.{above, group, record_of, shifts}
use Rattle.trellis.specs.Before.{above_of_all, group_of_all, record_of_all}
use Rattle.trellis.proofs.Lists.{of_count}
use Rattle.trellis.proofs.Sent.{Proper, extra-sent, extra_of_all_lem}
use Rattle.trellis.proofs.Places.{each_ext}

keep-most : (f : ℕ → Bool) (m d : ℕ) → length (keep f (count_from m d)) ≤ d
keep-most f m zero = omega arith
keep-most f m (suc d) = go (f m) (keep-most f (suc m) d)
  where
    go : (b : Bool) → length (keep f (count_from (suc m) d)) ≤ d → length (cond b (m ∷ keep f (count_from (suc m) d)) (keep f (count_from (suc m) d))) ≤ suc d
    go true h = omega arith
    go false h = omega arith

keep-fewer : (f : ℕ → Bool) (m d n : ℕ) → m ≤ n → n < m + d → f n ≡ false → length (keep f (count_from m d)) < d
keep-fewer f m zero n h k e = absurd (omega arith)
keep-fewer f m (suc d) n h k e =
    elim (ℕ_discrete n m) [
      | yes i ↦ let g : f m ≡ false = rw i at e in rw g (omega (arith, keep-most f (suc m) d))
      | no i ↦ go (f m) (keep-fewer f (suc m) d n (omega arith) (omega arith) e)
    ]
  where
    go : (b : Bool) → length (keep f (count_from (suc m) d)) < d → length (cond b (m ∷ keep f (count_from (suc m) d)) (keep f (count_from (suc m) d))) < suc d
    go true h = omega arith
    go false h = omega arith

-- E is sent to a column, which is not above it
pub above-fewer : (R : Rule) (cs : List Column) → Proper R cs → (a : ℕ) → a < R.size → length (above R cs a) < length cs
unfolding above
above-fewer R cs P a h =
    let r = extra-sent R cs P a h in
    keep-fewer (λ n. ltb (extra R cs a) (sent_at R cs n a)) 0 (length cs) r.0 (omega arith) (omega (arith, r.1)) (le-ltb (extra R cs a) (sent_at R cs r.0 a) (omega (arith, r.2)))

-- "Records of degree 3 and up keep their bytes."
pub records-keep : (R : Rule) (cs : List Column) → Proper R cs → R.most < length cs → record_of_all R cs ≡ record_of R cs
unfolding record_of group above record_of_all group_of_all above_of_all
records-keep R cs P deep =
    ap (λ g. shifts R cs ++ g) (each_ext {f = group_of_all R cs} {g = group R cs} (λ a i. let h : a < R.size = omega (arith, of_count 1 (R.size - 1) a i, P.wide) in rw (extra_of_all_lem R cs P a h deep)))
