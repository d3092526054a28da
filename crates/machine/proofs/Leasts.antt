-- The least of a loop is the smallest of the list that the definitions take it of.
use mathlib.Core.Path.{◌≡◌, refl, ap, ◌∙◌}
use mathlib.Core.Logic.{◌⊎◌, inl, inr}
use mathlib.Core.List.Memᴰ
use mathlib.Core.List.{map}
use Prim.Native.Nat.{ℕ, zero, suc, ◌+◌, ◌≤◌, ◌<◌, min}
use native.Mathlib.Nat.{zero-add}
use native.Mathlib.Decide.{dec_le, ℕ_discrete}
use native.Mathlib.Omega.{arith}
use Rattle.trellis.specs.Lists.{up_to, smallest, upto, tab}
use Rattle.trellis.proofs.Lists.{in_up_to, of_up_to, smallest_in, smallest_le}
use Rattle.trellis.proofs.Loops.{tab_ext, map-tab}

-- the least of a loop that starts with 1000
module _ (f : ℕ → ℕ) where
  abbrev least_to : ℕ → ℕ
  least_to n = upto (λ k a. min a (f k)) n 1000

  pub least_le : (n k : ℕ) → k < n → least_to n ≤ f k
  least_le zero k h = absurd (omega arith)
  least_le (suc n) k h =
      elim (ℕ_discrete k n) [
        | yes e ↦ rw e (omega arith)
        | no e ↦ omega (arith, least_le n k (omega arith))
      ]

  least_at : (n : ℕ) → ((k : ℕ) → f k ≤ 1000) → (least_to n ≡ 1000) ⊎ ((k : ℕ) × (k < n) × (least_to n ≡ f k))
  least_at zero b = inl refl
  least_at (suc n) b = at (dec_le (least_to n) (f n)) (least_at n b)
    where
      at : Dec (least_to n ≤ f n) → (least_to n ≡ 1000) ⊎ ((k : ℕ) × (k < n) × (least_to n ≡ f k)) → (min (least_to n) (f n) ≡ 1000) ⊎ ((k : ℕ) × (k < suc n) × (min (least_to n) (f n) ≡ f k))
      at (yes h) (inl e) = inl (omega arith)
      at (yes h) (inr r) = inr (r.0, omega (arith, r.1), omega (arith, r.2))
      at (no h) r = inr (n, omega arith, omega arith)

  pub smallest_loop : (n : ℕ) → 0 < n → ((k : ℕ) → f k ≤ 1000) → smallest (map f (up_to n)) ≡ least_to n
  smallest_loop n h b =
      let i = Memᴰ.of_map f (up_to n) (smallest_in (Memᴰ.map f (in_up_to h))) in
      let u : least_to n ≤ f i.0 = least_le n i.0 (of_up_to i.1) in
      let v : smallest (map f (up_to n)) ≤ least_to n = below (least_at n b) in
      omega (arith, i.2)
    where
      below : (least_to n ≡ 1000) ⊎ ((k : ℕ) × (k < n) × (least_to n ≡ f k)) → smallest (map f (up_to n)) ≤ least_to n
      below (inl e) = omega (arith, smallest_le (Memᴰ.map f (in_up_to h)), b 0)
      below (inr r) = omega (arith, smallest_le (Memᴰ.map f (in_up_to r.1)), r.2)

-- a list made from the numbers below n, as a loop makes it
pub up_to_tab : (f : ℕ → ℕ) (n : ℕ) → map f (up_to n) ≡ tab f n
up_to_tab f n = map-tab f 0 n ∙ tab_ext (λ j. f (0 + j)) f n (λ j h. ap f (zero-add j))
