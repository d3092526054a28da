-- The bytes of each a from the sent costs: E is the least of them, and the pairs are those of the columns above it.
use mathlib.Core.Path.{◌≡◌, refl, ap, ap₂, ◌∙◌}
use mathlib.Core.Bool.{Bool, true, false, cond}
use mathlib.Core.List.{List, [], ◌∷◌, ◌++◌}
use Prim.Native.Nat.{ℕ, zero, suc, ◌+◌, ◌-◌, ◌≤◌, ◌<◌, min}
use native.Mathlib.Nat.{zero-add}
use native.Mathlib.Decide.{ℕ_discrete}
use native.Mathlib.Omega.{arith}
use lib.Dec.{ltb}
use lib.ListN.{length}
use Rattle.trellis.specs.Lists.{pick, blocks, each, keep, up_to}
use Rattle.trellis.specs.Check.{Rule, Column, sent_at, extra}
use Rattle.trellis.specs.Record.{above, group}
use Rattle.trellis.proofs.Places.{length-each}
use Rattle.trellis.proofs.Loops.{blocks_ext, each-blocks}
use Rattle.trellis.proofs.Sent.{Proper, extra-sent, extra_le, above-few}
use Rattle.sweep.specs.inner.Groups.{lowest_to, pair_above, pair_count, unused_pair, group_by}
use Rattle.sweep.proofs.Grouping.{pair_length}

-- the least of bytes
lowest_le : (f : ℕ → ℕ) (n j : ℕ) → j < n → lowest_to f n ≤ f j
lowest_le f zero j h = absurd (omega arith)
lowest_le f (suc n) j h =
    elim (ℕ_discrete j n) [
      | yes e ↦ rw e (omega arith)
      | no e ↦ omega (arith, lowest_le f n j (omega arith))
    ]

lowest_over : (f : ℕ → ℕ) (n m : ℕ) → m ≤ 255 → ((j : ℕ) → j < n → m ≤ f j) → m ≤ lowest_to f n
lowest_over f zero m h k = h
lowest_over f (suc n) m h k = omega (arith, lowest_over f n m h (λ j l. k j (omega arith)), k n (omega arith))

pub lowest_ext : (f g : ℕ → ℕ) (n : ℕ) → ((j : ℕ) → j < n → f j ≡ g j) → lowest_to f n ≡ lowest_to g n
lowest_ext f g zero h = refl
lowest_ext f g (suc n) h = ap₂ min (lowest_ext f g n (λ j l. h j (omega arith))) (h n (omega arith))

pub count_ext : (e : ℕ) (f g : ℕ → ℕ) (n : ℕ) → ((j : ℕ) → j < n → f j ≡ g j) → pair_count e f n ≡ pair_count e g n
count_ext e f g zero h = refl
count_ext e f g (suc n) h = ap₂ (λ s c. pick (ltb e s) (c + 1) c) (h n (omega arith)) (count_ext e f g n (λ j l. h j (omega arith)))

pub group_ext : (k d : ℕ) (f g : ℕ → ℕ) → ((j : ℕ) → j < d → f j ≡ g j) → group_by k d f ≡ group_by k d g
unfolding group_by
group_ext k d f g h =
    let e = lowest_ext f g d h in
    rw (e, count_ext (lowest_to g d) f g d h)
    (ap {B = List ℕ} (λ l. lowest_to g d ∷ (l ++ blocks unused_pair (k - pair_count (lowest_to g d) g d))) (blocks_ext _ _ d (λ j l. ap (λ s. pick (ltb (lowest_to g d) s) (j ∷ s ∷ []) []) (h j l))))

-- the kept ones of a list, as blocks
each_keep : (f : ℕ → List ℕ) (p : ℕ → Bool) (l : List ℕ) → each f (keep p l) ≡ each (λ n. pick (p n) (f n) []) l
each_keep f p [] = refl
each_keep f p (x ∷ l) = go (p x) (each_keep f p l)
  where
    go : (b : Bool) → each f (keep p l) ≡ each (λ n. pick (p n) (f n) []) l → each f (cond b (x ∷ keep p l) (keep p l)) ≡ pick b (f x) [] ++ each (λ n. pick (p n) (f n) []) l
    go true e = ap {B = List ℕ} (λ r. f x ++ r) e
    go false e = e

module _ (R : Rule) (cs : List Column) (P : Proper R cs) (a : ℕ) (small : a < R.size) (bytes : (n : ℕ) → n < length cs → sent_at R cs n a ≤ 255) where
  abbrev S : ℕ → ℕ
  S n = sent_at R cs n a

  -- E is the least of the S
  extra-lowest : extra R cs a ≡ lowest_to S (length cs)
  extra-lowest =
      let r = extra-sent R cs P a small in
      let n : ℕ = r.0 in
      let e : S n ≡ extra R cs a = r.2 in
      let u : lowest_to S (length cs) ≤ S n = lowest_le S (length cs) n r.1 in
      let v : extra R cs a ≤ lowest_to S (length cs) = lowest_over S (length cs) (extra R cs a) (omega (arith, e, bytes n r.1)) (λ j l. extra_le R cs P a small j l) in
      omega (arith, e, u, v)

  pairs-are : each (λ n. n ∷ S n ∷ []) (above R cs a) ≡ blocks (pair_above (extra R cs a) S) (length cs)
  unfolding above
  pairs-are = each_keep (λ n. n ∷ S n ∷ []) (λ n. ltb (extra R cs a) (S n)) (up_to (length cs)) ∙ each-blocks (pair_above (extra R cs a) S) 0 (length cs) ∙ blocks_ext _ _ (length cs) (λ j l. ap (pair_above (extra R cs a) S) (zero-add j))

  above-count : length (above R cs a) ≡ pair_count (extra R cs a) S (length cs)
  above-count = omega (arith, length-each (λ n. n ∷ S n ∷ []) 2 (above R cs a) (λ x. refl), ap length pairs-are, pair_length (extra R cs a) S (length cs))

  pub few-above : pair_count (lowest_to S (length cs)) S (length cs) ≤ R.most
  few-above = rw (← extra-lowest) (omega (arith, above-count, above-few R cs P a small))

  pub group_is : group R cs a ≡ group_by R.most (length cs) S
  unfolding group group_by
  group_is =
      ap₂ {C = List ℕ} (λ x y. extra R cs a ∷ (x ++ y)) pairs-are (each-blocks unused_pair 0 (R.most - length (above R cs a)) ∙ ap (λ c. blocks unused_pair (R.most - c)) above-count)
      ∙ ap (λ e. e ∷ (blocks (pair_above e S) (length cs) ++ blocks unused_pair (R.most - pair_count e S (length cs)))) extra-lowest
