-- The bytes of one a, listed from the rests of the costs sent, are those of the record.
use mathlib.Core.Path.{◌≡◌, refl, sym, ap, ap₂, ◌∙◌}
use mathlib.Core.Bool.{Bool, true, false, cond}
use mathlib.Core.List.{List, [], ◌∷◌, ◌++◌}
use Prim.Native.Nat.{ℕ, zero, suc, ◌+◌, ◌-◌, ◌*◌, ◌≤◌, ◌<◌, max}
use native.Mathlib.Nat.{zero-add, add-zero}
use native.Mathlib.Decide.{ℕ_discrete}
use native.Mathlib.Omega.{arith}
use lib.Dec.{ltb}
use lib.ListN.{length, length-append}
use borrow.Author.Tests.{lt-ltb, le-ltb}
use native.Mathlib.Decide.{dec_lt}
use Rattle.trellis.specs.Lists.{pick, blocks, each, keep, up_to}
use Rattle.trellis.specs.Check.{Rule, Column, sent_at, extra}
use Rattle.trellis.specs.Record.{above, group}
use Rattle.trellis.proofs.Places.{length-each}
use Rattle.trellis.proofs.Loops.{blocks_ext, blocks-front, each-blocks}
use Rattle.trellis.proofs.Sent.{Proper, extra-sent, extra_le, above-few}
use Rattle.engine.specs.inner.Rests.{most_to}
use Rattle.engine.specs.inner.Groups.{pushed, listed_column, listed_rest, listed_group}

pub most_ge : (f : ℕ → ℕ) (n j : ℕ) → j < n → f j ≤ most_to f n
most_ge f zero j h = absurd (omega arith)
most_ge f (suc n) j h =
    elim (ℕ_discrete j n) [
      | yes e ↦ rw e (omega arith)
      | no e ↦ omega (arith, most_ge f n j (omega arith))
    ]

pub most_le : (f : ℕ → ℕ) (n m : ℕ) → ((j : ℕ) → j < n → f j ≤ m) → most_to f n ≤ m
most_le f zero m k = omega arith
most_le f (suc n) m k = omega (arith, most_le f n m (λ j l. k j (omega arith)), k n (omega arith))

pub most_ext : (f g : ℕ → ℕ) (n : ℕ) → ((j : ℕ) → j < n → f j ≡ g j) → most_to f n ≡ most_to g n
most_ext f g zero h = refl
most_ext f g (suc n) h = ap₂ max (most_ext f g n (λ j l. h j (omega arith))) (h n (omega arith))

abbrev unused : ℕ → List ℕ
unused i = 0xFF ∷ 0x00 ∷ []

-- the pairs found in i turns
module _ (S : ℕ → ℕ) (e d : ℕ) where
  abbrev low : ℕ → Bool
  low n = ltb (S n) e

  abbrev pair_at : ℕ → List ℕ
  pair_at n = pick (low n) (n ∷ (255 - S n) ∷ []) []

  pub found : ℕ → List ℕ
  found zero = []
  found (suc i) = pair_at (d - suc i) ++ found i

  pub count : ℕ → ℕ
  count zero = 0
  count (suc i) = pick (low (d - suc i)) (suc (count i)) (count i)

  abbrev listed : ℕ → ℕ → List ℕ
  listed i j = listed_column S e d i j ∷ (255 - listed_rest S e d i j) ∷ []

  abbrev state : Bool → ℕ → ℕ → List ℕ
  state t i j = pushed t (d - suc i) (listed_column S e d i) j ∷ (255 - pushed t (S (d - suc i)) (listed_rest S e d i) j) ∷ []

  keeps : (i j : ℕ) → state false i j ≡ listed i j
  keeps i zero = refl
  keeps i (suc j) = refl

  turn : (i : ℕ) → ((k : ℕ) → count i ≤ k → blocks (listed i) k ≡ found i ++ blocks unused (k - count i)) → (t : Bool) (k : ℕ)
      → pick t (suc (count i)) (count i) ≤ k
      → blocks (state t i) k ≡ (pick t ((d - suc i) ∷ (255 - S (d - suc i)) ∷ []) [] ++ found i) ++ blocks unused
      (k - pick t (suc (count i)) (count i))
  turn i ih true zero h = absurd (omega arith)
  turn i ih true (suc k) h = blocks-front (state true i) k
      ∙ ap {B = List ℕ} (λ l. (d - suc i) ∷ (255 - S (d - suc i)) ∷ l)
      (ih k (omega arith) ∙ ap (λ y. found i ++ blocks unused y) (let q : k - count i ≡ suc k - suc (count i) = omega arith in q))
  turn i ih false k h = blocks_ext (state false i) (listed i) k (λ j l. keeps i j) ∙ ih k h

  listed-are : (i k : ℕ) → count i ≤ k → blocks (listed i) k ≡ found i ++ blocks unused (k - count i)
  unfolding listed_column listed_rest count found
  listed-are zero k h = ap (blocks unused) (let q : k ≡ k - 0 = omega arith in q)
  listed-are (suc i) k h = turn i (listed-are i) (low (d - suc i)) k h

  found-blocks : (i : ℕ) → i ≤ d → found i ≡ blocks (λ j. pair_at (d - i + j)) i
  unfolding found
  found-blocks zero h = refl
  found-blocks (suc i) h =
      sym (blocks-front (λ j. pair_at (d - suc i + j)) i
      ∙ ap₂ {C = List ℕ} (λ x y. x ++ y) (ap pair_at (add-zero (d - suc i)))
      (blocks_ext _ _ i (λ j l. ap pair_at (let q : d - suc i + suc j ≡ d - i + j = omega arith in q))
      ∙ sym (found-blocks i (omega arith))))

  pub found_all : found d ≡ blocks pair_at d
  found_all = found-blocks d (omega arith) ∙ blocks_ext _ _ d (λ j l. ap pair_at (let q : d - d + j ≡ j = omega arith in q))

  pub found_length : (i : ℕ) → length (found i) ≡ 2 * count i
  unfolding found count
  found_length zero = refl
  found_length (suc i) = length-append (pair_at (d - suc i)) (found i) ∙ go (low (d - suc i)) (found_length i)
    where
      go : (t : Bool) → length (found i) ≡ 2 * count i
          → length (pick t ((d - suc i) ∷ (255 - S (d - suc i)) ∷ []) []) + length (found i) ≡ 2 * pick t (suc (count i)) (count i)
      go true e = omega arith
      go false e = omega arith

each_keep : (f : ℕ → List ℕ) (p : ℕ → Bool) (l : List ℕ) → each f (keep p l) ≡ each (λ n. pick (p n) (f n) []) l
each_keep f p [] = refl
each_keep f p (x ∷ l) = go (p x) (each_keep f p l)
  where
    go : (b : Bool) → each f (keep p l) ≡ each (λ n. pick (p n) (f n) []) l
        → each f (cond b (x ∷ keep p l) (keep p l)) ≡ pick b (f x) [] ++ each (λ n. pick (p n) (f n) []) l
    go true e = ap {B = List ℕ} (λ r. f x ++ r) e
    go false e = e

module _ (R : Rule) (cs : List Column) (P : Proper R cs) (a : ℕ) (small : a < R.size)
    (bytes : (n : ℕ) → n < length cs → sent_at R cs n a ≤ 255) (S : ℕ → ℕ)
    (S-is : (n : ℕ) → n < length cs → S n ≡ 255 - sent_at R cs n a) where
  abbrev d : ℕ
  d = length cs

  abbrev E : ℕ
  E = most_to S d

  -- E is the least of the S_n, so its rest is the best of theirs
  extra-most : extra R cs a ≡ 255 - E
  extra-most =
      let r = extra-sent R cs P a small in
      let u = most_ge S d r.0 r.1 in
      let v = most_le S d (255 - extra R cs a) (λ j h. omega (arith, S-is j h, extra_le R cs P a small j h)) in
      omega (arith, u, v, S-is r.0 r.1, r.2, bytes r.0 r.1)

  same_test : (n : ℕ) → n < d → ltb (extra R cs a) (sent_at R cs n a) ≡ ltb (S n) E
  same_test n l =
      let e = S-is n l in
      let f = extra-most in
      let b = bytes n l in
      let g = most_le S d 255 (λ j h. omega (arith, S-is j h)) in
      elim (dec_lt (S n) E) [
        | yes h ↦ lt-ltb (extra R cs a) (sent_at R cs n a) (omega arith) ∙ sym (lt-ltb (S n) E h)
        | no h ↦ le-ltb (extra R cs a) (sent_at R cs n a) (omega arith) ∙ sym (le-ltb (S n) E (omega arith))
      ]

  pairs-are : each (λ n. n ∷ sent_at R cs n a ∷ []) (above R cs a) ≡ found S E d d
  unfolding above
  pairs-are =
      each_keep (λ n. n ∷ sent_at R cs n a ∷ []) (λ n. ltb (extra R cs a) (sent_at R cs n a)) (up_to d) ∙ each-blocks _ 0 d
      ∙ blocks_ext _ _ d (λ j l. rw (zero-add j)
      (ap₂ {C = List ℕ} (λ t s. pick t (j ∷ s ∷ []) []) (same_test j l)
      (let q : sent_at R cs j a ≡ 255 - S j = omega (arith, S-is j l, bytes j l) in q)))
      ∙ sym (found_all S E d)

  above-count : length (above R cs a) ≡ count S E d d
  above-count = omega (
    arith,
    length-each (λ n. n ∷ sent_at R cs n a ∷ []) 2 (above R cs a)
        (λ x. refl),
    ap length pairs-are,
    found_length S E d d,
  )

  -- the bytes of a, for any S that has the rests of the costs sent
  pub group_is : group R cs a ≡ listed_group R.most d S
  unfolding group listed_group
  group_is =
      ap₂ {C = List ℕ} (λ x y. extra R cs a ∷ (x ++ y)) pairs-are
      (each-blocks unused 0 (R.most - length (above R cs a)) ∙ ap (λ c. blocks unused (R.most - c)) above-count)
      ∙ ap₂ {C = List ℕ} (λ x y. x ∷ y) extra-most
      (sym (listed-are S E d d R.most (omega (arith, above-count, above-few R cs P a small))))
