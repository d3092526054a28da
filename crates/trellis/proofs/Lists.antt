-- Membership in the lists of specs/Check.antt: keep, each, up_to, smallest.
use mathlib.Core.Path.{◌≡◌, refl}
use mathlib.Core.Bool.{Bool, true, false, cond}
use mathlib.Core.Logic.{◌⊎◌, inl, inr, ⊎_elim}
use mathlib.Core.List.Memᴰ
use mathlib.Core.List.{List, [], ◌∷◌, foldr, Memᴰ}
use Prim.Native.Nat.{ℕ, zero, suc, ◌+◌, ◌≤◌, ◌<◌, min}
use native.Mathlib.Decide.{dec_le}
use native.Mathlib.Omega.{arith}
use lib.Dec.{T}
use Rattle.trellis.specs.Lists.{keep, each, count_from, up_to, smallest}

module _ {A : Type 0} (p : A → Bool) where
  pub of_keep : (l : List A) {x : A} → Memᴰ x (keep p l) → Memᴰ x l × T (p x)
  of_keep [] m = absurd (Memᴰ.not-nil m)
  of_keep (y ∷ l) {x} m = go (p y) refl (of_keep l) m
    where
      go : (b : Bool) → p y ≡ b → (Memᴰ x (keep p l) → Memᴰ x l × T (p x)) → Memᴰ x (cond b (y ∷ keep p l) (keep p l)) → Memᴰ x (y ∷ l) × T (p x)
      go false e below m = (Memᴰ.tail (below m).0, (below m).1)
      go true e below m =
          ⊎_elim (λ (h : x ≡ y). (Memᴰ.head h, rw (h, e) tt)) (λ (h : Memᴰ x (keep p l)). (Memᴰ.tail (below h).0, (below h).1)) (Memᴰ.cases_cons m)

  pub in_keep : {x : A} {l : List A} → Memᴰ x l → T (p x) → Memᴰ x (keep p l)
  in_keep {x = x} (Memᴰ.head {x = y} {xs = l} e) t = go (p y) (rw e at t)
    where
      go : (b : Bool) → T b → Memᴰ x (cond b (y ∷ keep p l) (keep p l))
      go true t = Memᴰ.head e
      go false t = absurd t
  in_keep {x = x} (Memᴰ.tail {x = y} {xs = l} m) t = go (p y) (in_keep m t)
    where
      go : (b : Bool) → Memᴰ x (keep p l) → Memᴰ x (cond b (y ∷ keep p l) (keep p l))
      go true m = Memᴰ.tail m
      go false m = m

module _ {A B : Type 0} (f : A → List B) where
  pub in_each : {x : A} {l : List A} {y : B} → Memᴰ x l → Memᴰ y (f x) → Memᴰ y (each f l)
  in_each (Memᴰ.head {xs = l} e) m = Memᴰ.append_left (each f l) (rw e at m)
  in_each (Memᴰ.tail {x = z} e) m = Memᴰ.append_right (f z) (in_each e m)

  pub of_each : (l : List A) {y : B} → Memᴰ y (each f l) → (x : A) × Memᴰ x l × Memᴰ y (f x)
  of_each [] m = absurd (Memᴰ.not-nil m)
  of_each (z ∷ l) {y} m = go (of_each l) (Memᴰ.append_cases (f z) m)
    where
      go : (Memᴰ y (each f l) → (x : A) × Memᴰ x l × Memᴰ y (f x)) → Memᴰ y (f z) ⊎ Memᴰ y (each f l) → (x : A) × Memᴰ x (z ∷ l) × Memᴰ y (f x)
      go below (inl h) = (z, Memᴰ.head refl, h)
      go below (inr h) = let r = below h in (r.0, Memᴰ.tail r.1, r.2)

pub in_count : (i n x : ℕ) → i ≤ x → x < i + n → Memᴰ x (count_from i n)
in_count i zero x h k = absurd (omega arith)
in_count i (suc n) x h k =
    elim (dec_le x i) [
      | yes e ↦ Memᴰ.head {x = i} (omega arith)
      | no e ↦ Memᴰ.tail (in_count (suc i) n x (omega arith) (omega arith))
    ]

pub of_count : (i n x : ℕ) → Memᴰ x (count_from i n) → (i ≤ x) × (x < i + n)
of_count i zero x m = absurd (Memᴰ.not-nil m)
of_count i (suc n) x m = ⊎_elim (λ (h : x ≡ i). omega arith) (λ (h : Memᴰ x (count_from (suc i) n)). omega (arith, of_count (suc i) n x h)) (Memᴰ.cases_cons m)

pub in_up_to : {n x : ℕ} → x < n → Memᴰ x (up_to n)
in_up_to {n} {x} h = in_count 0 n x (omega arith) (omega arith)

pub of_up_to : {n x : ℕ} → Memᴰ x (up_to n) → x < n
of_up_to {n} {x} m = omega (arith, of_count 0 n x m)

fold_le₀ : (x : ℕ) (l : List ℕ) → foldr min x l ≤ x
fold_le₀ x [] = omega arith
fold_le₀ x (z ∷ l) = omega (arith, fold_le₀ x l)

fold_le : (x : ℕ) (l : List ℕ) {y : ℕ} → Memᴰ y l → foldr min x l ≤ y
fold_le x [] m = absurd (Memᴰ.not-nil m)
fold_le x (z ∷ l) {y} m = ⊎_elim (λ (h : y ≡ z). omega arith) (λ (h : Memᴰ y l). omega (arith, fold_le x l h)) (Memᴰ.cases_cons m)

fold_in : (x : ℕ) (l : List ℕ) → Memᴰ (foldr min x l) (x ∷ l)
fold_in x [] = Memᴰ.head refl
fold_in x (z ∷ l) = go (foldr min x l) (dec_le z (foldr min x l)) (Memᴰ.cases_cons (fold_in x l))
  where
    go : (m : ℕ) → Dec (z ≤ m) → (m ≡ x) ⊎ Memᴰ m l → Memᴰ (min z m) (x ∷ z ∷ l)
    go m (yes h) r = Memᴰ.tail (Memᴰ.head {x = z} (omega arith))
    go m (no h) (inl e) = Memᴰ.head {x = x} (omega arith)
    go m (no h) (inr k) = Memᴰ.tail (Memᴰ.tail (Memᴰ.cast {b = m} (omega arith) k))

pub smallest_le : {l : List ℕ} {y : ℕ} → Memᴰ y l → smallest l ≤ y
smallest_le (Memᴰ.head {x = x} {xs = l} e) = omega (arith, fold_le₀ x l)
smallest_le (Memᴰ.tail {x = x} {xs = l} m) = fold_le x l m

pub smallest_in : {l : List ℕ} {y : ℕ} → Memᴰ y l → Memᴰ (smallest l) l
smallest_in (Memᴰ.head {x = x} {xs = l} e) = fold_in x l
smallest_in (Memᴰ.tail {x = x} {xs = l} m) = fold_in x l
