-- Elements and parts of the lists that a record is made of.
use mathlib.Core.Path.{◌≡◌, refl, sym, ap, ap₂, ◌∙◌}
use mathlib.Core.Bool.{Bool, true, false, cond}
use mathlib.Core.List.{List, [], ◌∷◌, ◌++◌, map, Memᴰ}
use Prim.Native.Nat.{ℕ, zero, suc, ◌+◌, ◌*◌, ◌≤◌, ◌<◌}
use native.Mathlib.Nat.{not-suc-le-zero, le_of_suc-le-suc, mul-suc, mul-zero, add_comm}
use native.Mathlib.Omega.{arith}
use lib.Dec.{T, eqb, eqb→eq, eqb_refl}
use lib.ListN.{length, get_or, take, drop, length-append}
use lib.Seq.{take_at, drop-append-add}
use Rattle.trellis.specs.Lists.{keep, each, count_from}
use Rattle.trellis.specs.Record.{beside}

pub length-count : (i n : ℕ) → length (count_from i n) ≡ n
length-count i zero = refl
length-count i (suc n) = ap suc (length-count (suc i) n)

pub at-map-count : (f : ℕ → ℕ) (i n j e : ℕ) → j < n → get_or (map f (count_from i n)) j e ≡ f (i + j)
at-map-count f i zero j e h = absurd (not-suc-le-zero h)
at-map-count f i (suc n) zero e h = ap f (omega arith)
at-map-count f i (suc n) (suc j) e h = at-map-count f (suc i) n j e (le_of_suc-le-suc h) ∙ ap f (omega arith)

pub slice_each : (f : ℕ → List ℕ) (w i n j : ℕ) → ((m : ℕ) → i ≤ m → m < i + n → length (f m) ≡ w) → j < n
    → take w (drop (w * j) (each f (count_from i n))) ≡ f (i + j)
slice_each f w i zero j g h = absurd (not-suc-le-zero h)
slice_each f w i (suc n) zero g h = rw (mul-zero w) (take_at (f i) _ w (g i (omega arith) (omega arith)) ∙ ap f (omega arith))
slice_each f w i (suc n) (suc j) g h =
    rw (mul-suc w j, add_comm (w * j) w, ← g i (omega arith) (omega arith), drop-append-add (f i), g i (omega arith) (omega arith))
    (slice_each f w (suc i) n j (λ m a b. g m (omega arith) (omega arith)) (le_of_suc-le-suc h) ∙ ap f (omega arith))

pub length-each : {A : Type 0} (f : A → List ℕ) (w : ℕ) (l : List A) → ((x : A) → length (f x) ≡ w) → length (each f l) ≡ w * length l
length-each f w [] g = omega arith
length-each f w (x ∷ l) g = rw (length-append (f x), g x, length-each f w l g) (omega arith)

cond_true : {A : Type 0} (b : Bool) (x y : A) → T b → cond b x y ≡ x
cond_true true x y t = refl
cond_true false x y t = absurd t

cond_false : {A : Type 0} (b : Bool) (x y : A) → (T b → ⊥) → cond b x y ≡ y
cond_false true x y t = absurd (t tt)
cond_false false x y t = refl

module _ (S : ℕ → ℕ) (n e : ℕ) where
  abbrev pub pairs : List ℕ → List ℕ
  pairs = each (λ m. m ∷ S m ∷ [])

  pub beside_in_lem : {ns : List ℕ} (rest : List ℕ) → Memᴰ n ns → beside n e (pairs ns ++ rest) ≡ S n
  beside_in_lem rest (Memᴰ.head {x = m} q) = cond_true (eqb m n) _ _ (rw q (eqb_refl m)) ∙ ap S (sym q)
  beside_in_lem rest (Memᴰ.tail {x = m} {xs = ns} k) = go (eqb m n) refl (beside_in_lem rest k)
    where
      go : (b : Bool) → eqb m n ≡ b → beside n e (pairs ns ++ rest) ≡ S n → cond b (S m) (beside n e (pairs ns ++ rest)) ≡ S n
      go true q ih = ap S (eqb→eq m n (rw q tt))
      go false q ih = ih

  pub beside-out : (ns rest : List ℕ) → (Memᴰ n ns → ⊥) → beside n e (pairs ns ++ rest) ≡ beside n e rest
  beside-out [] rest h = refl
  beside-out (m ∷ ns) rest h = cond_false (eqb m n) _ _ (λ t. h (Memᴰ.head (sym (eqb→eq m n t)))) ∙ beside-out ns rest (λ k. h (Memᴰ.tail k))

  pub beside_pads : (l : List ℕ) → n < 255 → beside n e (each (λ i. 255 ∷ 0 ∷ []) l) ≡ e
  beside_pads [] h = refl
  beside_pads (i ∷ l) h = cond_false (eqb 255 n) _ _ (λ t. omega (arith, eqb→eq 255 n t)) ∙ beside_pads l h

-- two functions that agree on a list's members
pub map_ext : {A B : Type 0} {f g : A → B} {l : List A} → ((x : A) → Memᴰ x l → f x ≡ g x) → map f l ≡ map g l
map_ext {l = []} h = refl
map_ext {l = x ∷ l} h = ap₂ (λ y r. y ∷ r) (h x (Memᴰ.head refl)) (map_ext (λ y m. h y (Memᴰ.tail m)))

pub each_ext : {A B : Type 0} {f g : A → List B} {l : List A} → ((x : A) → Memᴰ x l → f x ≡ g x) → each f l ≡ each g l
each_ext {l = []} h = refl
each_ext {l = x ∷ l} h = ap₂ (λ y r. y ++ r) (h x (Memᴰ.head refl)) (each_ext (λ y m. h y (Memᴰ.tail m)))

pub keep_ext : {A : Type 0} {f g : A → Bool} {l : List A} → ((x : A) → Memᴰ x l → f x ≡ g x) → keep f l ≡ keep g l
keep_ext {l = []} h = refl
keep_ext {l = x ∷ l} h = ap₂ (λ b r. cond b (x ∷ r) r) (h x (Memᴰ.head refl)) (keep_ext (λ y m. h y (Memᴰ.tail m)))
