-- Columns in the order of their entries: those with fewer than s before them are the first s.
use mathlib.Core.Path.{◌≡◌, refl, sym, ap, ◌∙◌, subst}
use mathlib.Core.Bool.{Bool, true, false, cond}
use mathlib.Core.Logic.{⊎_elim}
use mathlib.Core.List.Memᴰ
use mathlib.Core.List.{List, [], ◌∷◌, Memᴰ}
use Prim.Native.Nat.{ℕ, zero, suc, ◌+◌, ◌*◌, ◌≤◌, ◌<◌}
use native.Mathlib.Nat.{not-suc-le-zero}
use native.Mathlib.Decide.{dec_lt}
use native.Mathlib.Omega.{arith}
use lib.Dec.{T}
use lib.ListN.{length, take}
use Rattle.trellis.specs.Lists.{keep}
use Rattle.trellis.specs.Rows.{before, insert, in_order}
use Rattle.trellis.proofs.Tests.{to_true}
use Rattle.trellis.proofs.Ranks.{before_key, key_before}

pub of_take : (s : ℕ) (l : List ℕ) {x : ℕ} → Memᴰ x (take s l) → Memᴰ x l
of_take zero l m = absurd (Memᴰ.not-nil m)
of_take (suc s) [] m = m
of_take (suc s) (y ∷ l) {x} m =
    ⊎_elim (λ (e : x ≡ y). Memᴰ.head e) (λ (k : Memᴰ x (take s l)). Memᴰ.tail (of_take s l k)) (Memᴰ.cases_cons m)

module _ (cost : ℕ → ℕ) where
  abbrev key : ℕ → ℕ
  key n = cost n * 256 + n

  Small : List ℕ → Type 0
  Small l = (x : ℕ) → Memᴰ x l → x < 256

  -- each is as cheap as all behind it, or cheaper
  data Rising : List ℕ → Type 0 where
    none : Rising []
    more : {x : ℕ} {l : List ℕ} → ((y : ℕ) → Memᴰ y l → key x ≤ key y) → Rising l → Rising (x ∷ l)

  of-insert : (n : ℕ) (l : List ℕ) {x : ℕ} → Memᴰ x (insert cost n l) → Memᴰ x (n ∷ l)
  of-insert n [] m = m
  of-insert n (k ∷ l) {x} m = go (before (cost n) n (cost k) k) m (of-insert n l)
    where
      go : (b : Bool) → Memᴰ x (cond b (n ∷ k ∷ l) (k ∷ insert cost n l)) → (Memᴰ x (insert cost n l) → Memᴰ x (n ∷ l)) → Memᴰ x (n ∷ k ∷ l)
      go true m below = m
      go false m below =
          ⊎_elim
          (λ (e : x ≡ k). Memᴰ.tail (Memᴰ.head e))
          (λ (i : Memᴰ x (insert cost n l)).
          ⊎_elim (λ (e : x ≡ n). Memᴰ.head e) (λ (j : Memᴰ x l). Memᴰ.tail (Memᴰ.tail j)) (Memᴰ.cases_cons (below i)))
          (Memᴰ.cases_cons m)

  in_insert : (n : ℕ) (l : List ℕ) {x : ℕ} → Memᴰ x (n ∷ l) → Memᴰ x (insert cost n l)
  in_insert n [] m = m
  in_insert n (k ∷ l) {x} m = go (before (cost n) n (cost k) k) (in_insert n l)
    where
      go : (b : Bool) → (Memᴰ x (n ∷ l) → Memᴰ x (insert cost n l)) → Memᴰ x (cond b (n ∷ k ∷ l) (k ∷ insert cost n l))
      go true below = m
      go false below =
          ⊎_elim
          (λ (e : x ≡ n). Memᴰ.tail (below (Memᴰ.head e)))
          (λ (i : Memᴰ x (k ∷ l)).
          ⊎_elim (λ (e : x ≡ k). Memᴰ.head e) (λ (j : Memᴰ x l). Memᴰ.tail (below (Memᴰ.tail j))) (Memᴰ.cases_cons i))
          (Memᴰ.cases_cons m)

  pub of_order : (l : List ℕ) {x : ℕ} → Memᴰ x (in_order cost l) → Memᴰ x l
  of_order [] m = m
  of_order (n ∷ l) {x} m =
      ⊎_elim (λ (e : x ≡ n). Memᴰ.head e) (λ (k : Memᴰ x (in_order cost l)). Memᴰ.tail (of_order l k)) (Memᴰ.cases_cons (of-insert n (in_order cost l) m))

  in_order_lem : (l : List ℕ) {x : ℕ} → Memᴰ x l → Memᴰ x (in_order cost l)
  in_order_lem [] m = m
  in_order_lem (n ∷ l) {x} m =
      in_insert n (in_order cost l)
      (⊎_elim (λ (e : x ≡ n). Memᴰ.head e) (λ (k : Memᴰ x l). Memᴰ.tail (in_order_lem l k)) (Memᴰ.cases_cons m))

  -- as many as there were, and as many that pass a test
  length-insert : (n : ℕ) (l : List ℕ) → length (insert cost n l) ≡ suc (length l)
  length-insert n [] = refl
  length-insert n (k ∷ l) = go (before (cost n) n (cost k) k) (length-insert n l)
    where
      go : (b : Bool) → length (insert cost n l) ≡ suc (length l) → length (cond b (n ∷ k ∷ l) (k ∷ insert cost n l)) ≡ suc (suc (length l))
      go true e = refl
      go false e = ap suc e

  pub length_order : (l : List ℕ) → length (in_order cost l) ≡ length l
  length_order [] = refl
  length_order (n ∷ l) = length-insert n (in_order cost l) ∙ ap suc (length_order l)

  count-insert : (p : ℕ → Bool) (n : ℕ) (l : List ℕ) → length (keep p (insert cost n l)) ≡ length (keep p (n ∷ l))
  count-insert p n [] = refl
  count-insert p n (k ∷ l) = go (before (cost n) n (cost k) k) (count-insert p n l)
    where
      turned : (a b : Bool) → length (keep p (insert cost n l)) ≡ length (cond a (n ∷ keep p l) (keep p l))
          → length (cond b (k ∷ keep p (insert cost n l)) (keep p (insert cost n l))) ≡ length (cond a (n ∷ cond b (k ∷ keep p l) (keep p l)) (cond b (k ∷ keep p l) (keep p l)))
      turned true true e = ap suc e
      turned true false e = e
      turned false true e = ap suc e
      turned false false e = e

      go : (b : Bool) → length (keep p (insert cost n l)) ≡ length (keep p (n ∷ l)) → length (keep p (cond b (n ∷ k ∷ l) (k ∷ insert cost n l))) ≡ length (keep p (n ∷ k ∷ l))
      go true e = refl
      go false e = turned (p n) (p k) e

  count-order : (p : ℕ → Bool) (l : List ℕ) → length (keep p (in_order cost l)) ≡ length (keep p l)
  count-order p [] = refl
  count-order p (n ∷ l) = count-insert p n (in_order cost l) ∙ again (p n) (count-order p l)
    where
      again : (b : Bool) → length (keep p (in_order cost l)) ≡ length (keep p l)
          → length (cond b (n ∷ keep p (in_order cost l)) (keep p (in_order cost l))) ≡ length (cond b (n ∷ keep p l) (keep p l))
      again true e = ap suc e
      again false e = e

  rising-insert : (n : ℕ) (l : List ℕ) → n < 256 → Small l → Rising l → Rising (insert cost n l)
  unfolding Small
  rising-insert n [] h s none = more (λ y m. absurd (Memᴰ.not-nil m)) none
  rising-insert n (k ∷ l) h s (more low r) = go (before (cost n) n (cost k) k) refl (rising-insert n l h (λ x m. s x (Memᴰ.tail m)) r)
    where
      u : k < 256
      u = s k (Memᴰ.head refl)

      go : (b : Bool) → before (cost n) n (cost k) k ≡ b → Rising (insert cost n l) → Rising (cond b (n ∷ k ∷ l) (k ∷ insert cost n l))
      go true e below =
          let first : key n < key k = before_key (cost n) n (cost k) k h u (rw e tt) in
          more {x = n}
          (λ y m. ⊎_elim (λ (q : y ≡ k). rw q (omega (arith, first))) (λ (i : Memᴰ y l). omega (arith, first, low y i)) (Memᴰ.cases_cons m))
          (more low r)
      go false e below =
          let first : key k ≤ key n =
          elim (dec_lt (key n) (key k)) [
            | yes q ↦ absurd (rw e at (key_before (cost n) n (cost k) k h u q))
            | no q ↦ omega arith
          ] in
          more {x = k} (λ y m. ⊎_elim (λ (q : y ≡ n). rw q first) (λ (i : Memᴰ y l). low y i) (Memᴰ.cases_cons (of-insert n l m))) below

  rising-order : (l : List ℕ) → Small l → Rising (in_order cost l)
  unfolding Small
  rising-order [] s = none
  rising-order (n ∷ l) s =
      rising-insert n (in_order cost l) (s n (Memᴰ.head refl)) (λ x m. s x (Memᴰ.tail (of_order l m))) (rising-order l (λ x m. s x (Memᴰ.tail m)))

  in_take : (s : ℕ) {l : List ℕ} {x : ℕ} → Rising l → Small l → Memᴰ x l → length (keep (λ y. before (cost y) y (cost x) x) l) < s → Memᴰ x (take s l)
  unfolding Small
  in_take s none small m h = absurd (Memᴰ.not-nil m)
  in_take zero (more low r) small m h = absurd (not-suc-le-zero h)
  in_take (suc s) {x = x} (more {x = y} {l = l} low r) small m h =
      ⊎_elim
      (λ (e : x ≡ y). Memᴰ.head e)
      (λ (i : Memᴰ x l).
      let u : x < 256 = small x m in
      let v : y < 256 = small y (Memᴰ.head refl) in
      elim (dec_lt (key y) (key x)) [
        | yes q ↦
            let b = to_true (key_before (cost y) y (cost x) x v u q) in
            Memᴰ.tail (in_take s r (λ z j. small z (Memᴰ.tail j)) i (less (before (cost y) y (cost x) x) b h))
        | no q ↦ Memᴰ.head (same (cost x) (cost y) x y u v (omega (arith, q, low x i)))
      ])
      (Memᴰ.cases_cons m)
    where
      less : (b : Bool) → b ≡ true → length (cond b (y ∷ keep (λ z. before (cost z) z (cost x) x) l) (keep (λ z. before (cost z) z (cost x) x) l)) < suc s
          → length (keep (λ z. before (cost z) z (cost x) x) l) < s
      less true e h = omega arith
      less false e h = absurd (subst T (sym e) tt)

      same : (c d x y : ℕ) → x < 256 → y < 256 → c * 256 + x ≡ d * 256 + y → x ≡ y
      same c d x y h k e = omega arith

  -- a column with fewer than s before it is among the first s
  pub in_first : (s : ℕ) (l : List ℕ) {x : ℕ} → ((y : ℕ) → Memᴰ y l → y < 256) → Memᴰ x l → length (keep (λ y. before (cost y) y (cost x) x) l) < s
      → Memᴰ x (take s (in_order cost l))
  unfolding Small
  in_first s l {x} small m h =
      in_take s (rising-order l small) (λ y k. small y (of_order l k)) (in_order_lem l m) (omega (arith, count-order (λ y. before (cost y) y (cost x) x) l, h))
