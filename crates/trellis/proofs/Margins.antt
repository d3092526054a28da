-- A decision's margin: the least of the other costs, where one cost is 0; 0 exactly where another symbol ties. And both as loops find them.
use mathlib.Core.Path.{◌≡◌, refl, sym, ap, ◌∙◌}
use mathlib.Core.Logic.{◌≢◌, ◌⊎◌, inl, inr, ⊎_elim, ◌↔◌}
use mathlib.Core.List.{List, [], ◌∷◌, Memᴰ}
use Prim.Native.Nat.{ℕ, zero, suc, ◌<◌, ◌≤◌, min}
use native.Mathlib.Nat.{not-suc-le-zero}
use native.Mathlib.Decide.{ℕ_discrete, dec_le}
use native.Mathlib.Omega.{arith}
use lib.ListN.{length, get_or, drop}
use lib.Seq.{drop-cons, drop-length}
use lib.Dec.{eqb, ltb}
use borrow.Author.Tests.{eq-eqb, ne_eqb, le-ltb}
use Rattle.trellis.specs.Lists.{others, smallest, pick}
use Rattle.trellis.specs.Check.{first_zero, margin_of}
use Rattle.trellis.specs.inner.Margins.{least_but, margin_at}
use Rattle.trellis.proofs.Lists.{smallest_le, smallest_in}

-- the members other than the one at place n
pub others-at : (l : List ℕ) (n x : ℕ) → x < length l → x ≢ n → Memᴰ (get_or l x 0) (others n l)
others-at [] n x h e = absurd (not-suc-le-zero h)
others-at (y ∷ l) zero zero h e = absurd (e refl)
others-at (y ∷ l) zero (suc x) h e = member l x (omega arith)
  where
    member : (l : List ℕ) (x : ℕ) → x < length l → Memᴰ (get_or l x 0) l
    member [] x h = absurd (not-suc-le-zero h)
    member (y ∷ l) zero h = mathlib.Core.List.Memᴰ.head refl
    member (y ∷ l) (suc x) h = mathlib.Core.List.Memᴰ.tail (member l x (omega arith))
others-at (y ∷ l) (suc n) zero h e = mathlib.Core.List.Memᴰ.head refl
others-at (y ∷ l) (suc n) (suc x) h e = mathlib.Core.List.Memᴰ.tail (others-at l n x (omega arith) (λ i. e (ap suc i)))

pub of_others : (l : List ℕ) (n : ℕ) {v : ℕ} → Memᴰ v (others n l) → (x : ℕ) × (x < length l) × (x ≢ n) × (get_or l x 0 ≡ v)
of_others [] n m = absurd (mathlib.Core.List.Memᴰ.not-nil m)
of_others (y ∷ l) zero m = let r = place l m in (suc r.0, omega (arith, r.1), λ e. omega arith, r.2)
  where
    place : (l : List ℕ) {v : ℕ} → Memᴰ v l → (x : ℕ) × (x < length l) × (get_or l x 0 ≡ v)
    place [] m = absurd (mathlib.Core.List.Memᴰ.not-nil m)
    place (y ∷ l) {v} m =
        ⊎_elim {C = (x : ℕ) × (x < length (y ∷ l)) × (get_or (y ∷ l) x 0 ≡ v)} (λ (e : v ≡ y). (0, omega arith, sym e)) (λ (k : Memᴰ v l). let r = place l k in (suc r.0, omega (arith, r.1), r.2)) (mathlib.Core.List.Memᴰ.cases_cons m)
of_others (y ∷ l) (suc n) {v} m =
    ⊎_elim (λ (e : v ≡ y). (0, omega arith, λ i. omega arith, sym e))
    (λ (k : Memᴰ v (others n l)). let r = of_others l n k in (suc r.0, omega (arith, r.1), λ i. r.2 (omega arith), r.3)) (mathlib.Core.List.Memᴰ.cases_cons m)

but_le : (b : ℕ) (l : List ℕ) (z n x : ℕ) → x < n → x ≢ z → least_but b l z n ≤ get_or l x 0
unfolding least_but
but_le b l z zero x h e = absurd (not-suc-le-zero h)
but_le b l z (suc n) x h e =
    elim (ℕ_discrete x n) [
      | yes i ↦ let k : pick (eqb n z) b (get_or l n 0) ≡ get_or l n 0 = simp (ne_eqb n z (λ j. e (i ∙ j))) in rw i (omega (arith, k))
      | no i ↦ omega (arith, but_le b l z n x (omega arith) e)
    ]

but_in : (b : ℕ) (l : List ℕ) (z n : ℕ) → (least_but b l z n ≡ b) ⊎ ((x : ℕ) × (x < n) × (x ≢ z) × (get_or l x 0 ≡ least_but b l z n))
unfolding least_but
but_in b l z zero = inl refl
but_in b l z (suc n) = go (but_in b l z n) (ℕ_discrete n z)
  where
    a : ℕ
    a = least_but b l z n

    v : ℕ
    v = pick (eqb n z) b (get_or l n 0)

    go : (a ≡ b) ⊎ ((x : ℕ) × (x < n) × (x ≢ z) × (get_or l x 0 ≡ a)) → Dec (n ≡ z) → (min a v ≡ b) ⊎ ((x : ℕ) × (x < suc n) × (x ≢ z) × (get_or l x 0 ≡ min a v))
    go r (yes e) =
        let k : v ≡ b = simp (eq-eqb n z e) in
        ⊎_elim (λ (i : a ≡ b). inl (omega (arith, k))) (λ i. elim (dec_le a b) [ yes h ↦ inr (i.0, omega (arith, i.1), i.2, omega (arith, i.3, k)) | no h ↦ inl (omega (arith, k)) ]) r
    go r (no e) =
        let k : v ≡ get_or l n 0 = simp (ne_eqb n z e) in
        elim (dec_le a v) [
          | yes h ↦ ⊎_elim (λ (i : a ≡ b). inl (omega arith)) (λ i. inr (i.0, omega (arith, i.1), i.2, omega (arith, i.3))) r
          | no h ↦ inr (n, omega arith, e, omega (arith, k))
        ]

module _ (l : List ℕ) (two : 2 ≤ length l) where
  -- some other symbol
  some-other : (z : ℕ) → (v : ℕ) × Memᴰ v (others z l)
  some-other z =
      elim (ℕ_discrete z 0) [
        | yes e ↦ (get_or l 1 0, others-at l z 1 (omega arith) (omega arith))
        | no e ↦ (get_or l 0 0, others-at l z 0 (omega arith) (λ i. e (sym i)))
      ]

  pub least_but_lem : (b : ℕ) → ((x : ℕ) → get_or l x 0 ≤ b) → (z : ℕ) → least_but b l z (length l) ≡ smallest (others z l)
  least_but_lem b small z =
      let r = of_others l z (smallest_in (some-other z).1) in
      let up : least_but b l z (length l) ≤ smallest (others z l) = omega (arith, but_le b l z (length l) r.0 r.1 r.2, r.3) in
      ⊎_elim (λ (e : least_but b l z (length l) ≡ b). omega (arith, small r.0, r.3))
      (λ i. omega (arith, smallest_le (others-at l z i.0 i.1 i.2), i.3)) (but_in b l z (length l))

  module _ (has_zero : Memᴰ 0 l) where
    least-none : smallest l ≡ 0
    least-none = omega (arith, smallest_le has_zero)

    -- where a cost is 0 the margin is the least of the others
    pub margin-others : margin_of l ≡ smallest (others (first_zero l) l)
    unfolding margin_of
    margin-others = omega (arith, least-none)

    pub margin-least : (x : ℕ) → x < length l → x ≢ first_zero l → margin_of l ≤ get_or l x 0
    margin-least x h e = omega (arith, margin-others, smallest_le (others-at l (first_zero l) x h e))

    pub margin-attained : (x : ℕ) × (x < length l) × (x ≢ first_zero l) × (get_or l x 0 ≡ margin_of l)
    margin-attained =
        let r = of_others l (first_zero l) (smallest_in (some-other (first_zero l)).1) in
        (r.0, r.1, r.2, r.3 ∙ sym margin-others)

    -- "a tie has margin 0", and nothing else has
    pub margin-tie : (margin_of l ≡ 0) ↔ ((x : ℕ) × (x < length l) × (x ≢ first_zero l) × (get_or l x 0 ≡ 0))
    margin-tie = (
      λ e. let r = margin-attained in (r.0, r.1, r.2, r.3 ∙ e),
      λ t. omega (arith, margin-least t.0 t.1 t.2, t.3),
    )

    pub margin-small : (b : ℕ) → ((x : ℕ) → get_or l x 0 ≤ b) → margin_of l ≤ b
    margin-small b small = let r = margin-attained in omega (arith, small r.0, r.3)

    -- with a margin above 0 the decision is the only symbol of least cost
    pub margin-only : 0 < margin_of l → (x : ℕ) → x < length l → get_or l x 0 ≡ 0 → x ≡ first_zero l
    margin-only h x i e =
        elim (ℕ_discrete x (first_zero l)) [
          | yes k ↦ k
          | no k ↦ absurd (omega (arith, margin-least x i k))
        ]

-- the search for the first 0, from a place on
first-later : (x : ℕ) (l : List ℕ) → (x ≡ 0 → ⊥) → first_zero (x ∷ l) ≡ suc (first_zero l)
first-later zero l n = absurd (n refl)
first-later (suc x) l n = refl

pub zero_here : (s : List ℕ) (i : ℕ) → i < length s → get_or s i 0 ≡ 0 → first_zero (drop i s) ≡ 0
zero_here s i h e = rw (drop-cons s i 0 h, e)

pub zero-later : (s : List ℕ) (i : ℕ) → i < length s → (get_or s i 0 ≡ 0 → ⊥) → first_zero (drop i s) ≡ suc (first_zero (drop (suc i) s))
zero-later s i h n = ap first_zero (drop-cons s i 0 h) ∙ first-later (get_or s i 0) (drop (suc i) s) n

pub zero-none : (s : List ℕ) → first_zero (drop (length s) s) ≡ 0
zero-none s = rw (drop-length s)

-- a search ends with the list at the latest, and before that with a 0
pub first-most : (l : List ℕ) → first_zero l ≤ length l
first-most [] = omega arith
first-most (zero ∷ l) = omega arith
first-most (suc x ∷ l) = omega (arith, first-most l)

pub first_member : (l : List ℕ) → first_zero l < length l → Memᴰ 0 l
first_member [] h = absurd (not-suc-le-zero h)
first_member (zero ∷ l) h = mathlib.Core.List.Memᴰ.head refl
first_member (suc x ∷ l) h = mathlib.Core.List.Memᴰ.tail (first_member l (omega arith))

single : (b : ℕ) (l : List ℕ) (z : ℕ) → length l < 2 → margin_at b l z ≡ margin_of l
unfolding margin_of margin_at
single b [] z k = refl
single b (zero ∷ []) z k = refl
single b (suc x ∷ []) z k = omega arith
single b (x ∷ y ∷ l) z k = absurd (omega arith)

-- where the search ends, the loop over the other costs gives the margin; a single cost has none, and margin 0
pub margin_found : (b : ℕ) (l : List ℕ) → ((x : ℕ) → get_or l x 0 ≤ b) → (z : ℕ) → z ≡ first_zero l → z < length l → margin_at b l z ≡ margin_of l
unfolding margin_at
margin_found b l small z e h = elim (dec_le 2 (length l)) [ yes k ↦ more k | no k ↦ single b l z (omega (arith, k)) ]
  where
    more : 2 ≤ length l → pick (ltb (length l) 2) 0 (least_but b l z (length l)) ≡ margin_of l
    more k =
        simp (le-ltb (length l) 2 k)
        (rw e (least_but_lem l k b small (first_zero l) ∙ sym (margin-others l k (first_member l (omega (arith, e, h))))))

-- no cost of 0: nothing is left out, and the margin is 0
pub margin-none : (l : List ℕ) → first_zero l ≡ length l → margin_of l ≡ 0
unfolding margin_of
margin-none l e = let h : others (first_zero l) l ≡ l = ap (λ n. others n l) e ∙ all l in rw h (omega arith)
  where
    all : (l : List ℕ) → others (length l) l ≡ l
    all [] = refl
    all (x ∷ l) = ap (λ r. x ∷ r) (all l)
