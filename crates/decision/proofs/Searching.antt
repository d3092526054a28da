-- The loops over a column's costs. The search for the smallest symbol of cost 0: the search's place plus the first zero of the rest is the
-- first zero of all. The loop over the others: the least of the costs so far; where the search ended it gives the margin.
use mathlib.Core.Path.{◌≡◌, ◌∙◌, sym, ap}
use mathlib.Core.Bool.{Bool, true, false}
use mathlib.Core.Logic.{◌≢◌}
use mathlib.Core.List.{List, map}
use Prim.Native.Nat.{ℕ, ◌+◌, ◌≤◌, ◌<◌, min}
use native.Mathlib.Numerals.{add-one}
use native.Mathlib.Decide.{ℕ_discrete, dec_le}
use native.Mathlib.Omega.{arith}
use lib.ListN.{length, drop, get_or}
use lib.Dec.{eqb}
use borrow.Author.Tests.{eqb-true, eqb-false, ne_eqb, lt-ltb, le-ltb}
use Rattle.std.proofs.lemmas.List.{get_or-map, get_or_past, length-map}
use Rattle.trellis.specs.Lists.{pick}
use Rattle.trellis.specs.Check.{first_zero, margin_of}
use Rattle.trellis.specs.inner.Margins.{least_but, margin_at}
use Rattle.trellis.proofs.Instances.{first-zero}
use Rattle.trellis.proofs.Margins.{zero_here, zero-later, zero-none, first_member, margin_found, margin-none}
use Rattle.decision.specs.Answers.{Decides}
use Rattle.decision.specs.inner.Bounds.{BoundedBut}

abbrev pub Searched : List ℕ → ℕ → Type 0
Searched l x = (x ≤ length l) × (first_zero l ≡ x + first_zero (drop x l))

-- the costs are read through a value f: a turn of the search and both its ends, and a turn of the loop over the others
module _ {A : Type 0} (f : A → ℕ) (xs : List A) where
  read : (x : ℕ) (y : A) → x < length xs → y ≡ get_or xs x y → get_or (map f xs) x 0 ≡ f y
  read x y h r = get_or-map f xs x y 0 h ∙ ap f (sym r)

  within : (x : ℕ) → x ≤ length (map f xs) → x ≢ length xs → (x < length xs) × (x < length (map f xs))
  within x i n = let e = length-map xs f in (omega (arith, e), omega (arith, e))

  pub search_none : (x : ℕ) → Searched (map f xs) x → x ≡ length xs → Decides (map f xs) record { symbol = x; margin = 0 }
  search_none x i h =
      let l = map f xs in
      let n : x ≡ length l = h ∙ sym (length-map xs f) in
      let z : first_zero (drop x l) ≡ 0 = rw n (zero-none l) in
      let e : first_zero l ≡ length l = omega (arith, i.1) in
      ((omega arith, sym (margin-none l e)), i.0)

  module _ (x : ℕ) (y : A) (i : Searched (map f xs) x) (n : x ≢ length xs) (r : y ≡ get_or xs x y) {t : Bool} (z : t ≡ eqb (f y) 0) where
    pub search_more : t ≡ false → Searched (map f xs) (x + 1)
    search_more w =
        let h = within x i.0 n in
        let k : get_or (map f xs) x 0 ≢ 0 = rw (read x y h.0 r) (eqb-false (f y) 0 (sym z ∙ w)) in
        (omega (arith, h.1), rw (add-one x) (omega (arith, i.1, zero-later (map f xs) x h.1 k)))

    pub search_found : t ≡ true → x ≡ first_zero (map f xs)
    search_found w =
        let h = within x i.0 n in
        omega (arith, i.1, zero_here (map f xs) x h.1 (read x y h.0 r ∙ eqb-true (f y) 0 (sym z ∙ w)))

  -- no cost is above b
  pub but_more : (b z x : ℕ) (y : A) → x < length xs → y ≡ get_or xs x y → {least other new : ℕ} → other ≡ pick (eqb x z) b (f y) → other ≤ b → new ≡ min least other
      → (least ≡ least_but b (map f xs) z x) × BoundedBut b (map f xs) z x → (new ≡ least_but b (map f xs) z (x + 1)) × BoundedBut b (map f xs) z (x + 1)
  unfolding least_but
  but_more b z x y h r {least} {other} {new} o u n i =
      let e : get_or (map f xs) x 0 ≡ f y = read x y h r in (
        rw (add-one, e, ← o, ← i.0) n,
        λ k j d.
            elim (ℕ_discrete k x) [
              | yes s ↦
                  let v : pick (eqb x z) b (f y) ≡ f y = simp (ne_eqb x z (λ t. d (s ∙ t))) in
                  rw s (omega (arith, e, v, o, u))
              | no s ↦ i.1 k (omega arith) d
            ],
      )

-- where the search ended, the least of the others is the margin
module _ (l : List ℕ) (z : ℕ) (e : z ≡ first_zero l) (h : z < length l) where
  zero_there : get_or l z 0 ≡ 0
  zero_there = rw e (first-zero (first_member l (omega (arith, e, h)))).1

  small : (b : ℕ) → BoundedBut b l z (length l) → (x : ℕ) → get_or l x 0 ≤ b
  small b i x =
      elim (ℕ_discrete x z) [
        | yes s ↦ rw s (omega (arith, zero_there))
        | no s ↦ elim (dec_le (length l) x) [ yes k ↦ omega (arith, get_or_past l x 0 k) | no k ↦ i x (omega (arith, k)) s ]
      ]

  pub margin_one : length l < 2 → 0 ≡ margin_of l
  unfolding margin_at
  margin_one k =
      let v : margin_at 0 l z ≡ 0 = simp (lt-ltb (length l) 2 k) in
      sym v ∙ margin_found 0 l (small 0 (λ x i d. absurd (omega (arith, h, k)))) z e h

  pub margin_others : (b m : ℕ) → 2 ≤ length l → BoundedBut b l z (length l) → m ≡ least_but b l z (length l) → m ≡ margin_of l
  unfolding margin_at
  margin_others b m k i n =
      let v : margin_at b l z ≡ least_but b l z (length l) = simp (le-ltb (length l) 2 k) in
      n ∙ sym v ∙ margin_found b l (small b i) z e h
