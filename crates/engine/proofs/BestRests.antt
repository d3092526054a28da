-- The best rest over the costs with a property, and how it goes with a choice between two, with the best of many and with a join of costs.
use mathlib.Core.Path.{◌≡◌, refl, sym, ap, ap₂, ◌∙◌}
use mathlib.Core.Bool.{Bool, true, false}
use mathlib.Core.Logic.{◌⊎◌, inl, inr, ⊎_elim}
use mathlib.Core.List.Memᴰ
use mathlib.Core.List.{List, [], ◌∷◌, map, foldr, Memᴰ}
use Prim.Native.Nat.{ℕ, zero, suc, ◌+◌, ◌-◌, ◌≤◌, ◌<◌, max}
use native.Mathlib.Nat.{not-suc-le-zero, le_refl}
use native.Mathlib.Decide.{dec_le, ℕ_discrete}
use native.Mathlib.Omega.{arith}
use Rattle.trellis.proofs.Sent.{Joins}
use Rattle.trellis.proofs.Instances.{sum_joins, max_joins}
use Rattle.trellis.specs.Rules.{join_of}
use Rattle.engine.specs.inner.Rests.{most_to, meet_of}

-- m is the greatest of 255 less the costs with the property; 0 where there is none. A cost of 255 or more is no better than none, so that no
-- mark for "none" is needed and m is the only such number
pub record BestRest (P : ℕ → Type 0) (m : ℕ) : Type 0 where
  pub attained : (m ≡ 0) ⊎ ((x : ℕ) × P x × (m ≡ 255 - x))
  pub best : (x : ℕ) → P x → 255 - x ≤ m

pub best_small : {P : ℕ → Type 0} {m : ℕ} → BestRest P m → m ≤ 255
best_small {P} {m} B = ⊎_elim (λ (e : m ≡ 0). omega arith) (λ (r : (x : ℕ) × P x × (m ≡ 255 - x)). omega (arith, r.2)) B.attained

best_le : {P : ℕ → Type 0} {a b : ℕ} → BestRest P a → BestRest P b → a ≤ b
best_le {P} {a} {b} A B = ⊎_elim (λ (e : a ≡ 0). omega arith)
    (λ (r : (x : ℕ) × P x × (a ≡ 255 - x)). omega (arith, r.2, B.best r.0 r.1)) A.attained

pub best_one : {P : ℕ → Type 0} {a b : ℕ} → BestRest P a → BestRest P b → a ≡ b
best_one A B = omega (arith, best_le A B, best_le B A)

pub best_iff : {P Q : ℕ → Type 0} → ((x : ℕ) → P x → Q x) → ((x : ℕ) → Q x → P x) → {m : ℕ} → BestRest P m → BestRest Q m
best_iff {P} f g {m} B = record {
  attained = ⊎_elim (λ e. inl e)
      (λ (r : (x : ℕ) × P x × (m ≡ 255 - x)). inr (r.0, f r.0 r.1, r.2)) B.attained;
  best = λ x q. B.best x (g x q);
}

-- one cost
pub best_of : (x : ℕ) → BestRest (λ y. y ≡ x) (255 - x)
best_of x = record { attained = inr (x, refl, refl); best = λ y e. omega arith }

pub best_max : {P Q : ℕ → Type 0} {a b : ℕ} → BestRest P a → BestRest Q b → BestRest (λ x. P x ⊎ Q x) (max a b)
best_max {P} {Q} {a} {b} A B =
    record {
      attained =
          elim (dec_le b a) [
            | yes l ↦ let e : max a b ≡ a = omega arith in rw e
                (⊎_elim (λ h. inl h) (λ (r : (x : ℕ) × P x × (a ≡ 255 - x)). inr (r.0, inl r.1, r.2)) A.attained)
            | no l ↦ let e : max a b ≡ b = omega arith in rw e
                (⊎_elim (λ h. inl h) (λ (r : (x : ℕ) × Q x × (b ≡ 255 - x)). inr (r.0, inr r.1, r.2)) B.attained)
          ];
      best = λ x s. ⊎_elim (λ (p : P x). omega (arith, A.best x p)) (λ (p : Q x). omega (arith, B.best x p)) s;
    }

pub best_to : (P : ℕ → ℕ → Type 0) (f : ℕ → ℕ) (n : ℕ) → ((i : ℕ) → i < n → BestRest (P i) (f i))
    → BestRest (λ x. (i : ℕ) × (i < n) × P i x) (most_to f n)
best_to P f zero h = record { attained = inl refl; best = λ x s. absurd (not-suc-le-zero s.1) }
best_to P f (suc n) h =
    best_iff {P = λ x. ((i : ℕ) × (i < n) × P i x) ⊎ P n x}
    (λ x s. ⊎_elim (λ (r : (i : ℕ) × (i < n) × P i x). (r.0, omega (arith, r.1), r.2)) (λ (p : P n x). (n, omega arith, p)) s)
    (λ x s. elim (ℕ_discrete s.0 n) [
      | yes e ↦ inr (rw e at s.2)
      | no e ↦ inl (s.0, omega (arith, s.1), s.2)
    ])
    (best_max (best_to P f n (λ i l. h i (omega arith))) (h n (omega arith)))

pub best_fold : {A : Type 0} (cost : A → ℕ) (l : List A)
    → BestRest (λ x. (w : A) × Memᴰ w l × (cost w ≡ x)) (foldr max 0 (map (λ w. 255 - cost w) l))
best_fold cost [] = record { attained = inl refl; best = λ x s. absurd (Memᴰ.not-nil s.1) }
best_fold {A} cost (v ∷ l) =
    best_iff {P = λ x. (x ≡ cost v) ⊎ ((w : A) × Memᴰ w l × (cost w ≡ x))}
    (λ x s. ⊎_elim (λ (e : x ≡ cost v). (v, Memᴰ.head refl, sym e))
    (λ (r : (w : A) × Memᴰ w l × (cost w ≡ x)). (r.0, Memᴰ.tail r.1, r.2)) s)
    (λ x s. ⊎_elim (λ (e : s.0 ≡ v). inl (sym s.2 ∙ ap cost e)) (λ (k : Memᴰ s.0 l). inr (s.0, k, s.2))
    (Memᴰ.cases_cons s.1))
    (best_max (best_of (cost v)) (best_fold cost l))

-- what the sum and the greatest share on rests, beside `Joins` on costs: rests meet as their costs join
pub record Meets (op meet : ℕ → ℕ → ℕ) : Type 0 where
  pub joins : Joins op
  pub meets : (x y : ℕ) → meet (255 - x) (255 - y) ≡ 255 - op x y

pub sum_meets : Meets ◌+◌ (meet_of false)
sum_meets = record { joins = sum_joins; meets = λ x y. omega arith }

pub max_meets : Meets max (meet_of true)
max_meets = record { joins = max_joins; meets = λ x y. omega arith }

pub by_meets : (greatest : Bool) → Meets (join_of greatest) (meet_of greatest)
by_meets true = max_meets
by_meets false = sum_meets

module _ (op meet : ℕ → ℕ → ℕ) (M : Meets op meet) where
  above-left : (a b : ℕ) → a ≤ op a b
  above-left a b = omega (arith, M.joins.right a, M.joins.mono a a 0 b (le_refl a) (omega arith))

  above-right : (a b : ℕ) → b ≤ op a b
  above-right a b = omega (arith, M.joins.gathers.left b, M.joins.mono 0 a b b (omega arith) (le_refl b))

  -- rests u and v as costs
  meet-is : (u v : ℕ) → u ≤ 255 → v ≤ 255 → meet u v ≡ 255 - op (255 - u) (255 - v)
  meet-is u v h k =
      let e : 255 - (255 - u) ≡ u = omega arith in
      let f : 255 - (255 - v) ≡ v = omega arith in
      sym (ap₂ meet e f) ∙ M.meets (255 - u) (255 - v)

  pub best_meet : (P Q : ℕ → Type 0) (a b : ℕ) → BestRest P a → BestRest Q b
      → BestRest (λ m. (x y : ℕ) × P x × Q y × (m ≡ op x y)) (meet a b)
  best_meet P Q a b A B =
      let h = best_small A in
      let k = best_small B in
      let e = meet-is a b h k in
      record {
        attained =
            ⊎_elim (λ (z : a ≡ 0). inl (omega (arith, e, above-left (255 - a) (255 - b))))
            (λ (r : (x : ℕ) × P x × (a ≡ 255 - x)).
            ⊎_elim (λ (z : b ≡ 0). inl (omega (arith, e, above-right (255 - a) (255 - b))))
            (λ (s : (y : ℕ) × Q y × (b ≡ 255 - y)). inr
            (op r.0 s.0, (r.0, s.0, r.1, s.1, refl), ap₂ meet r.2 s.2 ∙ M.meets r.0 s.0))
            B.attained)
            A.attained;
        best = λ m s. omega (
          arith,
          e,
          s.4,
          M.joins.mono (255 - a) s.0 (255 - b) s.1 (omega (arith, A.best s.0 s.2))
              (omega (arith, B.best s.1 s.3)),
        );
      }
