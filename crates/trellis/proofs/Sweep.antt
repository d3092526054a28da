-- Each cost that a sweep keeps is the least one, or the mark; one column more is one step; the two sweeps joined give the sent cost. For any k
-- and any join of costs.
use mathlib.Core.Path.{◌≡◌, refl, sym, ap, ◌∙◌}
use mathlib.Core.Bool.{Bool, true, false, cond}
use mathlib.Core.Logic.{◌≢◌, ◌⊎◌, inl, inr, ⊎_elim}
use mathlib.Core.List.Memᴰ
use mathlib.Core.List.{List, [], ◌∷◌, ◌++◌, map, foldr, Memᴰ}
use Prim.Native.Nat.{ℕ, zero, suc, ◌+◌, ◌-◌, ◌*◌, ◌≤◌, ◌<◌, min}
use native.Mathlib.Nat.{add-zero, zero-add, not-suc-le-zero, le_refl, mul-le-mul_right, suc-mul}
use native.Mathlib.Decide.{dec_le, ℕ_discrete}
use native.Mathlib.Omega.{arith}
use lib.Dec.{T, eqb, eqb→eq, eqb_refl}
use lib.ListN.{length, take, drop, length-take, length-drop}
use lib.Seq.{get_or-take, get_or-drop, drop-cons, take-suc}
use lib.Pow.{pow_pos}
use Rattle.trellis.specs.Lists.{keep, others}
use Rattle.trellis.specs.Field.{xor}
use Rattle.trellis.specs.Check.{column, blank, Rule, Column, Fits, none, more, cost_of, cost_at, weigh, deviates, decision, deviations, weighted_sum, total, choices, shift, sent_at}
use Rattle.trellis.specs.Sweep.{mark, Counted, Keeps, counted?, swept, least_to, deviation_cost, stepped, across, joined, swept_sent}
use Rattle.trellis.proofs.Tests.{both, fst_T, snd_T}
use Rattle.trellis.proofs.Lists.{in_keep, of_keep}
use Rattle.trellis.proofs.Least.{in_choices, of_choices}
use Rattle.trellis.proofs.Xor.{xor_comm, xor_right, xor_cancel}
use Rattle.trellis.proofs.Total.{Gathers, fits-append, fits_split, total-append}
use Rattle.trellis.proofs.Sent.{Joins, Sound, Proper, xors, sums, same-symbol, deviates_cases, sent_is}
use Rattle.trellis.proofs.Records.{size-xor}

-- below the mark, m is the least number with the property
pub record Near (P : ℕ → Type 0) (m : ℕ) : Type 0 where
  pub attained : (mark ≤ m) ⊎ P m
  pub least : (n : ℕ) → P n → m ≤ n

pub near_one : {P : ℕ → Type 0} {a b : ℕ} → Near P a → Near P b → a ≤ mark → b ≤ mark → a ≡ b
near_one {P} {a} {b} A B h k = omega (arith, side A B k, side B A h)
  where
    side : {x y : ℕ} → Near P x → Near P y → y ≤ mark → y ≤ x
    side {x} {y} X Y u = ⊎_elim (λ (g : mark ≤ x). omega arith) (λ (g : P x). Y.least x g) X.attained

pub near_iff : {P Q : ℕ → Type 0} → ((m : ℕ) → P m → Q m) → ((m : ℕ) → Q m → P m) → {k : ℕ} → Near P k → Near Q k
near_iff f g {k} b = record { attained = ⊎_elim (λ h. inl h) (λ h. inr (f k h)) b.attained; least = λ n h. b.least n (g n h) }

near_min : {P Q : ℕ → Type 0} {a b : ℕ} → Near P a → Near Q b → Near (λ m. P m ⊎ Q m) (min a b)
near_min {P} {Q} {a} {b} A B =
    record {
      attained =
          elim (dec_le a b) [
            | yes l ↦ let e : min a b ≡ a = omega arith in rw e (⊎_elim (λ h. inl h) (λ h. inr (inl h)) A.attained)
            | no l ↦ let e : min a b ≡ b = omega arith in rw e (⊎_elim (λ h. inl h) (λ h. inr (inr h)) B.attained)
          ];
      least = λ n s. ⊎_elim (λ (p : P n). omega (arith, A.least n p)) (λ (p : Q n). omega (arith, B.least n p)) s;
    }

pub least_to-mark : (f : ℕ → ℕ) (n : ℕ) → least_to f n ≤ mark
least_to-mark f zero = le_refl _
least_to-mark f (suc n) = omega (arith, least_to-mark f n)

near_least_to : (P : ℕ → ℕ → Type 0) (f : ℕ → ℕ) (n : ℕ) → ((x : ℕ) → x < n → Near (P x) (f x)) → Near (λ m. (x : ℕ) × (x < n) × P x m) (least_to f n)
near_least_to P f zero h = record { attained = inl (le_refl _); least = λ m s. absurd (not-suc-le-zero s.1) }
near_least_to P f (suc n) h =
    near_iff {P = λ m. ((x : ℕ) × (x < n) × P x m) ⊎ P n m}
    (λ m s. ⊎_elim (λ (r : (x : ℕ) × (x < n) × P x m). (r.0, omega (arith, r.1), r.2)) (λ (p : P n m). (n, omega arith, p)) s)
    (λ m s. elim (ℕ_discrete s.0 n) [
      | yes e ↦ inr (rw e at s.2)
      | no e ↦ inl (s.0, omega (arith, s.1), s.2)
    ])
    (near_min (near_least_to P f n (λ x l. h x (omega arith))) (h n (omega arith)))

near_fold : (l : List ℕ) → Near (λ m. Memᴰ m l) (foldr min mark l)
near_fold [] = record { attained = inl (le_refl _); least = λ m s. absurd (Memᴰ.not-nil s) }
near_fold (x ∷ l) =
    near_iff {P = λ m. (m ≡ x) ⊎ Memᴰ m l}
    (λ m s. ⊎_elim (λ (e : m ≡ x). Memᴰ.head e) (λ (k : Memᴰ m l). Memᴰ.tail k) s)
    (λ m s. Memᴰ.cases_cons s)
    (near_min {P = λ m. m ≡ x} record { attained = inr refl; least = λ n e. omega arith } (near_fold l))

fold-mark : (l : List ℕ) → foldr min mark l ≤ mark
fold-mark [] = le_refl _
fold-mark (x ∷ l) = omega (arith, fold-mark l)

-- m is the cost of a choice with j deviations and weighted sum t
abbrev pub SweepCosts : Rule → List Column → ℕ → ℕ → ℕ → Type 0
SweepCosts R cs j t m = (w : List ℕ) × Counted R cs j t w × (cost_of R cs w ≡ m)

module _ (R : Rule) (cs : List Column) (j t : ℕ) where
  pub swept-mark : swept R cs j t ≤ mark
  unfolding swept
  swept-mark = fold-mark (map (cost_of R cs) (keep (counted? R cs j t) (choices R.size cs)))

  pub swept_near : Near (SweepCosts R cs j t) (swept R cs j t)
  unfolding swept
  swept_near =
      near_iff
      (λ m s.
      let r = Memᴰ.of_map (cost_of R cs) (keep (counted? R cs j t) (choices R.size cs)) s in
      let k = of_keep (counted? R cs j t) (choices R.size cs) r.1 in
      (r.0, record { fits = of_choices R.size cs r.0 k.0; count = eqb→eq _ _ (fst_T (eqb (deviations cs r.0) j) _ k.1); sum = eqb→eq _ _ (snd_T (eqb (deviations cs r.0) j) _ k.1) }, r.2))
      (λ m s. rw (← s.2) (Memᴰ.map (cost_of R cs) (in_keep (counted? R cs j t) (in_choices s.1.fits) (both (eqb (deviations cs s.0) j) _ (rw s.1.count (eqb_refl j)) (rw s.1.sum (eqb_refl t))))))
      (near_fold _)

  -- where every such choice costs less than the mark: the least of them, or the mark where there is none
  pub swept_keeps : ((w : List ℕ) → Counted R cs j t w → cost_of R cs w < mark) → Keeps R cs j t (swept R cs j t)
  swept_keeps small =
      ⊎_elim
      (λ (h : mark ≤ swept R cs j t). inr (omega (arith, swept-mark), λ w c. absurd (omega (arith, small w c, swept_near.least (cost_of R cs w) (w, c, refl)))))
      (λ (h : SweepCosts R cs j t (swept R cs j t)). inl record { choice = h.0; counted = h.1; attained = h.2; least = λ w c. swept_near.least (cost_of R cs w) (w, c, refl) })
      swept_near.attained

-- no column: one choice, of cost 0
pub swept_none : (R : Rule) (j t : ℕ) → swept R [] j t ≡ cond (eqb j 0) (cond (eqb t 0) 0 mark) mark
swept_none R j t = near_one (swept_near R [] j t) (go (eqb j 0) refl (eqb t 0) refl) (swept-mark R [] j t) (capped (eqb j 0) (eqb t 0))
  where
    capped : (a b : Bool) → cond a (cond b 0 mark) mark ≤ mark
    capped true true = omega arith
    capped true false = le_refl _
    capped false b = le_refl _

    go : (a : Bool) → eqb j 0 ≡ a → (b : Bool) → eqb t 0 ≡ b → Near (SweepCosts R [] j t) (cond a (cond b 0 mark) mark)
    go true e true f = record { attained = inr ([], record { fits = none; count = sym (eqb→eq j 0 (rw e tt)); sum = sym (eqb→eq t 0 (rw f tt)) }, refl); least = λ n h. omega arith }
    go true e false f = record { attained = inl (le_refl _); least = λ n h. absurd (let q : t ≡ 0 = sym h.1.sum in let u : T (eqb t 0) = rw q tt in rw f at u) }
    go false e b f = record { attained = inl (le_refl _); least = λ n h. absurd (let q : j ≡ 0 = sym h.1.count in let u : T (eqb j 0) = rw q tt in rw e at u) }

module _ (R : Rule) (J : Joins R.join) where
  -- a join is no less than either part
  above-left : (a b : ℕ) → a ≤ R.join a b
  above-left a b = omega (arith, J.right a, J.mono a a 0 b (le_refl a) (omega arith))

  above-right : (a b : ℕ) → b ≤ R.join a b
  above-right a b = omega (arith, J.gathers.left b, J.mono 0 a b b (omega arith) (le_refl b))

  near-join : (P Q : ℕ → Type 0) (a b : ℕ) → Near P a → Near Q b → Near (λ m. (x y : ℕ) × P x × Q y × (m ≡ R.join x y)) (R.join a b)
  near-join P Q a b A B =
      record {
        attained =
            ⊎_elim (λ (h : mark ≤ a). inl (omega (arith, above-left a b)))
            (λ (h : P a). ⊎_elim (λ (k : mark ≤ b). inl (omega (arith, above-right a b))) (λ (k : Q b). inr (a, b, h, k, refl)) B.attained)
            A.attained;
        least = λ n s. rw s.4 (J.mono a s.0 b s.1 (A.least s.0 s.2) (B.least s.1 s.3));
      }

  -- a column in front
  module _ (c : Column) (below : (decision c).symbol < R.size) (free : cost_at c (decision c).symbol ≡ 0) (cs : List Column) where
    abbrev z : ℕ
    z = (decision c).symbol

    -- the cost of a deviation
    near-cost : (x : ℕ) → Near (λ m. (x ≢ z) × (m ≡ cost_at c x)) (deviation_cost c x)
    near-cost x = go (eqb x z) refl
      where
        go : (b : Bool) → eqb x z ≡ b → Near (λ m. (x ≢ z) × (m ≡ cost_at c x)) (cond b mark (cost_at c x))
        go true e = record { attained = inl (le_refl _); least = λ n s. absurd (s.0 (eqb→eq x z (rw e tt))) }
        go false e = record { attained = inr ((λ h. let u : T (eqb x z) = rw h (eqb_refl z) in rw e at u), refl); least = λ n s. omega arith }

    abbrev Keeping : ℕ → ℕ → ℕ → Type 0
    Keeping j t m = SweepCosts R cs j (xor t (weigh R c z)) m

    abbrev Deviating : ℕ → ℕ → ℕ → Type 0
    Deviating j t m = (x : ℕ) × (x < R.size) × ((y v : ℕ) × ((x ≢ z) × (y ≡ cost_at c x)) × SweepCosts R cs j (xor t (weigh R c x)) v × (m ≡ R.join y v))

    moved : (x : ℕ) {s t : ℕ} → s ≡ xor t (weigh R c x) → xor (weigh R c x) s ≡ t
    moved x {s} {t} e = rw (e, xor_comm t) (xor_cancel (weigh R c x) t)

    back : (x : ℕ) {s t : ℕ} → xor (weigh R c x) s ≡ t → s ≡ xor t (weigh R c x)
    back x {s} {t} e = sym (rw (← e, xor_comm (xor (weigh R c x) s)) (xor_cancel (weigh R c x) s))

    keeping : (j t m : ℕ) → Keeping j t m → SweepCosts R (c ∷ cs) j t m
    keeping j t m h = (
      z ∷ h.0,
      record { fits = more below h.1.fits; count = rw (same-symbol c z refl, zero-add) h.1.count; sum = moved z h.1.sum },
      rw (free, J.gathers.left (cost_of R cs h.0)) h.2,
    )

    differs : (x : ℕ) → x ≢ z → deviates c x ≡ 1
    differs x n = ⊎_elim (λ (e : x ≡ z). absurd (n e)) (λ e. e) (deviates_cases c x)

    deviating : (j t m : ℕ) → Deviating j t m → SweepCosts R (c ∷ cs) (suc j) t m
    deviating j t m h =
        let x : ℕ = h.0 in
        let w = h.2.3 in (
          x ∷ w.0,
          record { fits = more h.1 w.1.fits; count = omega (arith, differs x h.2.2.0, w.1.count); sum = moved x w.1.sum },
          rw (w.2, ← h.2.2.1) (sym h.2.4),
        )

    split : (j t m : ℕ) → SweepCosts R (c ∷ cs) j t m → Keeping j t m ⊎ ((i : ℕ) × (j ≡ suc i) × Deviating i t m)
    split j t m (w, h, e) = go h.fits h.count h.sum e
      where
        go : {w : List ℕ} → Fits R.size (c ∷ cs) w → deviations (c ∷ cs) w ≡ j → weighted_sum R (c ∷ cs) w ≡ t → cost_of R (c ∷ cs) w ≡ m → Keeping j t m ⊎ ((i : ℕ) × (j ≡ suc i) × Deviating i t m)
        go (more {x = x} {w = w} k f) d s e =
            elim (ℕ_discrete x z) [
              | yes u ↦
                  inl (w, record { fits = f; count = sym (zero-add _) ∙ ap (λ y. y + deviations cs w) (sym (same-symbol c x u)) ∙ d; sum = back z (ap (λ y. xor (weigh R c y) (weighted_sum R cs w)) (sym u) ∙ s) }, sym (J.gathers.left _) ∙ ap (λ y. R.join y (cost_of R cs w)) (sym (ap (cost_at c) u ∙ free)) ∙ e)
              | no u ↦ inr (deviations cs w, omega (arith, differs x u), (x, k, (cost_at c x, cost_of R cs w, (u, refl), (w, record { fits = f; count = refl; sum = back x s }, refl), sym e)))
            ]

    step-near : (j t : ℕ) → Near (SweepCosts R (c ∷ cs) j t) (stepped R c (swept R cs) j t)
    unfolding stepped
    step-near zero t =
        near_iff (keeping 0 t) (λ m h. ⊎_elim (λ k. k) (λ (r : (i : ℕ) × (0 ≡ suc i) × Deviating i t m). absurd (omega (arith, r.1))) (split 0 t m h)) (swept_near R cs 0 (xor t (weigh R c z)))
    step-near (suc j) t =
        near_iff {P = λ m. Keeping (suc j) t m ⊎ Deviating j t m}
        (λ m s. ⊎_elim (keeping (suc j) t m) (deviating j t m) s)
        (λ m h. ⊎_elim (λ k. inl k) (λ (r : (i : ℕ) × (suc j ≡ suc i) × Deviating i t m). let e : j ≡ r.0 = omega (arith, r.1) in inr (rw e r.2)) (split (suc j) t m h))
        (near_min (swept_near R cs (suc j) (xor t (weigh R c z)))
        (near_least_to _ (λ x. R.join (deviation_cost c x) (swept R cs j (xor t (weigh R c x)))) R.size
        (λ x l. near-join _ _ (deviation_cost c x) (swept R cs j (xor t (weigh R c x))) (near-cost x) (swept_near R cs j (xor t (weigh R c x))))))

    step-mark : (j t : ℕ) → stepped R c (swept R cs) j t ≤ mark
    unfolding stepped
    step-mark zero t = swept-mark R cs 0 _
    step-mark (suc j) t = omega (arith, swept-mark R cs (suc j) (xor t (weigh R c z)))

    -- the sweep from the last column to the first: one step more
    pub swept-front : (j t : ℕ) → swept R (c ∷ cs) j t ≡ stepped R c (swept R cs) j t
    swept-front j t = near_one (swept_near R (c ∷ cs) j t) (step-near j t) (swept-mark R (c ∷ cs) j t) (step-mark j t)

    total-last : (op : ℕ → ℕ → ℕ) → Gathers op → ((a : ℕ) → op a 0 ≡ a) → (f : Column → ℕ → ℕ) {w : List ℕ} (x : ℕ) → Fits R.size cs w → total op f (cs ++ (c ∷ [])) (w ++ (x ∷ [])) ≡ op (f c x) (total op f cs w)
    total-last op G r f {w} x h = total-append op G f h (c ∷ []) (x ∷ []) ∙ G.turn (total op f cs w) (f c x) 0 ∙ ap (op (f c x)) (r (total op f cs w))

    turned : (j t m : ℕ) → SweepCosts R (c ∷ cs) j t m → SweepCosts R (cs ++ (c ∷ [])) j t m
    turned j t m (w, h, e) = go h.fits h.count h.sum e
      where
        go : {w : List ℕ} → Fits R.size (c ∷ cs) w → deviations (c ∷ cs) w ≡ j → weighted_sum R (c ∷ cs) w ≡ t → cost_of R (c ∷ cs) w ≡ m → SweepCosts R (cs ++ (c ∷ [])) j t m
        go (more {x = x} {w = w} k f) d s e = (
          w ++ (x ∷ []),
          record { fits = fits-append f (more k none); count = total-last ◌+◌ sums add-zero deviates x f ∙ d; sum = total-last xor xors xor_right (weigh R) x f ∙ s },
          total-last R.join J.gathers J.right cost_at x f ∙ e,
        )

    turned-back : (j t m : ℕ) → SweepCosts R (cs ++ (c ∷ [])) j t m → SweepCosts R (c ∷ cs) j t m
    turned-back j t m (u, h, e) = let r = fits_split cs h.fits in go r.0 r.2 r.3 r.4
      where
        go : (w : List ℕ) {v : List ℕ} → Fits R.size cs w → Fits R.size (c ∷ []) v → u ≡ w ++ v → SweepCosts R (c ∷ cs) j t m
        go w f (more {x = x} k none) g = (
          x ∷ w,
          record {
            fits = more k f;
            count = sym (total-last ◌+◌ sums add-zero deviates x f) ∙ ap (deviations (cs ++ (c ∷ []))) (sym g) ∙ h.count;
            sum = sym (total-last xor xors xor_right (weigh R) x f) ∙ ap (weighted_sum R (cs ++ (c ∷ []))) (sym g) ∙ h.sum;
          },
          sym (total-last R.join J.gathers J.right cost_at x f) ∙ ap (cost_of R (cs ++ (c ∷ []))) (sym g) ∙ e,
        )

    -- the sweep from the first column to the last: the same step
    pub swept-back : (j t : ℕ) → swept R (cs ++ (c ∷ [])) j t ≡ stepped R c (swept R cs) j t
    swept-back j t =
        near_one (swept_near R (cs ++ (c ∷ [])) j t) (near_iff (turned j t) (turned-back j t) (step-near j t)) (swept-mark R (cs ++ (c ∷ [])) j t) (step-mark j t)

  -- m is the cost of a choice with at most k deviations and weighted sum t
  abbrev CostsUpTo : List Column → ℕ → ℕ → ℕ → Type 0
  CostsUpTo cs k t m = (w : List ℕ) × (Fits R.size cs w × (deviations cs w ≤ k) × (weighted_sum R cs w ≡ t)) × (cost_of R cs w ≡ m)

  module _ (cs ds : List Column) (small : (w : List ℕ) → Fits R.size cs w → weighted_sum R cs w < R.size) (k t : ℕ) where
    abbrev Both : ℕ → ℕ → ℕ → ℕ → Type 0
    Both i j s m = (x y : ℕ) × SweepCosts R cs i s x × SweepCosts R ds j (xor s t) y × (m ≡ R.join x y)

    abbrev Shared : ℕ → Type 0
    Shared m = (i : ℕ) × (i < suc k) × ((j : ℕ) × (j < suc (k - i)) × ((s : ℕ) × (s < R.size) × Both i j s m))

    there : (m : ℕ) → Shared m → CostsUpTo (cs ++ ds) k t m
    there m h =
        let i : ℕ = h.0 in
        let j : ℕ = h.2.0 in
        let s : ℕ = h.2.2.0 in
        let a = h.2.2.2.2 in
        let b = h.2.2.2.3 in (
          a.0 ++ b.0,
          (
            fits-append a.1.fits b.1.fits,
            omega (arith, total-append ◌+◌ sums deviates a.1.fits ds b.0, a.1.count, b.1.count, h.1, h.2.1),
            total-append xor xors (weigh R) a.1.fits ds b.0 ∙ rw (a.1.sum, b.1.sum) (xor_cancel s t),
          ),
          total-append R.join J.gathers cost_at a.1.fits ds b.0 ∙ rw (a.2, b.2) (sym h.2.2.2.4),
        )

    shared : (m : ℕ) → CostsUpTo (cs ++ ds) k t m → Shared m
    shared m h =
        let r = fits_split cs h.1.0 in
        let w : List ℕ = r.0 in
        let v : List ℕ = r.1 in
        let e : h.0 ≡ w ++ v = r.4 in
        let d : deviations cs w + deviations ds v ≤ k = omega (arith, ap (deviations (cs ++ ds)) e, total-append ◌+◌ sums deviates r.2 ds v, h.1.1) in
        let s : xor (weighted_sum R cs w) (weighted_sum R ds v) ≡ t = sym (total-append xor xors (weigh R) r.2 ds v) ∙ ap (weighted_sum R (cs ++ ds)) (sym e) ∙ h.1.2 in (
          deviations cs w,
          omega arith,
          (
            deviations ds v,
            omega arith,
            (
              weighted_sum R cs w,
              small w r.2,
              (
                cost_of R cs w,
                cost_of R ds v,
                (w, record { fits = r.2; count = refl; sum = refl }, refl),
                (v, record { fits = r.3; count = refl; sum = rw (← s) (sym (xor_cancel _ _)) }, refl),
                sym h.2 ∙ ap (cost_of R (cs ++ ds)) e ∙ total-append R.join J.gathers cost_at r.2 ds v,
              ),
            ),
          ),
        )

    joined-near : Near (CostsUpTo (cs ++ ds) k t) (joined R (swept R cs) (swept R ds) k t)
    unfolding joined
    joined-near =
        near_iff there shared
        (near_least_to _ (λ i. least_to (across R (swept R cs) (swept R ds) t i) (suc (k - i))) (suc k)
        (λ i u. near_least_to _ (across R (swept R cs) (swept R ds) t i) (suc (k - i))
        (λ j v. near_least_to _ (λ s. R.join (swept R cs i s) (swept R ds j (xor s t))) R.size
        (λ s l. near-join (SweepCosts R cs i s) (SweepCosts R ds j (xor s t)) (swept R cs i s) (swept R ds j (xor s t)) (swept_near R cs i s) (swept_near R ds j (xor s t))))))

    joined-mark : joined R (swept R cs) (swept R ds) k t ≤ mark
    unfolding joined
    joined-mark = least_to-mark _ (suc k)

pub others_split : {A : Type 0} (n : ℕ) (cs : List A) → take n cs ++ drop (suc n) cs ≡ others n cs
others_split zero [] = refl
others_split (suc n) [] = refl
others_split zero (c ∷ cs) = refl
others_split {A} (suc n) (c ∷ cs) = ap {B = List A} (λ l. c ∷ l) (others_split n cs)

-- a choice costs at most 255 for each deviation
module _ (R : Rule) (J : Joins R.join) (within : (a b : ℕ) → R.join a b ≤ a + b) where
  cost-small : (b : ℕ) {cs : List Column} {w : List ℕ} → Fits R.size cs w
      → ((n : ℕ) → n < length cs → (cost_at (column cs n) (decision (column cs n)).symbol ≡ 0) × ((x : ℕ) → cost_at (column cs n) x ≤ b))
      → cost_of R cs w ≤ deviations cs w * b
  cost-small b none h = omega arith
  cost-small b (more {c = c} {cs = cs} {x = x} {w = w} k f) h =
      let r = cost-small b f (λ n l. h (suc n) (omega arith)) in
      ⊎_elim
      (λ (e : x ≡ (decision c).symbol). omega (arith, r, within (cost_at c x) (cost_of R cs w), ap (cost_at c) e, (h 0 (omega arith)).0, ap (λ y. (y + deviations cs w) * b) (same-symbol c x e), ap (λ y. y * b) (zero-add (deviations cs w))))
      (λ (e : deviates c x ≡ 1). omega (arith, r, within (cost_at c x) (cost_of R cs w), (h 0 (omega arith)).1 x, ap (λ y. (y + deviations cs w) * b) e, suc-mul (deviations cs w) b))
      (deviates_cases c x)

-- the sweeps of a proper check
module _ (R : Rule) (cs : List Column) (P : Proper R cs) where
  sums-small : (ds : List Column) → ((n : ℕ) → n < length ds → Sound R (column ds n)) → (w : List ℕ) → Fits R.size ds w → weighted_sum R ds w < R.size
  sums-small [] h [] none = rw P.power (pow_pos P.p)
  sums-small [] h (x ∷ w) f = elim f [ ]
  sums-small (d ∷ ds) h [] f = elim f [ ]
  sums-small (d ∷ ds) h (x ∷ w) (more k f) = size-xor R cs P _ _ ((h 0 (omega arith)).closed x k) (sums-small ds (λ n l. h (suc n) (omega arith)) w f)

  sound-take : (n i : ℕ) → i < length (take n cs) → Sound R (column (take n cs) i)
  sound-take n i l = rw (get_or-take n cs i blank (omega (arith, length-take n cs))) (P.sound i (omega (arith, length-take n cs)))

  sound-drop : (n i : ℕ) → i < length (drop n cs) → Sound R (column (drop n cs) i)
  sound-drop n i l = rw (get_or-drop n cs i blank) (P.sound (n + i) (omega (arith, length-drop n cs)))

  -- "joins the two sweeps for column n": the sent cost
  pub swept-sent : (n a : ℕ) → n < length cs → a < R.size → sent_at R cs n a ≤ mark → swept_sent R cs n a ≡ sent_at R cs n a
  unfolding swept_sent
  swept-sent n a l h m =
      let t : ℕ = xor a (shift R cs n) in
      let i = sent_is R cs P a h n l in
      let b : Near (CostsUpTo R P.joins (others n cs) R.most t) (sent_at R cs n a) =
      record { attained = inr (i.choice, (i.allowed.fits, i.allowed.few, i.allowed.sum), i.attained); least = λ v s. omega (arith, i.least s.0 record { fits = s.1.0; few = s.1.1; sum = s.1.2 }, s.2) } in
      near_one (rw (← others_split n cs) (joined-near R P.joins (take n cs) (drop (suc n) cs) (sums-small (take n cs) (sound-take n)) R.most t)) b (joined-mark R P.joins (take n cs) (drop (suc n) cs) (sums-small (take n cs) (sound-take n)) R.most t) m

  -- one column more, before n and after n
  pub swept-before : (n : ℕ) → n < length cs → (j t : ℕ) → swept R (take (suc n) cs) j t ≡ stepped R (column cs n) (swept R (take n cs)) j t
  swept-before n l j t =
      let e : take (suc n) cs ≡ take n cs ++ (column cs n ∷ []) = take-suc cs n blank l in
      rw e (swept-back R P.joins (column cs n) (P.sound n l).below (P.sound n l).free (take n cs) j t)

  pub swept-after : (n : ℕ) → n < length cs → (j t : ℕ) → swept R (drop n cs) j t ≡ stepped R (column cs n) (swept R (drop (suc n) cs)) j t
  swept-after n l j t =
      let e : drop n cs ≡ column cs n ∷ drop (suc n) cs = drop-cons cs n blank l in
      rw e (swept-front R P.joins (column cs n) (P.sound n l).below (P.sound n l).free (drop (suc n) cs) j t)

  -- "Each kept cost is proved to be that least, with a mark where no choice exists": any part of the columns, up to three deviations
  module _ (within : (a b : ℕ) → R.join a b ≤ a + b) (bytes : (n : ℕ) → n < length cs → (x : ℕ) → cost_at (column cs n) x ≤ 255) where
    keeps : (ds : List Column) → ((n : ℕ) → n < length ds → (cost_at (column ds n) (decision (column ds n)).symbol ≡ 0) × ((x : ℕ) → cost_at (column ds n) x ≤ 255))
        → (j t : ℕ) → j ≤ 3 → Keeps R ds j t (swept R ds j t)
    keeps ds h j t l =
        swept_keeps R ds j t (λ w c. omega (arith, cost-small R P.joins within 255 c.fits h, mul-le-mul_right 255 l, ap (λ y. y * 255) c.count))

    pub before-keeps : (n j t : ℕ) → j ≤ 3 → Keeps R (take n cs) j t (swept R (take n cs) j t)
    before-keeps n = keeps (take n cs) (λ i l. rw (get_or-take n cs i blank (omega (arith, length-take n cs))) ((P.sound i (omega (arith, length-take n cs))).free, bytes i (omega (arith, length-take n cs))))

    pub after-keeps : (n j t : ℕ) → j ≤ 3 → Keeps R (drop n cs) j t (swept R (drop n cs) j t)
    after-keeps n = keeps (drop n cs) (λ i l. rw (get_or-drop n cs i blank) ((P.sound (n + i) (omega (arith, length-drop n cs))).free, bytes (n + i) (omega (arith, length-drop n cs))))
