-- Tables of rests: one column's is its line, one column more is one step, and two parts of the columns join. For any k and any join of costs
-- that rests meet by.
use mathlib.Core.Path.{◌≡◌, refl, sym, ap, ap₂, ◌∙◌}
use mathlib.Core.Logic.{◌⊎◌, inl, inr, ⊎_elim}
use mathlib.Core.List.{List, [], ◌∷◌, ◌++◌}
use Prim.Native.Nat.{ℕ, zero, suc, ◌+◌, ◌-◌, ◌^◌, ◌≤◌, ◌<◌, max}
use native.Mathlib.Nat.{le_refl}
use native.Mathlib.Decide.{ℕ_discrete}
use native.Mathlib.Omega.{arith}
use lib.Dec.{eqb, eqb→eq, eqb_refl}
use lib.ListN.{length}
use lib.Pow.{pow_pos}
use Rattle.trellis.specs.Lists.{keep, up_to}
use Rattle.trellis.specs.Field.{xor}
use Rattle.trellis.specs.Check.{column, Rule, Column, Fits, none, more, Allowed, cost_of, cost_at, weigh, deviates, decision, decisions, decided, deviations, weighted_sum, choices, allowed?}
use Rattle.trellis.specs.Rows.{difference, symbol_at}
use Rattle.trellis.proofs.Lists.{in_up_to, of_up_to}
use Rattle.trellis.proofs.Least.{in_candidates, of_candidates}
use Rattle.trellis.proofs.Xor.{xor-zero, xor_comm, xor_right, xor_assoc, xor_self, xor_lt, xor_cancel, xor_turn}
use Rattle.trellis.proofs.Total.{fits-append, fits_split, total-append}
use Rattle.trellis.proofs.Sent.{Joins, Sound, xors, sums, same-symbol, deviates_cases, deviates-small}
use Rattle.trellis.proofs.Ranks.{first_passes}
use Rattle.engine.specs.inner.Rests.{at_most, rest, line_at, joined_at, between}
use Rattle.engine.proofs.BestRests.{BestRest, best_one, best_iff, best_of, best_max, best_to, best_fold, best_meet, Meets}

-- m is the cost of a choice with at most j deviations and weighted difference a
abbrev pub RestCosts : Rule → List Column → ℕ → ℕ → ℕ → Type 0
RestCosts R cs j a m = (w : List ℕ) × Allowed (at_most R j) cs (xor a (decided R cs)) w × (cost_of R cs w ≡ m)

pub rest_best : (R : Rule) (cs : List Column) (j a : ℕ) → BestRest (RestCosts R cs j a) (rest R cs j a)
unfolding rest
rest_best R cs j a =
    best_iff
    (λ m s. (s.0, of_candidates (at_most R j) cs (xor a (decided R cs)) s.0 s.1, s.2))
    (λ m s. (s.0, in_candidates (at_most R j) cs (xor a (decided R cs)) s.0 s.1, s.2))
    (best_fold (cost_of R cs) (keep (allowed? (at_most R j) cs (xor a (decided R cs))) (choices R.size cs)))

-- exclusive or of four
swap_middle : (p q r s : ℕ) → xor (xor p q) (xor r s) ≡ xor (xor p r) (xor q s)
swap_middle p q r s = xor_assoc p q (xor r s) ∙ ap (xor p) (xor_turn q r s) ∙ sym (xor_assoc p r (xor q s))

twice : (a b : ℕ) → xor (xor a b) b ≡ a
twice a b = xor_assoc a b b ∙ ap (xor a) (xor_self b) ∙ xor_right a

apart : (a b C D : ℕ) → xor (xor (xor a b) C) (xor b D) ≡ xor a (xor C D)
apart a b C D = swap_middle (xor a b) C b D ∙ ap (λ y. xor y (xor C D)) (twice a b)

first_is : (W Y a C D : ℕ) → xor W Y ≡ xor a (xor C D) → W ≡ xor (xor a (xor Y D)) C
first_is W Y a C D e =
    sym (twice W Y) ∙ ap (λ y. xor y Y) e ∙ xor_assoc a (xor C D) Y
    ∙ ap (xor a) (xor_comm (xor C D) Y ∙ ap (xor Y) (xor_comm C D) ∙ sym (xor_assoc Y D C)) ∙ sym (xor_assoc a (xor Y D) C)

decided-append : (R : Rule) (cs ds : List Column) → decided R (cs ++ ds) ≡ xor (decided R cs) (decided R ds)
unfolding decided
decided-append R [] ds = sym (xor-zero _)
decided-append R (c ∷ cs) ds = ap (xor (weigh R c (decision c).symbol)) (decided-append R cs ds) ∙ sym (xor_assoc _ _ _)

op_comm : (op : ℕ → ℕ → ℕ) → Joins op → (a b : ℕ) → op a b ≡ op b a
op_comm op J a b = ap (op a) (sym (J.right b)) ∙ J.gathers.turn a b 0 ∙ ap (op b) (J.right a)

-- columns of an accepted check
abbrev pub All : Rule → List Column → Type 0
All R cs = (n : ℕ) → n < length cs → Sound R (column cs n)

all_tail : (R : Rule) (c : Column) (cs : List Column) → All R (c ∷ cs) → All R cs
all_tail R c cs h n l = h (suc n) (omega arith)

-- no deviation: the decisions
no_deviation : (R : Rule) → Joins R.join → {cs : List Column} {w : List ℕ} → Fits R.size cs w → All R cs → deviations cs w ≤ 0
    → (cost_of R cs w ≡ 0) × (weighted_sum R cs w ≡ decided R cs)
unfolding decided
no_deviation R J none A d = (refl, refl)
no_deviation R J (more {c = c} {cs = cs} {x = x} {w = w} k f) A d =
    ⊎_elim
    (λ (e : x ≡ (decision c).symbol).
    let r = no_deviation R J f (all_tail R c cs A) (omega arith) in
    (ap₂ R.join (ap (cost_at c) e ∙ (A 0 (omega arith)).free) r.0 ∙ J.right 0, ap₂ xor (ap (weigh R c) e) r.1))
    (λ (e : deviates c x ≡ 1). absurd (omega arith))
    (deviates_cases c x)

decisions_fit : (R : Rule) (cs : List Column) → All R cs → Fits R.size cs (decisions cs)
decisions_fit R [] A = none
decisions_fit R (c ∷ cs) A = more (A 0 (omega arith)).below (decisions_fit R cs (all_tail R c cs A))

decisions-none : (cs : List Column) → deviations cs (decisions cs) ≡ 0
decisions-none [] = refl
decisions-none (c ∷ cs) = omega (arith, same-symbol c (decision c).symbol refl, decisions-none cs)

module _ (R : Rule) (meet : ℕ → ℕ → ℕ) (M : Meets R.join meet) (p : ℕ) (power : R.size ≡ 2 ^ p) where
  abbrev J : Joins R.join
  J = M.joins

  size-xor : (a b : ℕ) → a < R.size → b < R.size → xor a b < R.size
  size-xor a b h k = rw power (xor_lt p a b (rw power at h) (rw power at k))

  sums-small : {cs : List Column} {w : List ℕ} → Fits R.size cs w → All R cs → weighted_sum R cs w < R.size
  sums-small none A = rw power (pow_pos p)
  sums-small (more {c = c} {cs = cs} {x = x} k f) A = size-xor _ _ ((A 0 (omega arith)).closed x k) (sums-small f (all_tail R c cs A))

  decided-small : (cs : List Column) → All R cs → decided R cs < R.size
  unfolding decided
  decided-small cs A = sums-small (decisions_fit R cs A) A

  -- no deviation
  zero-only : (cs : List Column) → All R cs → (a m : ℕ) → RestCosts R cs 0 a m → (a ≡ 0) × (m ≡ 0)
  zero-only cs A a m (w, h, e) =
      let r = no_deviation R J h.fits A h.few in
      let s : xor a (decided R cs) ≡ decided R cs = sym h.sum ∙ r.1 in
      (sym (twice a (decided R cs)) ∙ ap (λ y. xor y (decided R cs)) s ∙ xor_self (decided R cs), sym e ∙ r.0)

  zero-costs : (cs : List Column) → All R cs → (j : ℕ) → RestCosts R cs j 0 0
  unfolding decided
  zero-costs cs A j =
      let f = decisions_fit R cs A in
      let d = decisions-none cs in (
        decisions cs,
        record { fits = f; few = omega arith; sum = sym (xor-zero _) },
        (no_deviation R J f A (omega arith)).0,
      )

  costs-mono : (cs : List Column) (i j a m : ℕ) → i ≤ j → RestCosts R cs i a m → RestCosts R cs j a m
  costs-mono cs i j a m l (w, h, e) = (w, record { fits = h.fits; few = omega (arith, h.few); sum = h.sum }, e)

  -- two parts of the columns
  module _ (cs ds : List Column) where
    together : (i j k a b m x y : ℕ) → i + j ≤ k → RestCosts R cs i (xor a b) x → RestCosts R ds j b y → m ≡ R.join x y
        → RestCosts R (cs ++ ds) k a m
    together i j k a b m x y l (w, h, e) (v, g, f) o = (
      w ++ v,
      record {
        fits = fits-append h.fits g.fits;
        few = omega (arith, total-append ◌+◌ sums deviates h.fits ds v, h.few, g.few);
        sum = total-append xor xors (weigh R) h.fits ds v ∙ ap₂ xor h.sum g.sum ∙ apart a b (decided R cs) (decided R ds)
            ∙ ap (xor a) (sym (decided-append R cs ds));
      },
      total-append R.join J.gathers cost_at h.fits ds v ∙ ap₂ R.join e f ∙ sym o,
    )

    -- a choice for both: i and j deviations, differences a + b and b
    pub record Parted (k a m : ℕ) : Type 0 where
      pub i : ℕ
      pub j : ℕ
      pub b : ℕ
      pub x : ℕ
      pub y : ℕ
      pub few : i + j ≤ k
      pub small : b < R.size
      pub first : RestCosts R cs i (xor a b) x
      pub next : RestCosts R ds j b y
      pub whole : m ≡ R.join x y

    parted : All R ds → (k a m : ℕ) → RestCosts R (cs ++ ds) k a m → Parted k a m
    parted A k a m (u, h, o) =
        let r = fits_split cs h.fits in
        let w : List ℕ = r.0 in
        let v : List ℕ = r.1 in
        let f : Fits R.size cs w = r.2 in
        let g : Fits R.size ds v = r.3 in
        let e : u ≡ w ++ v = r.4 in
        let d : deviations cs w + deviations ds v ≤ k = omega
        (arith, ap (deviations (cs ++ ds)) e, total-append ◌+◌ sums deviates f ds v, h.few) in
        let s : xor (weighted_sum R cs w) (weighted_sum R ds v) ≡ xor a (xor (decided R cs) (decided R ds)) =
        sym (total-append xor xors (weigh R) f ds v) ∙ ap (weighted_sum R (cs ++ ds)) (sym e) ∙ h.sum
        ∙ ap (xor a) (decided-append R cs ds) in
        record {
          i = deviations cs w;
          j = deviations ds v;
          b = xor (weighted_sum R ds v) (decided R ds);
          x = cost_of R cs w;
          y = cost_of R ds v;
          few = d;
          small = size-xor _ _ (sums-small g A) (decided-small ds A);
          first = (w, record { fits = f; few = le_refl _; sum = first_is _ _ a _ _ s }, refl);
          next = (v, record { fits = g; few = le_refl _; sum = sym (twice _ _) }, refl);
          whole = sym o ∙ ap (cost_of R (cs ++ ds)) e ∙ total-append R.join J.gathers cost_at f ds v;
        }

  -- the order of two parts does not matter
  turned : (cs ds : List Column) → All R ds → (k a m : ℕ) → a < R.size → RestCosts R (cs ++ ds) k a m → RestCosts R (ds ++ cs) k a m
  turned cs ds A k a m l h =
      let P = parted cs ds A k a m h in
      let b : ℕ = xor a P.b in
      let e : xor a b ≡ P.b = xor_cancel a P.b in
      together ds cs P.j P.i k a b m P.y P.x (omega (arith, P.few)) (rw e P.next) P.first
      (P.whole ∙ op_comm R.join J P.x P.y)

  -- tables of the same columns in another order are the same
  pub rest_turn : (cs ds : List Column) → All R cs → All R ds → (k a : ℕ) → a < R.size → rest R (cs ++ ds) k a ≡ rest R (ds ++ cs) k a
  rest_turn cs ds A B k a l = best_one (rest_best R (cs ++ ds) k a)
      (best_iff (λ m. turned ds cs A k a m l) (λ m. turned cs ds B k a m l) (rest_best R (ds ++ cs) k a))

  -- two tables joined
  abbrev Across : (ℕ → ℕ → Type 0) → (ℕ → ℕ → Type 0) → ℕ → ℕ → Type 0
  Across P Q a m = (b : ℕ) × (b < R.size) × ((x y : ℕ) × P (xor a b) x × Q b y × (m ≡ R.join x y))

  across_best : (P Q : ℕ → ℕ → Type 0) (f g : ℕ → ℕ) → ((a : ℕ) → a < R.size → BestRest (P a) (f a))
      → ((a : ℕ) → a < R.size → BestRest (Q a) (g a))
      → (a : ℕ) → a < R.size → BestRest (Across P Q a) (joined_at meet R.size f g a)
  unfolding joined_at
  across_best P Q f g F G a l =
      best_to (λ b m. (x y : ℕ) × P (xor a b) x × Q b y × (m ≡ R.join x y)) (λ b. meet (f (xor a b)) (g b)) R.size
      (λ b h. best_meet R.join meet M (P (xor a b)) (Q b) (f (xor a b)) (g b) (F (xor a b) (size-xor a b l h)) (G b h))

  -- one column
  module _ (c : Column) (S : Sound R c) where
    abbrev z : ℕ
    z = (decision c).symbol

    one : All R (c ∷ [])
    one zero l = S
    one (suc n) l = absurd (omega arith)

    abbrev Line : ℕ → ℕ → Type 0
    Line a m = m ≡ cost_at c (symbol_at R c a)

    line_best : (a : ℕ) → BestRest (Line a) (line_at R c a)
    unfolding line_at
    line_best a = best_of (cost_at c (symbol_at R c a))

    symbol-at : (b : ℕ) → b < R.size → (difference R c (symbol_at R c b) ≡ b) × (symbol_at R c b < R.size)
    unfolding symbol_at
    symbol-at b h =
        let t : ℕ = xor b (weigh R c z) in
        let k : t < R.size = size-xor b _ h (S.closed _ S.below) in
        let e : difference R c (S.solve t k) ≡ b = rw (S.solves t k, xor_assoc b, xor_self, xor_right) in
        let r = first_passes (λ x. eqb (difference R c x) b) (up_to R.size) (in_up_to (S.solve_below t k)) (rw e (eqb_refl b)) in
        (eqb→eq _ b r.0, of_up_to r.1)

    one-decided : decided R (c ∷ []) ≡ weigh R c z
    unfolding decided
    one-decided = xor_right _

    line-costs : (j a m : ℕ) → 1 ≤ j → a < R.size → Line a m → RestCosts R (c ∷ []) j a m
    line-costs j a m h l e =
        let r = symbol-at a l in
        let x : ℕ = symbol_at R c a in (
          x ∷ [],
          record {
            fits = more r.1 none;
            few = omega (arith, deviates-small c x);
            sum = xor_right (weigh R c x) ∙ sym (twice (weigh R c x) (weigh R c z)) ∙ ap₂ xor r.0 (sym one-decided);
          },
          J.right _ ∙ sym e,
        )

    costs-line : (j a m : ℕ) → a < R.size → RestCosts R (c ∷ []) j a m → Line a m
    costs-line j a m l (w, h, e) = go h.fits h.sum e
      where
        go : {w : List ℕ} → Fits R.size (c ∷ []) w → weighted_sum R (c ∷ []) w ≡ xor a (decided R (c ∷ [])) → cost_of R (c ∷ []) w ≡ m
            → Line a m
        go (more {x = x} k none) s e =
            let r = symbol-at a l in
            let t : weigh R c x ≡ xor a (weigh R c z) = sym (xor_right _) ∙ s ∙ ap (xor a) one-decided in
            let u : weigh R c (symbol_at R c a) ≡ xor a (weigh R c z) = sym (twice _ (weigh R c z))
            ∙ ap (λ y. xor y (weigh R c z)) r.0 in
            sym e ∙ J.right _ ∙ ap (cost_at c) (S.single x (symbol_at R c a) k r.1 (t ∙ sym u))

    -- one column alone: its line
    pub rest-one : (j a : ℕ) → 1 ≤ j → a < R.size → rest R (c ∷ []) j a ≡ line_at R c a
    rest-one j a h l = best_one (rest_best R (c ∷ []) j a) (best_iff (λ m. line-costs j a m h l) (λ m. costs-line j a m l) (line_best a))

    -- one column more
    module _ (cs : List Column) (A : All R cs) where
      abbrev Grown : ℕ → ℕ → ℕ → Type 0
      Grown j a m = RestCosts R cs (suc (suc j)) a m ⊎ Across (RestCosts R cs (suc j)) Line a m

      grow_there : (j a m : ℕ) → a < R.size → Grown j a m → RestCosts R (cs ++ (c ∷ [])) (suc (suc j)) a m
      grow_there j a m l s =
          ⊎_elim
          (λ (h : RestCosts R cs (suc (suc j)) a m). together cs (c ∷ []) (suc (suc j)) 0 (suc (suc j)) a 0 m m 0 (omega arith)
          (rw (xor_right a) h) (zero-costs (c ∷ []) one 0) (sym (J.right m)))
          (λ (h : Across (RestCosts R cs (suc j)) Line a m).
          let b : ℕ = h.0 in
          together cs (c ∷ []) (suc j) 1 (suc (suc j)) a b m h.2.0 h.2.1 (omega arith) h.2.2
          (line-costs 1 b h.2.1 (omega arith) h.1 h.2.3) h.2.4)
          s

      grow_back : (j a m : ℕ) → RestCosts R (cs ++ (c ∷ [])) (suc (suc j)) a m → Grown j a m
      grow_back j a m h =
          let P = parted cs (c ∷ []) one (suc (suc j)) a m h in
          elim (ℕ_discrete P.j 0) [
            | yes e ↦
                let r = zero-only (c ∷ []) one P.b P.y (rw e at P.next) in
                inl (costs-mono cs P.i (suc (suc j)) a m (omega (arith, P.few)) (kept P r.0 r.1))
            | no e ↦ inr (
              P.b,
              P.small,
              (
                P.x,
                P.y,
                costs-mono cs P.i (suc j) (xor a P.b) P.x (omega (arith, P.few))
                    P.first,
                costs-line P.j P.b P.y P.small P.next,
                P.whole,
              ),
            )
          ]
        where
          kept : (P : Parted cs (c ∷ []) (suc (suc j)) a m) → P.b ≡ 0 → P.y ≡ 0 → RestCosts R cs P.i a m
          kept P e f =
              let s : xor a P.b ≡ a = ap (xor a) e ∙ xor_right a in
              let t : m ≡ P.x = P.whole ∙ ap (R.join P.x) f ∙ J.right P.x in
              rw t (rw s at P.first)

      pub rest_more : (j a : ℕ) → a < R.size
          → rest R (cs ++ (c ∷ [])) (suc (suc j)) a ≡ max (rest R cs (suc (suc j)) a)
          (joined_at meet R.size (rest R cs (suc j)) (line_at R c) a)
      rest_more j a l =
          best_one (rest_best R (cs ++ (c ∷ [])) (suc (suc j)) a)
          (best_iff (λ m. grow_there j a m l) (λ m. grow_back j a m)
          (best_max (rest_best R cs (suc (suc j)) a)
          (across_best (RestCosts R cs (suc j)) Line (rest R cs (suc j)) (line_at R c) (λ b h. rest_best R cs (suc j) b)
          (λ b h. line_best b) a l)))

      first_there : (a m : ℕ) → a < R.size → RestCosts R cs 1 a m ⊎ Line a m → RestCosts R (cs ++ (c ∷ [])) 1 a m
      first_there a m l s =
          ⊎_elim
          (λ (h : RestCosts R cs 1 a m). together cs (c ∷ []) 1 0 1 a 0 m m 0 (omega arith) (rw (xor_right a) h) (zero-costs (c ∷ []) one 0)
          (sym (J.right m)))
          (λ (h : Line a m). together cs (c ∷ []) 0 1 1 a a m 0 m (omega arith) (rw (xor_self a) (zero-costs cs A 0))
          (line-costs 1 a m (omega arith) l h) (sym (J.gathers.left m)))
          s

      first_back : (a m : ℕ) → a < R.size → RestCosts R (cs ++ (c ∷ [])) 1 a m → RestCosts R cs 1 a m ⊎ Line a m
      first_back a m l h =
          let P = parted cs (c ∷ []) one 1 a m h in
          elim (ℕ_discrete P.j 0) [
            | yes e ↦
                let r = zero-only (c ∷ []) one P.b P.y (rw e at P.next) in
                inl (costs-mono cs P.i 1 a m (omega (arith, P.few)) (kept P r.0 r.1))
            | no e ↦
                let i : P.i ≡ 0 = omega (arith, P.few) in
                let r = zero-only cs A (xor a P.b) P.x (rw i at P.first) in
                inr (lined P r.0 r.1)
          ]
        where
          kept : (P : Parted cs (c ∷ []) 1 a m) → P.b ≡ 0 → P.y ≡ 0 → RestCosts R cs P.i a m
          kept P e f =
              let s : xor a P.b ≡ a = ap (xor a) e ∙ xor_right a in
              let t : m ≡ P.x = P.whole ∙ ap (R.join P.x) f ∙ J.right P.x in
              rw t (rw s at P.first)

          lined : (P : Parted cs (c ∷ []) 1 a m) → xor a P.b ≡ 0 → P.x ≡ 0 → Line a m
          lined P e f =
              let s : P.b ≡ a = sym (xor_cancel a P.b) ∙ ap (xor a) e ∙ xor_right a in
              let t : m ≡ P.y = P.whole ∙ ap (λ y. R.join y P.y) f ∙ J.gathers.left P.y in
              t ∙ costs-line P.j P.b P.y P.small P.next ∙ ap (λ b. cost_at c (symbol_at R c b)) s

      pub rest-first : (a : ℕ) → a < R.size → rest R (cs ++ (c ∷ [])) 1 a ≡ max (rest R cs 1 a) (line_at R c a)
      rest-first a l = best_one (rest_best R (cs ++ (c ∷ [])) 1 a)
          (best_iff (λ m. first_there a m l) (λ m. first_back a m l) (best_max (rest_best R cs 1 a) (line_best a)))

  -- two parts of the columns joined
  module _ (cs ds : List Column) (A : All R cs) (B : All R ds) (k : ℕ) where
    abbrev Middle : ℕ → ℕ → Type 0
    Middle a m = (i : ℕ) × (i < k - 1) × Across (RestCosts R cs (k - suc i)) (RestCosts R ds (suc i)) a m

    abbrev Between : ℕ → ℕ → Type 0
    Between a m = (RestCosts R cs k a m ⊎ RestCosts R ds k a m) ⊎ Middle a m

    between_there : (a m : ℕ) → a < R.size → Between a m → RestCosts R (cs ++ ds) k a m
    between_there a m l s =
        ⊎_elim
        (λ (t : RestCosts R cs k a m ⊎ RestCosts R ds k a m). ⊎_elim
        (λ (h : RestCosts R cs k a m). together cs ds k 0 k a 0 m m 0 (omega arith) (rw (xor_right a) h) (zero-costs ds B 0)
        (sym (J.right m)))
        (λ (h : RestCosts R ds k a m). together cs ds 0 k k a a m 0 m (omega arith) (rw (xor_self a) (zero-costs cs A 0)) h
        (sym (J.gathers.left m)))
        t)
        (λ (h : Middle a m).
        let r = h.2 in
        together cs ds (k - suc h.0) (suc h.0) k a r.0 m r.2.0 r.2.1 (omega (arith, h.1)) r.2.2 r.2.3
        r.2.4)
        s

    between-back : (a m : ℕ) → RestCosts R (cs ++ ds) k a m → Between a m
    between-back a m h =
        let P = parted cs ds B k a m h in
        elim (ℕ_discrete P.j 0) [
          | yes e ↦
              let r = zero-only ds B P.b P.y (rw e at P.next) in
              inl (inl (costs-mono cs P.i k a m (omega (arith, P.few)) (left P r.0 r.1)))
          | no e ↦
              elim (ℕ_discrete P.i 0) [
                | yes f ↦
                    let r = zero-only cs A (xor a P.b) P.x (rw f at P.first) in
                    inl (inr (costs-mono ds P.j k a m (omega (arith, P.few)) (right P r.0 r.1)))
                | no f ↦ inr (
                  P.j - 1,
                  omega (arith, P.few),
                  (
                    P.b,
                    P.small,
                    (
                      P.x,
                      P.y,
                      costs-mono cs P.i (k - suc (P.j - 1)) (xor a P.b) P.x (omega (arith, P.few)) P.first,
                      costs-mono ds P.j (suc (P.j - 1)) P.b P.y (omega arith) P.next,
                      P.whole,
                    ),
                  ),
                )
              ]
        ]
      where
        left : (P : Parted cs ds k a m) → P.b ≡ 0 → P.y ≡ 0 → RestCosts R cs P.i a m
        left P e f =
            let s : xor a P.b ≡ a = ap (xor a) e ∙ xor_right a in
            let t : m ≡ P.x = P.whole ∙ ap (R.join P.x) f ∙ J.right P.x in
            rw t (rw s at P.first)

        right : (P : Parted cs ds k a m) → xor a P.b ≡ 0 → P.x ≡ 0 → RestCosts R ds P.j a m
        right P e f =
            let s : P.b ≡ a = sym (xor_cancel a P.b) ∙ ap (xor a) e ∙ xor_right a in
            let t : m ≡ P.y = P.whole ∙ ap (λ y. R.join y P.y) f ∙ J.gathers.left P.y in
            rw t (rw s at P.next)

    pub rest-between : (a : ℕ) → a < R.size → rest R (cs ++ ds) k a ≡ between meet R.size k (rest R cs) (rest R ds) a
    unfolding between
    rest-between a l =
        best_one (rest_best R (cs ++ ds) k a)
        (best_iff (λ m. between_there a m l) (λ m. between-back a m)
        (best_max (best_max (rest_best R cs k a) (rest_best R ds k a))
        (best_to (λ i m. Across (RestCosts R cs (k - suc i)) (RestCosts R ds (suc i)) a m)
        (λ i. joined_at meet R.size (rest R cs (k - suc i)) (rest R ds (suc i)) a) (k - 1)
        (λ i h. across_best (RestCosts R cs (k - suc i)) (RestCosts R ds (suc i)) (rest R cs (k - suc i)) (rest R ds (suc i))
        (λ b j. rest_best R cs (k - suc i) b) (λ b j. rest_best R ds (suc i) b) a l))))
