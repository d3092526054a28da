-- Sent costs of a proper check. One deviation is enough, so they exist. E, the least of them, is the cost of a choice for all columns with at
-- most k deviations, and only its deviations can lie above E, so at most k columns do. Where the degree exceeds k, a cheapest choice for all
-- columns leaves a column at its decision, so its cost is E.
use mathlib.Core.Path.{◌≡◌, refl, sym, ◌∙◌}
use mathlib.Core.Logic.{◌≢◌, ◌⊎◌, inl, inr, ⊎_elim}
use mathlib.Core.Bool.{Bool, true, false, cond}
use mathlib.Core.List.Memᴰ
use mathlib.Core.List.{List, [], ◌∷◌}
use Prim.Native.Nat.{ℕ, suc, ◌+◌, ◌^◌, ◌≤◌, ◌<◌}
use native.Mathlib.Nat.{not-suc-le-zero, zero-add, add_left_comm, add_assoc}
use native.Mathlib.Decide.{ℕ_discrete}
use native.Mathlib.Omega.{arith}
use lib.Dec.{T, ltb, eqb, ltb→lt, eqb→eq, eqb_refl}
use lib.ListN.{length, get_or, set, get_or-map}
use lib.Seq.{get_or-set_same, get_or-set_other}
use Rattle.trellis.specs.Lists.{put, others, keep, count_from, up_to}
use Rattle.trellis.specs.Field.{xor}
use Rattle.trellis.specs.Check.{column, blank, Rule, Column, Fits, none, more, Allowed, IsLeast, cost_of, cost_at, weigh, deviates, decision, decisions, decided, shift, sent_at, extra, extra_of_all, deviations, weighted_sum, total}
use Rattle.trellis.specs.Record.{above}
use Rattle.trellis.proofs.Lists.{in_up_to, of_up_to, smallest_in, smallest_le}
use Rattle.trellis.proofs.Least.{least_is, is_least}
use Rattle.trellis.proofs.Xor.{xor-zero, xor_assoc, xor_lt, xor_turn, xor_cancel}
use Rattle.trellis.proofs.Total.{Gathers, fits-length, fits-others, fits-set, fits-put, others_put, at-put, total-others, others-set, others-map}

-- what + and max share
pub record Joins (op : ℕ → ℕ → ℕ) : Type 0 where
  pub gathers : Gathers op
  pub right : (a : ℕ) → op a 0 ≡ a
  pub mono : (a b c d : ℕ) → a ≤ b → c ≤ d → op a c ≤ op b d

-- a column of an accepted check
pub record Sound (R : Rule) (c : Column) : Type 0 where
  pub below : (decision c).symbol < R.size
  pub free : cost_at c (decision c).symbol ≡ 0
  pub closed : (x : ℕ) → x < R.size → weigh R c x < R.size
  pub solve : (b : ℕ) → b < R.size → ℕ
  pub solve_below : (b : ℕ) (h : b < R.size) → solve b h < R.size
  pub single : (x y : ℕ) → x < R.size → y < R.size → weigh R c x ≡ weigh R c y → x ≡ y
  pub solves : (b : ℕ) (h : b < R.size) → weigh R c (solve b h) ≡ b

-- an accepted check
pub record Proper (R : Rule) (cs : List Column) : Type 0 where
  pub sound : (n : ℕ) → n < length cs → Sound R (column cs n)
  pub joins : Joins R.join
  pub two : 2 ≤ length cs
  pub short : length cs ≤ 255
  pub one : 1 ≤ R.most
  pub p : ℕ
  pub power : R.size ≡ 2 ^ p
  pub wide : 2 ≤ R.size

pub xors : Gathers xor
xors = record { left = xor-zero; turn = xor_turn; assoc = xor_assoc }

pub sums : Gathers ◌+◌
sums = record { left = zero-add; turn = add_left_comm; assoc = add_assoc }

pub same-symbol : (c : Column) (x : ℕ) → x ≡ (decision c).symbol → deviates c x ≡ 0
same-symbol c x e = rw e (go (eqb (decision c).symbol (decision c).symbol) (eqb_refl (decision c).symbol))
  where
    go : (b : Bool) → T b → ◌≡◌ {A = ℕ} (cond b 0 1) 0
    go true t = refl
    go false t = absurd t

pub total-zero : (op : ℕ → ℕ → ℕ) → Gathers op → (f : Column → ℕ → ℕ) (cs : List Column) → ((n : ℕ) → n < length cs → f (column cs n) (decision (column cs n)).symbol ≡ 0)
    → total op f cs (decisions cs) ≡ 0
total-zero op G f [] h = refl
total-zero op G f (c ∷ cs) h = rw (h 0 (omega arith), total-zero op G f cs (λ n k. h (suc n) (omega arith))) (G.left 0)

pub deviates_cases : (c : Column) (x : ℕ) → (x ≡ (decision c).symbol) ⊎ (deviates c x ≡ 1)
deviates_cases c x = go (eqb x (decision c).symbol) refl
  where
    go : (b : Bool) → eqb x (decision c).symbol ≡ b → (x ≡ (decision c).symbol) ⊎ (◌≡◌ {A = ℕ} (cond b 0 1) 1)
    go true e = inl (eqb→eq _ _ (rw e tt))
    go false e = inr refl

pub deviates-small : (c : Column) (x : ℕ) → deviates c x ≤ 1
deviates-small c x = ⊎_elim (λ e. omega (arith, same-symbol c x e)) (λ e. omega arith) (deviates_cases c x)

-- fewer deviations than columns: a column keeps its decision
pub undeviated : {q : ℕ} {cs : List Column} {w : List ℕ} → Fits q cs w → deviations cs w < length cs → (n : ℕ) × (n < length cs) × (get_or w n 0 ≡ (decision (column cs n)).symbol)
undeviated none h = absurd (not-suc-le-zero h)
undeviated (more {c = c} {cs = cs} {x = x} {w = w} k f) h =
    ⊎_elim
    (λ (e : x ≡ (decision c).symbol). (0, omega arith, e))
    (λ (e : deviates c x ≡ 1). let r = undeviated f (omega arith) in (suc r.0, omega (arith, r.1), r.2))
    (deviates_cases c x)

-- columns of a list that all deviate are at most the deviations
pub count_le : {q : ℕ} {cs : List Column} {w : List ℕ} → Fits q cs w → (p : ℕ → Bool) (i : ℕ)
    → ((j n : ℕ) → n ≡ i + j → j < length cs → T (p n) → get_or w j 0 ≡ (decision (column cs j)).symbol → ⊥) → length (keep p (count_from i (length cs))) ≤ deviations cs w
count_le none p i h = omega arith
count_le (more {c = c} {cs = cs} {x = x} {w = w} k f) p i h =
    go (p i) refl (count_le f p (suc i) (λ j n e l. h (suc j) n (omega arith) (omega arith))) (deviates_cases c x)
  where
    go : (b : Bool) → p i ≡ b → length (keep p (count_from (suc i) (length cs))) ≤ deviations cs w → (x ≡ (decision c).symbol) ⊎ (deviates c x ≡ 1)
        → length (cond b (i ∷ keep p (count_from (suc i) (length cs))) (keep p (count_from (suc i) (length cs)))) ≤ deviates c x + deviations cs w
    go false e ih d = omega arith
    go true e ih (inl d) = absurd (h 0 i (omega arith) (omega arith) (rw e tt) d)
    go true e ih (inr d) = omega arith

module _ (R : Rule) (cs : List Column) (P : Proper R cs) (a : ℕ) where
  -- the weighted sum that stands for a
  abbrev pub goal : ℕ
  goal = xor a (decided R cs)

  pub fits-decisions : Fits R.size cs (decisions cs)
  fits-decisions = go cs (λ n h. (P.sound n h).below)
    where
      go : (ds : List Column) → ((n : ℕ) → n < length ds → (decision (column ds n)).symbol < R.size) → Fits R.size ds (decisions ds)
      go [] h = none
      go (d ∷ ds) h = more (h 0 (omega arith)) (go ds (λ n k. h (suc n) (omega arith)))

  pub decisions-cost : cost_of R cs (decisions cs) ≡ 0
  decisions-cost = total-zero R.join P.joins.gathers cost_at cs (λ n h. (P.sound n h).free)

  pub decisions-few : deviations cs (decisions cs) ≡ 0
  decisions-few = total-zero ◌+◌ sums deviates cs (λ n h. same-symbol (column cs n) _ refl)

  module _ (n : ℕ) (l : n < length cs) where
    abbrev pub z : ℕ
    z = (decision (column cs n)).symbol

    pub at-decisions : get_or (decisions cs) n 0 ≡ z
    at-decisions = get_or-map (λ c. (decision c).symbol) cs n blank

    pub split_decided : decided R cs ≡ xor (weigh R (column cs n) z) (shift R cs n)
    unfolding decided shift
    split_decided = rw (total-others xor xors (weigh R) fits-decisions n l, others-map (λ c. (decision c).symbol) cs n, at-decisions)

    module _ (w : List ℕ) (f : Fits R.size cs w) (e : get_or w n 0 ≡ z) where
      pub cost-others : cost_of R cs w ≡ cost_of R (others n cs) (others n w)
      cost-others = rw (total-others R.join P.joins.gathers cost_at f n l, e, (P.sound n l).free) (P.joins.gathers.left _)

      pub few-others : deviations cs w ≡ deviations (others n cs) (others n w)
      few-others = rw (total-others ◌+◌ sums deviates f n l, same-symbol (column cs n) (get_or w n 0) e) (zero-add _)

      pub sum-others : weighted_sum R cs w ≡ xor (weigh R (column cs n) z) (weighted_sum R (others n cs) (others n w))
      sum-others = rw (total-others xor xors (weigh R) f n l, e)

    -- a choice that decides column n, and a choice for the others
    pub take_out : (w : List ℕ) → get_or w n 0 ≡ z → Allowed R cs goal w → Allowed R (others n cs) (xor a (shift R cs n)) (others n w)
    take_out w e h =
        record {
          fits = fits-others h.fits n;
          few = omega (arith, h.few, few-others w h.fits e);
          sum =
              sym (xor_cancel (weigh R (column cs n) z) (weighted_sum R (others n cs) (others n w)))
              ∙ rw (← sum-others w h.fits e, h.sum, split_decided, xor_turn a, xor_cancel);
        }

    pub put_in : (w : List ℕ) → Allowed R (others n cs) (xor a (shift R cs n)) w → Allowed R cs goal (put n z w)
    put_in w h =
        let f : Fits R.size cs (put n z w) = fits-put cs n l (P.sound n l).below h.fits in
        let e : get_or (put n z w) n 0 ≡ z = at-put cs n z l h.fits in
        let o : others n (put n z w) ≡ w = others_put cs n z l h.fits in
        record {
          fits = f;
          few = rw (few-others (put n z w) f e, o) h.few;
          sum = rw (sum-others (put n z w) f e, o, h.sum, split_decided) (xor_turn _ _ _);
        }

  pub sent-below : (n : ℕ) (l : n < length cs) (w : List ℕ) → Allowed R cs goal w → get_or w n 0 ≡ z n l → sent_at R cs n a ≤ cost_of R cs w
  unfolding sent_at
  sent-below n l w h e =
      let t = take_out n l w e h in
      rw (cost-others n l w h.fits e) ((least_is R (others n cs) (xor a (shift R cs n)) (others n w) t).least (others n w) t)

  module _ (small : a < R.size) where
    -- one deviation is enough
    module _ (m : ℕ) (j : m < length cs) where
      abbrev target : ℕ
      target = xor a (weigh R (column cs m) (z m j))

      target_small : target < R.size
      target_small = rw P.power (xor_lt P.p _ _ (rw P.power at small) (rw P.power at ((P.sound m j).closed (z m j) (P.sound m j).below)))

      -- the symbol whose weighted difference from the decision is a
      pub symbol : ℕ
      symbol = (P.sound m j).solve target target_small

      single : List ℕ
      single = set (decisions cs) m symbol

      single-fits : Fits R.size cs single
      unfolding single symbol
      single-fits = fits-set fits-decisions m ((P.sound m j).solve_below target target_small)

      single-at : get_or single m 0 ≡ symbol
      unfolding single
      single-at = get_or-set_same (decisions cs) m symbol 0 (omega (arith, fits-length fits-decisions))

      single-others : others m single ≡ others m (decisions cs)
      unfolding single
      single-others = others-set (decisions cs) m symbol

      single-cost : cost_of R cs single ≡ cost_at (column cs m) symbol
      single-cost =
          rw (total-others R.join P.joins.gathers cost_at single-fits m j, single-at, single-others, ← cost-others m j (decisions cs) fits-decisions (at-decisions m j), decisions-cost)
          (P.joins.right _)

      single-allowed : Allowed R cs goal single
      unfolding shift decided
      single-allowed =
          record {
            fits = single-fits;
            few = rw (total-others ◌+◌ sums deviates single-fits m j, single-others, ← few-others m j (decisions cs) fits-decisions (at-decisions m j), decisions-few) (omega (arith, P.one, deviates-small (column cs m) (get_or single m 0)));
            sum = unfold symbol in rw (total-others xor xors (weigh R) single-fits m j, single-at, single-others, (P.sound m j).solves target target_small, split_decided m j, others-map (λ c. (decision c).symbol) cs m) (xor_assoc _ _ _);
          }

    -- a choice with one deviation, in a column other than n, is one for the columns other than n
    single-keeps : (n m : ℕ) (l : n < length cs) (j : m < length cs) → n ≢ m → get_or (single m j) n 0 ≡ z n l
    unfolding single
    single-keeps n m l j ne = get_or-set_other (decisions cs) m n (symbol m j) 0 ne ∙ at-decisions n l

    pub sent-one : (n m : ℕ) (l : n < length cs) (j : m < length cs) → n ≢ m → sent_at R cs n a ≤ cost_at (column cs m) (symbol m j)
    sent-one n m l j ne = rw (← single-cost m j) (sent-below n l (single m j) (single-allowed m j) (single-keeps n m l j ne))

    pub sent_is : (n : ℕ) (l : n < length cs) → IsLeast R (others n cs) (xor a (shift R cs n)) (sent_at R cs n a)
    unfolding sent_at
    sent_is n l =
        elim (ℕ_discrete n 0) [
          | yes e ↦ by 1 (omega (arith, P.two)) (omega arith)
          | no e ↦ by 0 (omega arith) e
        ]
      where
        by : (m : ℕ) → m < length cs → n ≢ m → IsLeast R (others n cs) (xor a (shift R cs n)) (sent_at R cs n a)
        by m j ne = least_is R (others n cs) (xor a (shift R cs n)) _ (take_out n l (single m j) (single-keeps n m l j ne) (single-allowed m j))

    -- E is sent to a column
    pub extra-sent : (n : ℕ) × (n < length cs) × (sent_at R cs n a ≡ extra R cs a)
    unfolding extra
    extra-sent =
        let r = Memᴰ.of_map (λ n. sent_at R cs n a) (up_to (length cs)) (smallest_in (Memᴰ.map (λ n. sent_at R cs n a) (in_up_to {n = length cs} {x = 0} (omega (arith, P.two))))) in
        (r.0, of_up_to r.1, r.2)

    -- and to none less
    pub extra_le : (n : ℕ) → n < length cs → extra R cs a ≤ sent_at R cs n a
    unfolding extra
    extra_le n l = smallest_le (Memᴰ.map (λ n. sent_at R cs n a) (in_up_to l))

    -- It is the cost of a choice for all columns with at most k deviations, one column of which keeps its decision
    pub extra-at : (w : List ℕ) × Allowed R cs goal w × (cost_of R cs w ≡ extra R cs a)
    extra-at =
        let r = extra-sent in
        let n : ℕ = r.0 in
        let l : n < length cs = r.1 in
        let i = sent_is n l in
        let h = put_in n l i.choice i.allowed in (
          put n (z n l) i.choice,
          h,
          cost-others n l _ h.fits (at-put cs n (z n l) l i.allowed.fits) ∙ rw (others_put cs n (z n l) l i.allowed.fits, i.attained) r.2,
        )

    -- "Never more than two are needed": at most k columns have S above E
    pub above-few : length (above R cs a) ≤ R.most
    unfolding above
    above-few =
        let w = extra-at in
        omega (arith, w.1.few, count_le w.1.fits (λ n. ltb (extra R cs a) (sent_at R cs n a)) 0 (clash w.0 w.1 w.2))
      where
        clash : (w : List ℕ) → Allowed R cs goal w → cost_of R cs w ≡ extra R cs a
            → (j n : ℕ) → n ≡ 0 + j → j < length cs → T (ltb (extra R cs a) (sent_at R cs n a)) → get_or w j 0 ≡ (decision (column cs j)).symbol → ⊥
        clash w h c j n e l t k =
            let s : extra R cs a < sent_at R cs j a = rw (e, zero-add j) at (ltb→lt (extra R cs a) (sent_at R cs n a) t) in
            omega (arith, sent-below j l w h k)

    -- where the degree exceeds k, E is the least over all columns
    pub extra-least : R.most < length cs → IsLeast R cs goal (extra R cs a)
    extra-least deep =
        record {
          choice = extra-at.0;
          allowed = extra-at.1;
          attained = extra-at.2;
          least = λ w h. let r = undeviated h.fits (omega (arith, h.few)) in omega (arith, extra_le r.0 r.1, sent-below r.0 r.1 w h r.2);
        }

    pub extra_of_all_lem : R.most < length cs → extra_of_all R cs a ≡ extra R cs a
    unfolding extra_of_all
    extra_of_all_lem deep = is_least R cs goal (extra-least deep)

-- S(0) = 0: the decisions
pub sent-zero : (R : Rule) (cs : List Column) → Proper R cs → (n : ℕ) → n < length cs → sent_at R cs n 0 ≡ 0
unfolding decided
sent-zero R cs P n l =
    let h : Allowed R cs (xor 0 (decided R cs)) (decisions cs) =
    record { fits = fits-decisions R cs P 0; few = omega (arith, decisions-few R cs P 0); sum = sym (xor-zero _) } in
    omega (arith, sent-below R cs P 0 n l (decisions cs) h (at-decisions R cs P 0 n l), decisions-cost R cs P 0)
