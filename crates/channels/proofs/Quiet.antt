-- Rounds until nothing is served: a round that spends nothing changes nothing, so that a loop may end with it and has then made all A rounds.
use mathlib.Core.Path.{◌≡◌, refl, sym, ap, ◌∙◌}
use mathlib.Core.Bool.{Bool, true, false, not, ◌||◌}
use mathlib.Core.Logic.{◌⊎◌, inl, inr, ⊎_elim}
use Prim.Native.Nat.{ℕ, zero, suc, ◌-◌, ◌≤◌, ◌<◌}
use native.Mathlib.Omega.{arith}
use lib.Dec.{eqb}
use borrow.Author.Tests.{eqb-false}
use Rattle.trellis.specs.Lists.{pick, upto}
use Rattle.machine.specs.CodeLine.{Code}
use Rattle.channels.specs.inner.Rounds.{Standing, status_at, moved_at, serving_at, round_at, rounds_at}

module _ (C : Code) (n : ℕ) where
  serving-left : (c : ℕ) (l : Standing) → (serving_at C c l ≡ l) ⊎ ((serving_at C c l).left < l.left)
  unfolding serving_at moved_at
  serving-left c l = go (not (eqb (status_at l c) 20)) (eqb l.left 0) refl
    where
      go : (i j : Bool) → eqb l.left 0 ≡ j → (pick (i || j) l (moved_at C c l) ≡ l) ⊎ ((pick (i || j) l (moved_at C c l)).left < l.left)
      go true j e = inl refl
      go false true e = inl refl
      go false false e = inr (less l.left (eqb-false l.left 0 e))
        where
          less : (x : ℕ) → (x ≡ 0 → ⊥) → x - 1 < x
          less zero h = absurd (h refl)
          less (suc x) h = omega arith

  servings-left : (k : ℕ) (l : Standing) → (upto (serving_at C) k l ≡ l) ⊎ ((upto (serving_at C) k l).left < l.left)
  servings-left zero l = inl refl
  servings-left (suc k) l = go (servings-left k l) (serving-left k (upto (serving_at C) k l))
    where
      m : Standing
      m = upto (serving_at C) k l

      go : (m ≡ l) ⊎ (m.left < l.left) → (serving_at C k m ≡ m) ⊎ ((serving_at C k m).left < m.left) → (serving_at C k m ≡ l) ⊎ ((serving_at C k m).left < l.left)
      go (inl a) (inl b) = inl (b ∙ a)
      go (inl a) (inr b) = let e : m.left ≡ l.left = ap (λ (x : Standing). x.left) a in inr (omega arith)
      go (inr a) (inl b) = let e : (serving_at C k m).left ≡ m.left = ap (λ (x : Standing). x.left) b in inr (omega arith)
      go (inr a) (inr b) = inr (omega arith)

  pub round_left : (l : Standing) → (round_at C n l ≡ l) ⊎ ((round_at C n l).left < l.left)
  unfolding round_at
  round_left l = servings-left n l

  abbrev R : Standing → Standing
  R = round_at C n

  rounds_first : (k : ℕ) (l : Standing) → rounds_at C n (suc k) l ≡ rounds_at C n k (R l)
  rounds_first zero l = refl
  rounds_first (suc k) l = ap R (rounds_first k l)

  -- a round that changes nothing is followed by such rounds only
  pub quiet : (k : ℕ) (l : Standing) → R l ≡ l → rounds_at C n k l ≡ l
  quiet zero l e = refl
  quiet (suc k) l e = ap R (quiet k l e) ∙ e

  -- as many rounds as iterations are left are enough
  pub enough : (a : ℕ) (l : Standing) → l.left ≤ a → (k : ℕ) → l.left ≤ k → rounds_at C n k l ≡ rounds_at C n l.left l
  enough zero l h k i = ⊎_elim (λ e. quiet k l e ∙ sym (quiet l.left l e)) (λ s. absurd (omega arith)) (round_left l)
  enough (suc a) l h k i =
      ⊎_elim (λ e. quiet k l e ∙ sym (quiet l.left l e)) (λ s. more k l.left refl i s (λ m g. enough a (R l) (omega arith) m g)) (round_left l)
    where
      more : (k x : ℕ) → l.left ≡ x → l.left ≤ k → (R l).left < l.left → ((m : ℕ) → (R l).left ≤ m → rounds_at C n m (R l) ≡ rounds_at C n (R l).left (R l))
          → rounds_at C n k l ≡ rounds_at C n x l
      more zero x e i s f = absurd (omega arith)
      more (suc k) zero e i s f = absurd (omega arith)
      more (suc k) (suc x) e i s f = rounds_first k l ∙ f k (omega arith) ∙ sym (rounds_first x l ∙ f x (omega arith))

  round_more : (l : Standing) (x : ℕ) → l.left ≡ x → ((R l).left ≡ l.left → ⊥) → rounds_at C n (R l).left (R l) ≡ rounds_at C n x l
  round_more l x e h = ⊎_elim (λ s. absurd (h (ap (λ (x : Standing). x.left) s))) (λ s. go x e s) (round_left l)
    where
      go : (x : ℕ) → l.left ≡ x → (R l).left < l.left → rounds_at C n (R l).left (R l) ≡ rounds_at C n x l
      go zero e s = absurd (omega arith)
      go (suc x) e s = sym (rounds_first x l ∙ enough x (R l) (omega arith) x (omega arith))

  -- one pass of the loop, where l' is what a round leaves of l and T is where the rounds end: with nothing spent l' is the end, with something
  -- spent as many rounds as are left give the same end, and fewer are left
  module _ (l l' T : Standing) (is : l' ≡ round_at C n l) where
    left_is : l'.left ≡ (R l).left
    left_is = ap (λ (x : Standing). x.left) is

    pub end_law : l'.left ≡ l.left → rounds_at C n l.left l ≡ T → l' ≡ T
    end_law e h = ⊎_elim (λ s. is ∙ s ∙ sym (quiet l.left l s) ∙ h) (λ s. absurd (omega (arith, left_is))) (round_left l)

    pub more_law : (l'.left ≡ l.left → ⊥) → rounds_at C n l.left l ≡ T → rounds_at C n l'.left l' ≡ T
    more_law e h = ap (λ (x : Standing). rounds_at C n x.left x) is ∙ round_more l l.left refl (λ g. e (left_is ∙ g)) ∙ h

    pub less_law : (l'.left ≡ l.left → ⊥) → l'.left < l.left
    less_law e = ⊎_elim (λ s. absurd (e (left_is ∙ ap (λ (x : Standing). x.left) s))) (λ s. omega (arith, left_is)) (round_left l)

-- rounds leave no more than there was
pub rounds_left : (C : Code) (n k : ℕ) (l : Standing) → (rounds_at C n k l).left ≤ l.left
rounds_left C n zero l = omega arith
rounds_left C n (suc k) l = ⊎_elim (λ o. rw o (rounds_left C n k l)) (λ o. omega (arith, rounds_left C n k l)) (round_left C n (rounds_at C n k l))
