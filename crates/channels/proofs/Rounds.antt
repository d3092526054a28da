-- The order of service by rounds, as a loop over channels inside a loop would go, and the round in which nothing is served.
use mathlib.Core.Path.{◌≡◌, refl, sym, ap, ap₂, ◌∙◌}
use mathlib.Core.Bool.{Bool}
use mathlib.Core.Logic.{⊎_elim}
use Prim.Native.Nat.{ℕ, zero, suc, ◌+◌, ◌*◌, ◌%◌, ◌≤◌}
use native.Mathlib.Nat.{add-zero, add-suc, mul-suc, mul-zero, mod-eq_of_lt, mul-add-mod_self_left}
use native.Mathlib.Omega.{arith}
use lib.ListN.{replicate}
use Rattle.trellis.specs.Lists.{upto}
use Rattle.channels.specs.Serving.{Served, serving, servings, serve}
use Rattle.channels.proofs.Servings.{Iterates, Skips, serving_cases}

module _ (fin : ℕ → ℕ → Bool) (n A : ℕ) where
  -- one round: each channel's serving, by number
  unfoldable pub round : Served → Served
  round s = upto (serving fin) n s

  abbrev pub rounds : ℕ → Served → Served
  rounds k s = upto (λ i. round) k s

  abbrev pub unserved : Served
  unserved = record { counts = replicate n 0; left = A }

  step : (k : ℕ) → servings fin n A (suc k) ≡ serving fin (k % n) (servings fin n A k)
  unfolding servings
  step k = refl

  first : servings fin n A 0 ≡ unserved
  unfolding servings
  first = refl

  within-round : (r : ℕ) (s : Served) → servings fin n A (n * r) ≡ s → (c : ℕ) → c ≤ n → servings fin n A (n * r + c) ≡ upto (serving fin) c s
  within-round r s e zero h = ap (servings fin n A) (add-zero (n * r)) ∙ e
  within-round r s e (suc c) h =
      ap (servings fin n A) (add-suc (n * r) c)
      ∙ step (n * r + c)
      ∙ ap₂ (serving fin) (mul-add-mod_self_left n r c ∙ mod-eq_of_lt h) (within-round r s e c (omega arith))

  after-rounds : (r : ℕ) → servings fin n A (n * r) ≡ rounds r unserved
  unfolding round
  after-rounds zero = ap (servings fin n A) (mul-zero n) ∙ first
  after-rounds (suc r) = ap (servings fin n A) (mul-suc n r) ∙ within-round r (rounds r unserved) (after-rounds r) n (omega arith)

  pub serve_rounds : serve fin n A ≡ rounds A unserved
  serve_rounds = after-rounds A

  -- the first of some rounds, and then the others
  pub rounds_first : (k : ℕ) (s : Served) → rounds (suc k) s ≡ rounds k (round s)
  rounds_first zero s = refl
  rounds_first (suc k) s = ap round (rounds_first k s)

  -- a round that leaves as much as it found has served nobody, and so do those after it
  falls : (c : ℕ) (s : Served) → (upto (serving fin) c s).left ≤ s.left
  falls zero s = omega arith
  falls (suc c) s =
      ⊎_elim (λ (M : Iterates fin c (upto (serving fin) c s) (serving fin c (upto (serving fin) c s))). omega (arith, M.left, falls c s))
      (λ (K : Skips fin c (upto (serving fin) c s) (serving fin c (upto (serving fin) c s))). rw K.same (falls c s)) (serving_cases fin c (upto (serving fin) c s))

  nobody : (c : ℕ) (s : Served) → (upto (serving fin) c s).left ≡ s.left → upto (serving fin) c s ≡ s
  nobody zero s e = refl
  nobody (suc c) s e =
      ⊎_elim (λ (M : Iterates fin c (upto (serving fin) c s) (serving fin c (upto (serving fin) c s))). absurd (omega (arith, M.left, M.some, falls c s)))
      (λ (K : Skips fin c (upto (serving fin) c s) (serving fin c (upto (serving fin) c s))).
      K.same ∙ nobody c s (ap (λ (s : Served). s.left) (sym K.same) ∙ e)) (serving_cases fin c (upto (serving fin) c s))

  pub quiet_round : (s : Served) → (round s).left ≡ s.left → round s ≡ s
  unfolding round
  quiet_round s e = nobody n s e

  pub quiet_rounds : (k : ℕ) (s : Served) → (round s).left ≡ s.left → rounds k s ≡ s
  quiet_rounds zero s e = refl
  quiet_rounds (suc k) s e = ap round (quiet_rounds k s e) ∙ quiet_round s e
