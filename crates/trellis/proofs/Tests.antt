-- Tests and the facts that they stand for.
use mathlib.Core.Path.{◌≡◌, refl}
use mathlib.Core.Bool.{Bool, true, false, ◌&&◌, ◌||◌}
use mathlib.Core.Logic.{◌⊎◌, inl, inr}
use Prim.Native.Nat.{ℕ, zero, suc, ◌≤◌, ◌<◌}
use native.Mathlib.Nat.{not-suc-le-zero}
use native.Mathlib.Decide.{ℕ_discrete}
use native.Mathlib.Omega.{arith}
use lib.Dec.{T}
use Rattle.trellis.specs.Lists.{all_to}

-- a Boolean and its fact
pub holds-or-not : (b : Bool) → T b ⊎ (T b → ⊥)
holds-or-not true = inl tt
holds-or-not false = inr (λ t. t)

pub or_cases : (a b : Bool) → T (a || b) → T a ⊎ T b
or_cases true b t = inl tt
or_cases false b t = inr t

pub or_left : (a b : Bool) → T a → T (a || b)
or_left true b t = tt
or_left false b t = absurd t

pub or_right : (a b : Bool) → T b → T (a || b)
or_right true b t = tt
or_right false b t = t

pub both : (a b : Bool) → T a → T b → T (a && b)
both true b s t = t
both false b s t = absurd s

pub fst_T : (a b : Bool) → T (a && b) → T a
fst_T true b t = tt
fst_T false b t = t

pub snd_T : (a b : Bool) → T (a && b) → T b
snd_T true b t = t
snd_T false b t = absurd t

pub of_true : {b : Bool} → b ≡ true → T b
of_true e = rw e tt

pub to_true : {b : Bool} → T b → b ≡ true
to_true {b = true} t = refl
to_true {b = false} t = absurd t

-- a test that holds at each number below n
pub all-at : (f : ℕ → Bool) (n : ℕ) → T (all_to f n) → (m : ℕ) → m < n → T (f m)
all-at f zero h m l = absurd (not-suc-le-zero l)
all-at f (suc n) h m l =
    elim (ℕ_discrete m n) [
      | yes e ↦ rw e (snd_T (all_to f n) (f n) h)
      | no e ↦ all-at f n (fst_T (all_to f n) (f n) h) m (omega arith)
    ]

pub all_of : (f : ℕ → Bool) (n : ℕ) → ((m : ℕ) → m < n → T (f m)) → T (all_to f n)
all_of f zero h = tt
all_of f (suc n) h = both (all_to f n) (f n) (all_of f n (λ m l. h m (omega arith))) (h n (omega arith))

-- a test at each number below n, or one at which it fails
pub all-or-one : (p : ℕ → Bool) (n : ℕ) → ((m : ℕ) → m < n → T (p m)) ⊎ ((m : ℕ) × (m < n) × (T (p m) → ⊥))
all-or-one p zero = inl (λ m h. absurd (not-suc-le-zero h))
all-or-one p (suc n) = go (all-or-one p n) (holds-or-not (p n))
  where
    go : ((m : ℕ) → m < n → T (p m)) ⊎ ((m : ℕ) × (m < n) × (T (p m) → ⊥)) → T (p n) ⊎ (T (p n) → ⊥)
        → ((m : ℕ) → m < suc n → T (p m)) ⊎ ((m : ℕ) × (m < suc n) × (T (p m) → ⊥))
    go (inr f) d = inr (f.0, omega (arith, f.1), f.2)
    go (inl a) (inr d) = inr (n, omega arith, d)
    go (inl a) (inl d) = inl (λ m h. elim (ℕ_discrete m n) [ yes e ↦ rw e d | no e ↦ a m (omega arith) ])

-- a test that holds for each field, p from 2 to 6
pub each_field : (f : ℕ → Bool) → T (f 2 && (f 3 && (f 4 && (f 5 && f 6)))) → (p : ℕ) → 2 ≤ p → p ≤ 6 → T (f p)
each_field f t zero l h = absurd (omega arith)
each_field f t (suc zero) l h = absurd (omega arith)
each_field f t (suc (suc zero)) l h = fst_T (f 2) _ t
each_field f t (suc (suc (suc zero))) l h = fst_T (f 3) _ (snd_T (f 2) _ t)
each_field f t (suc (suc (suc (suc zero)))) l h = fst_T (f 4) _ (snd_T (f 3) _ (snd_T (f 2) _ t))
each_field f t (suc (suc (suc (suc (suc zero))))) l h = fst_T (f 5) _ (snd_T (f 4) _ (snd_T (f 3) _ (snd_T (f 2) _ t)))
each_field f t (suc (suc (suc (suc (suc (suc zero)))))) l h = snd_T (f 5) _ (snd_T (f 4) _ (snd_T (f 3) _ (snd_T (f 2) _ t)))
each_field f t (suc (suc (suc (suc (suc (suc (suc p))))))) l h = absurd (omega arith)
