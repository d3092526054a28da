-- Lists that the machine is made of.
use mathlib.Core.Path.{◌≡◌, refl, ap, ◌∙◌}
use mathlib.Core.Bool.{Bool, true, false, ◌&&◌}
use mathlib.Core.List.{List, [], ◌∷◌, map}
use Prim.Native.Nat.{ℕ, zero, suc, ◌+◌, ◌<◌}
use native.Mathlib.Nat.{not-suc-le-zero, le_of_suc-le-suc}
use native.Mathlib.Decide.{ℕ_discrete}
use native.Mathlib.Omega.{arith}
use lib.ListN.{get_or}
use Rattle.trellis.specs.Lists.{count_from, up_to, pick, all_to}

pub at_count : {A : Type 0} (f : ℕ → A) (i n j : ℕ) (e : A) → j < n → get_or (map f (count_from i n)) j e ≡ f (i + j)
at_count f i zero j e h = absurd (not-suc-le-zero h)
at_count f i (suc n) zero e h = ap f (omega arith)
at_count f i (suc n) (suc j) e h = at_count f (suc i) n j e (le_of_suc-le-suc h) ∙ ap f (omega arith)

pub at_up_to : {A : Type 0} (f : ℕ → A) (n j : ℕ) (e : A) → j < n → get_or (map f (up_to n)) j e ≡ f j
at_up_to f n j e h = at_count f 0 n j e h ∙ ap f (omega arith)

pub map-after : {A B D : Type 0} (g : B → D) (f : A → B) (l : List A) → map g (map f l) ≡ map (λ x. g (f x)) l
map-after g f [] = refl
map-after g f (x ∷ l) = ap (λ r. g (f x) ∷ r) (map-after g f l)

pub pick_elim : {A : Type 0} (P : A → Type 0) (b : Bool) (x y : A) → P x → P y → P (pick b x y)
pick_elim P true x y h k = h
pick_elim P false x y h k = k

pub and_false : (b : Bool) → b && false ≡ false
and_false true = refl
and_false false = refl

-- a test that fails once fails
pub all-not : (f : ℕ → Bool) (m n : ℕ) → m < n → f m ≡ false → all_to f n ≡ false
all-not f m zero h e = absurd (not-suc-le-zero h)
all-not f m (suc n) h e =
    elim (ℕ_discrete m n) [
      | yes i ↦ rw (← i, e) (and_false (all_to f m))
      | no i ↦ rw (all-not f m n (omega arith) e)
    ]
