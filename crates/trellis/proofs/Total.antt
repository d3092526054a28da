-- Totals over a choice: one column taken out, one symbol changed.
use mathlib.Core.Path.{◌≡◌, refl, sym, ap}
use mathlib.Core.List.{List, [], ◌∷◌, ◌++◌, map}
use Prim.Native.Nat.{ℕ, zero, suc, ◌<◌}
use native.Mathlib.Nat.{not-suc-le-zero, le_of_suc-le-suc}
use lib.ListN.{length, get_or, set}
use Rattle.trellis.specs.Lists.{put, others}
use Rattle.trellis.specs.Check.{column, Column, Fits, none, more, total}

-- what totals need of an operation
pub record Gathers (op : ℕ → ℕ → ℕ) : Type 0 where
  pub left : (a : ℕ) → op 0 a ≡ a
  pub turn : (a b c : ℕ) → op a (op b c) ≡ op b (op a c)
  pub assoc : (a b c : ℕ) → op (op a b) c ≡ op a (op b c)

module _ {q : ℕ} where
  pub fits-length : {cs : List Column} {w : List ℕ} → Fits q cs w → length w ≡ length cs
  fits-length none = refl
  fits-length (more k h) = ap suc (fits-length h)

  pub fits_below : {cs : List Column} {w : List ℕ} → Fits q cs w → (n : ℕ) → n < length cs → get_or w n 0 < q
  fits_below none n l = absurd (not-suc-le-zero l)
  fits_below (more k h) zero l = k
  fits_below (more k h) (suc n) l = fits_below h n (le_of_suc-le-suc l)

  -- taken out and put back
  pub put-others : {cs : List Column} {w : List ℕ} → Fits q cs w → (n : ℕ) → n < length cs → put n (get_or w n 0) (others n w) ≡ w
  put-others none n l = absurd (not-suc-le-zero l)
  put-others (more k h) zero l = refl
  put-others (more {x = x} k h) (suc n) l = ap {B = List ℕ} (λ v. x ∷ v) (put-others h n (le_of_suc-le-suc l))

  pub fits-others : {cs : List Column} {w : List ℕ} → Fits q cs w → (n : ℕ) → Fits q (others n cs) (others n w)
  fits-others none n = none
  fits-others (more k h) zero = h
  fits-others (more k h) (suc n) = more k (fits-others h n)

  pub fits-set : {cs : List Column} {w : List ℕ} → Fits q cs w → (n : ℕ) {x : ℕ} → x < q → Fits q cs (set w n x)
  fits-set none n l = none
  fits-set (more k h) zero l = more l h
  fits-set (more k h) (suc n) l = more k (fits-set h n l)

  pub fits-put : (cs : List Column) {w : List ℕ} (n : ℕ) {x : ℕ} → n < length cs → x < q → Fits q (others n cs) w → Fits q cs (put n x w)
  fits-put [] n l k h = absurd (not-suc-le-zero l)
  fits-put (c ∷ cs) zero l k h = more k h
  fits-put (c ∷ cs) (suc n) l k (more j h) = more j (fits-put cs n (le_of_suc-le-suc l) k h)

  pub others_put : (cs : List Column) {w : List ℕ} (n x : ℕ) → n < length cs → Fits q (others n cs) w → others n (put n x w) ≡ w
  others_put [] n x l h = absurd (not-suc-le-zero l)
  others_put (c ∷ cs) zero x l h = refl
  others_put (c ∷ cs) (suc n) x l (more {x = y} j h) = ap {B = List ℕ} (λ v. y ∷ v) (others_put cs n x (le_of_suc-le-suc l) h)

  pub at-put : (cs : List Column) {w : List ℕ} (n x : ℕ) → n < length cs → Fits q (others n cs) w → get_or (put n x w) n 0 ≡ x
  at-put [] n x l h = absurd (not-suc-le-zero l)
  at-put (c ∷ cs) zero x l h = refl
  at-put (c ∷ cs) (suc n) x l (more j h) = at-put cs n x (le_of_suc-le-suc l) h

  pub fits-append : {cs ds : List Column} {w v : List ℕ} → Fits q cs w → Fits q ds v → Fits q (cs ++ ds) (w ++ v)
  fits-append none g = g
  fits-append (more k h) g = more k (fits-append h g)

  pub fits_split : (cs : List Column) {ds : List Column} {u : List ℕ} → Fits q (cs ++ ds) u → (w v : List ℕ) × Fits q cs w × Fits q ds v × (u ≡ w ++ v)
  fits_split [] {u = u} f = ([], u, none, f, refl)
  fits_split (c ∷ cs) (more {x = x} k f) = let r = fits_split cs f in (x ∷ r.0, r.1, more k r.2, r.3, ap {B = List ℕ} (λ l. x ∷ l) r.4)

  module _ (op : ℕ → ℕ → ℕ) (G : Gathers op) (f : Column → ℕ → ℕ) where
    pub total-append : {cs : List Column} {w : List ℕ} → Fits q cs w → (ds : List Column) (v : List ℕ) → total op f (cs ++ ds) (w ++ v) ≡ op (total op f cs w) (total op f ds v)
    total-append none ds v = sym (G.left _)
    total-append (more k h) ds v = rw (total-append h ds v) (sym (G.assoc _ _ _))

    -- a total is the part of column n, joined with the total over the others
    pub total-others : {cs : List Column} {w : List ℕ} → Fits q cs w → (n : ℕ) → n < length cs
        → total op f cs w ≡ op (f (column cs n) (get_or w n 0)) (total op f (others n cs) (others n w))
    total-others none n l = absurd (not-suc-le-zero l)
    total-others (more k h) zero l = refl
    total-others (more k h) (suc n) l = rw (total-others h n (le_of_suc-le-suc l)) (G.turn _ _ _)

pub others-set : (w : List ℕ) (n x : ℕ) → others n (set w n x) ≡ others n w
others-set [] n x = refl
others-set (y ∷ w) zero x = refl
others-set (y ∷ w) (suc n) x = ap {B = List ℕ} (λ v. y ∷ v) (others-set w n x)

pub others-map : {A B : Type 0} (f : A → B) (l : List A) (n : ℕ) → others n (map f l) ≡ map f (others n l)
others-map f [] n = refl
others-map f (x ∷ l) zero = refl
others-map f (x ∷ l) (suc n) = ap (λ v. f x ∷ v) (others-map f l n)
