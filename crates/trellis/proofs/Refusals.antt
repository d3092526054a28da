-- The laws of a table of refusals: two tables one after the other, and what a table leads to by the number of the first line that applies.
use mathlib.Core.Path.{◌≡◌, refl, sym, ap, ap₂, ◌∙◌}
use mathlib.Core.Bool.{Bool, true, false}
use mathlib.Core.Logic.{◌≢◌}
use mathlib.Core.List.{List, [], ◌∷◌, ◌++◌}
use Prim.Native.Nat.{ℕ}
use native.Mathlib.Omega.{arith}
use lib.Dec.{eqb}
use borrow.Author.Tests.{eq-eqb, ne_eqb}
use Rattle.trellis.specs.Lists.{pick}
use Rattle.trellis.specs.Refusals.{Test, when, unless, refused_by, fault_by, passes}

pub in_order_lem : {A : Type 0} (l m : List Test) (bad : ℕ → A) (good : A) → refused_by (l ++ m) bad good ≡ refused_by l bad (refused_by m bad good)
in_order_lem [] m bad good = refl
in_order_lem (when b k ∷ l) m bad good = ap (λ a. pick b (bad k) a) (in_order_lem l m bad good)
in_order_lem (unless b k ∷ l) m bad good = ap (λ a. pick b a (bad k)) (in_order_lem l m bad good)

-- what is done with either end
pub then-ends : {A B : Type 0} (h : A → B) (l : List Test) (bad : ℕ → A) (good : A) → h (refused_by l bad good) ≡ refused_by l (λ k. h (bad k)) (h good)
then-ends h [] bad good = refl
then-ends h (when b k ∷ l) bad good = go b (then-ends h l bad good)
  where
    go : (c : Bool) → h (refused_by l bad good) ≡ refused_by l (λ k. h (bad k)) (h good)
        → h (pick c (bad k) (refused_by l bad good)) ≡ pick c (h (bad k)) (refused_by l (λ k. h (bad k)) (h good))
    go true e = refl
    go false e = e
then-ends h (unless b k ∷ l) bad good = go b (then-ends h l bad good)
  where
    go : (c : Bool) → h (refused_by l bad good) ≡ refused_by l (λ k. h (bad k)) (h good)
        → h (pick c (refused_by l bad good) (bad k)) ≡ pick c (refused_by l (λ k. h (bad k)) (h good)) (h (bad k))
    go true e = e
    go false e = refl

-- no number of a table is 0
abbrev pub Numbered : List Test → Type 0
Numbered [] = Unit {0}
Numbered (when b k ∷ l) = (k ≢ 0) × Numbered l
Numbered (unless b k ∷ l) = (k ≢ 0) × Numbered l

pub by_number : {A : Type 0} (l : List Test) → Numbered l → (bad : ℕ → A) (good : A)
    → refused_by l bad good ≡ pick (eqb (fault_by l) 0) good (bad (fault_by l))
by_number [] n bad good = refl
by_number (when b k ∷ l) n bad good = go b (by_number l n.1 bad good)
  where
    go : (c : Bool) → refused_by l bad good ≡ pick (eqb (fault_by l) 0) good (bad (fault_by l))
        → pick c (bad k) (refused_by l bad good) ≡ pick (eqb (pick c k (fault_by l)) 0) good (bad (pick c k (fault_by l)))
    go true e = rw (ne_eqb k 0 n.0)
    go false e = e
by_number (unless b k ∷ l) n bad good = go b (by_number l n.1 bad good)
  where
    go : (c : Bool) → refused_by l bad good ≡ pick (eqb (fault_by l) 0) good (bad (fault_by l))
        → pick c (refused_by l bad good) (bad k) ≡ pick (eqb (pick c (fault_by l) k) 0) good (bad (pick c (fault_by l) k))
    go true e = e
    go false e = rw (ne_eqb k 0 n.0)

-- a table of which k is the first number that applies, 0 for none
module _ (l : List Test) (n : Numbered l) (k : ℕ) (e : k ≡ fault_by l) where
  pub refused-by : (k ≡ 0 → ⊥) → {A : Type 0} (bad : ℕ → A) (good : A) → refused_by l bad good ≡ bad k
  refused-by h bad good = by_number l n bad good ∙ rw (← e, ne_eqb k 0 h)

  pub passed_by : k ≡ 0 → {A : Type 0} (bad : ℕ → A) (good : A) → refused_by l bad good ≡ good
  passed_by h bad good = by_number l n bad good ∙ rw (← e, eq-eqb k 0 h)

-- none of the tests of a table applies
abbrev pub Passed : List Test → Type 0
Passed [] = Unit {0}
Passed (when b k ∷ l) = (b ≡ false) × Passed l
Passed (unless b k ∷ l) = (b ≡ true) × Passed l

pub passed_both : (l m : List Test) → Passed (l ++ m) → Passed l × Passed m
passed_both [] m p = (tt, p)
passed_both (when b k ∷ l) m p = let q = passed_both l m p.1 in ((p.0, q.0), q.1)
passed_both (unless b k ∷ l) m p = let q = passed_both l m p.1 in ((p.0, q.0), q.1)

-- where what a refusal leads to never has P and the whole has it, no test applies and the rest has it
pub passed_on : {A : Type 0} (P : A → Type 0) (bad : ℕ → A) → ((k : ℕ) → P (bad k) → ⊥) → (l : List Test) (good : A) → P (refused_by l bad good) → Passed l × P good
passed_on P bad never [] good p = (tt, p)
passed_on P bad never (when b k ∷ l) good p = go b refl (passed_on P bad never l good) p
  where
    go : (c : Bool) → b ≡ c → (P (refused_by l bad good) → Passed l × P good) → P (pick c (bad k) (refused_by l bad good)) → Passed (when b k ∷ l) × P good
    go true i f p = absurd (never k p)
    go false i f p = ((i, (f p).0), (f p).1)
passed_on P bad never (unless b k ∷ l) good p = go b refl (passed_on P bad never l good) p
  where
    go : (c : Bool) → b ≡ c → (P (refused_by l bad good) → Passed l × P good) → P (pick c (refused_by l bad good) (bad k)) → Passed (unless b k ∷ l) × P good
    go true i f p = ((i, (f p).0), (f p).1)
    go false i f p = absurd (never k p)

pub to_passed : (l : List Test) → passes l ≡ true → Passed l
to_passed l e = (passed_on (λ b. b ≡ true) (λ k. false) (λ k e. let z : ◌≡◌ {A = ℕ} 0 1 = cc in omega arith) l true e).0

pub none_applies : (l : List Test) → Numbered l → fault_by l ≡ 0 → Passed l
none_applies l n e = to_passed l (by_number l n (λ k. false) true ∙ rw (eq-eqb (fault_by l) 0 e))

-- every line of a table has the number n
abbrev pub NumberedBy : ℕ → List Test → Type 0
NumberedBy n [] = Unit {0}
NumberedBy n (when b k ∷ l) = (k ≡ n) × NumberedBy n l
NumberedBy n (unless b k ∷ l) = (k ≡ n) × NumberedBy n l

pub alike : {A : Type 0} (n : ℕ) (l : List Test) → NumberedBy n l → (bad : ℕ → A) (good : A) → refused_by l bad good ≡ pick (passes l) good (bad n)
alike {A} n l a bad good = go l a ∙ sym (then-ends (λ b. pick b good (bad n)) l (λ k. false) true)
  where
    go : (l : List Test) → NumberedBy n l → refused_by l bad good ≡ refused_by l (λ k. bad n) good
    go [] a = refl
    go (when b k ∷ l) a = ap₂ (λ (x y : A). pick b x y) (ap bad a.0) (go l a.1)
    go (unless b k ∷ l) a = ap₂ (λ (x y : A). pick b x y) (go l a.1) (ap bad a.0)
