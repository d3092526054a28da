-- Hexadecimal digits: the answer for a byte in each of its ranges, and the test of all bytes.
use mathlib.Core.Path.{◌≡◌, refl, sym, ◌∙◌}
use mathlib.Core.List.{List}
use mathlib.Core.Bool.{Bool, true, false, ◌&&◌, ◌||◌, and-false, true≢false}
use Prim.Native.Nat.{ℕ, zero, suc, ◌+◌, ◌-◌, ◌≤◌, ◌<◌}
use native.Mathlib.Nat.{not-suc-le-zero}
use native.Mathlib.Decide.{ℕ_discrete}
use native.Mathlib.Omega.{arith}
use lib.Dec.{leb}
use lib.ListN.{length, get_or}
use borrow.Author.Tests.{le-leb, lt-leb, leb-true}
use Rattle.trellis.specs.Lists.{pick, all_to}
use Rattle.machine.specs.Line.{is_digit, digit}
use Rattle.text.specs.inner.Digits.{digit_answer, all_digits, digits_fault}
use Rattle.refusal.specs.declared.Refusal.{Refusal}
use Rattle.refusal.specs.declared.Refusal.TheVariants.{Digit}
use Rattle.refusal.specs.Numbers.{number_of}
use Rattle.std.specs.Prelude.{Ok, Err}

pub at-digit : (b : ℕ) → 48 ≤ b → b ≤ 57 → Ok (b - 48) ≡ digit_answer b
at-digit b p q = simp (le-leb 48 b p, le-leb b 57 q)

pub at_letter : (b : ℕ) → 65 ≤ b → b ≤ 70 → Ok (b - 65 + 10) ≡ digit_answer b
at_letter b p q = simp (le-leb 48 b (omega arith), lt-leb b 57 (omega arith), le-leb 65 b p, le-leb b 70 q)

pub at-below : (b : ℕ) → b < 48 → Err Digit ≡ digit_answer b
at-below b p = simp (lt-leb 48 b p, lt-leb 65 b (omega arith))

pub at-between : (b : ℕ) → 57 < b → b < 65 → Err Digit ≡ digit_answer b
at-between b p q = simp (le-leb 48 b (omega arith), lt-leb b 57 p, lt-leb 65 b q)

pub at_above : (b : ℕ) → 70 < b → Err Digit ≡ digit_answer b
at_above b p = simp (le-leb 48 b (omega arith), lt-leb b 57 (omega arith), le-leb 65 b (omega arith), lt-leb b 70 p)

-- what the two answers say of the byte
pub told_digit : (b v : ℕ) → digit_answer b ≡ Ok v → (is_digit b ≡ true) × (v ≡ digit b)
told_digit b v e = go (is_digit b) e
  where
    go : (t : Bool) → pick t (Ok (digit b)) (Err Digit) ≡ Ok v → (t ≡ true) × (v ≡ digit b)
    go true k = (refl, cc)
    go false k = let z : ◌≡◌ {A = ℕ} 0 1 = cc in absurd (omega arith)

pub told_other : (b : ℕ) (k : Refusal) → digit_answer b ≡ Err k → is_digit b ≡ false
told_other b k e = go (is_digit b) e
  where
    go : (t : Bool) → pick t (Ok (digit b)) (Err Digit) ≡ Err k → t ≡ false
    go true j = let z : ◌≡◌ {A = ℕ} 0 1 = cc in absurd (omega arith)
    go false j = refl

-- four bits hold a digit
pub digit-small : (b : ℕ) → is_digit b ≡ true → digit b < 16
digit-small b e = go (leb b 57) refl (leb 65 b) (leb b 70) refl e
  where
    go : (t : Bool) → leb b 57 ≡ t → (u v : Bool) → leb b 70 ≡ v → ((leb 48 b && t) || (u && v)) ≡ true → pick t (b - 48) (b - 65 + 10) < 16
    go true p u v q e = omega (arith, leb-true b 57 p)
    go false p u true q e = omega (arith, leb-true b 70 q)
    go false p u false q e = absurd (true≢false (sym (rw (and-false (leb 48 b), and-false u) at e)))

-- a test that fails at i fails however many come after it
pub all-not : (f : ℕ → Bool) (i n : ℕ) → i < n → f i ≡ false → all_to f n ≡ false
all-not f i zero h e = absurd (not-suc-le-zero h)
all-not f i (suc n) h e =
    elim (ℕ_discrete i n) [
      | yes j ↦ rw (← j, e, and-false (all_to f i))
      | no j ↦ rw (all-not f i n (omega arith) e)
    ]

pub all-at : (f : ℕ → Bool) (i n : ℕ) → i < n → all_to f n ≡ true → f i ≡ true
all-at f i n h e = go (f i) refl
  where
    go : (t : Bool) → f i ≡ t → t ≡ true
    go true k = refl
    go false k = sym (all-not f i n h k) ∙ e

-- the refusal of a byte that is no digit
pub told_fault : (t : List ℕ) (i : ℕ) (k : Refusal) → i < length t → Err k ≡ digit_answer (get_or t i 0) → number_of k ≡ digits_fault t (length t)
told_fault t i k h e =
    let n : number_of k ≡ 14 = go (is_digit (get_or t i 0)) (sym e) in
    let f : all_digits t (length t) ≡ false = all-not (λ j. is_digit (get_or t j 0)) i (length t) h (told_other (get_or t i 0) k (sym e)) in
    rw f n
  where
    go : (b : Bool) → pick b (Ok (digit (get_or t i 0))) (Err Digit) ≡ Err k → number_of k ≡ 14
    go true j = let z : ◌≡◌ {A = ℕ} 0 1 = cc in absurd (omega arith)
    go false j = let e : Digit ≡ k = cc in rw (← e) refl
