-- The tables before and after each column of an accepted check; joined they give the costs sent.
use mathlib.Core.Path.{◌≡◌, refl, sym, ap, ◌∙◌}
use mathlib.Core.Logic.{inr}
use mathlib.Core.List.{List, [], ◌∷◌, ◌++◌}
use Prim.Native.Nat.{ℕ, zero, suc, ◌+◌, ◌-◌, ◌≤◌, ◌<◌}
use native.Mathlib.Omega.{arith}
use lib.ListN.{length, take, drop, length-take, length-drop}
use lib.Seq.{get_or-take, get_or-drop, drop-cons, take-suc}
use Rattle.trellis.specs.Lists.{others}
use Rattle.trellis.specs.Check.{column, blank, Rule, Column, shift, sent_at}
use Rattle.trellis.proofs.Sent.{Sound, Proper, sent_is}
use Rattle.engine.specs.inner.Rests.{rest, line_at, grown, between}
use Rattle.engine.proofs.BestRests.{best_one, Meets}
use Rattle.engine.proofs.Rests.{All, rest_best, rest-one, rest_more, rest-first, rest-between, rest_turn}

others_split : {A : Type 0} (n : ℕ) (cs : List A) → take n cs ++ drop (suc n) cs ≡ others n cs
others_split zero [] = refl
others_split (suc n) [] = refl
others_split zero (c ∷ cs) = refl
others_split {A} (suc n) (c ∷ cs) = ap {B = List A} (λ l. c ∷ l) (others_split n cs)

module _ (R : Rule) (cs : List Column) (P : Proper R cs) (meet : ℕ → ℕ → ℕ) (M : Meets R.join meet) where
  sound-take : (n : ℕ) → All R (take n cs)
  sound-take n i l = rw (get_or-take n cs i blank (omega (arith, length-take n cs))) (P.sound i (omega (arith, length-take n cs)))

  sound-drop : (n : ℕ) → All R (drop n cs)
  sound-drop n i l = rw (get_or-drop n cs i blank) (P.sound (n + i) (omega (arith, length-drop n cs)))

  one_more : (c : Column) → Sound R c → (ds : List Column) → All R ds → (j a : ℕ) → 1 ≤ j → a < R.size
      → rest R (ds ++ (c ∷ [])) j a ≡ grown meet R.size (line_at R c) (rest R ds) j a
  unfolding grown
  one_more c S ds A zero a h l = absurd (omega arith)
  one_more c S ds A (suc zero) a h l = rest-first R meet M P.p P.power c S ds A a l
  one_more c S ds A (suc (suc j)) a h l = rest_more R meet M P.p P.power c S ds A j a l

  -- one column more before n, and after n
  pub before_more : (n j a : ℕ) → n < length cs → 1 ≤ j → a < R.size
      → rest R (take (suc n) cs) j a ≡ grown meet R.size (line_at R (column cs n)) (rest R (take n cs)) j a
  before_more n j a i h l =
      ap (λ y. rest R y j a) (take-suc cs n blank i) ∙ one_more (column cs n) (P.sound n i) (take n cs) (sound-take n) j a h l

  pub after_more : (n j a : ℕ) → n < length cs → 1 ≤ j → a < R.size
      → rest R (drop n cs) j a ≡ grown meet R.size (line_at R (column cs n)) (rest R (drop (suc n) cs)) j a
  after_more n j a i h l =
      ap (λ y. rest R y j a) (drop-cons cs n blank i)
      ∙ rest_turn R meet M P.p P.power (column cs n ∷ []) (drop (suc n) cs) (single n i) (sound-drop (suc n)) j a l
      ∙ one_more (column cs n) (P.sound n i) (drop (suc n) cs) (sound-drop (suc n)) j a h l
    where
      single : (n : ℕ) → n < length cs → All R (column cs n ∷ [])
      single n i zero l = P.sound n i
      single n i (suc m) l = absurd (omega arith)

  -- the first column alone, and the last
  pub before-first : (j a : ℕ) → 1 ≤ j → a < R.size → rest R (take 1 cs) j a ≡ line_at R (column cs 0) a
  before-first j a h l =
      let i : 0 < length cs = omega (arith, P.two) in
      ap (λ y. rest R y j a) (take-suc cs 0 blank i) ∙ rest-one R meet M P.p P.power (column cs 0) (P.sound 0 i) j a h l

  pub after_last : (n j a : ℕ) → suc n ≡ length cs → 1 ≤ j → a < R.size → rest R (drop n cs) j a ≡ line_at R (column cs n) a
  after_last n j a e h l =
      let i : n < length cs = omega arith in
      ap (λ y. rest R y j a) (drop-cons cs n blank i ∙ ap {B = List Column} (λ y. column cs n ∷ y) none_left)
      ∙ rest-one R meet M P.p P.power (column cs n) (P.sound n i) j a h l
    where
      none_left : drop (suc n) cs ≡ []
      none_left = empty (drop (suc n) cs) (omega (arith, length-drop (suc n) cs))
        where
          empty : (l : List Column) → length l ≡ 0 → l ≡ []
          empty [] e = refl
          empty (x ∷ l) e = absurd (omega arith)

  -- the rest of the cost sent to column n
  sent-rest : (n a : ℕ) → n < length cs → a < R.size → 255 - sent_at R cs n a ≡ rest R (others n cs) R.most a
  unfolding shift
  sent-rest n a l h =
      let i = sent_is R cs P a h n l in
      best_one
      record {
        attained = inr (
          sent_at R cs n a,
          (i.choice, record { fits = i.allowed.fits; few = i.allowed.few; sum = i.allowed.sum }, i.attained),
          refl,
        );
        best = λ x s. omega (arith, i.least s.0 record { fits = s.1.fits; few = s.1.few; sum = s.1.sum }, s.2);
      }
      (rest_best R (others n cs) R.most a)

  -- the tables before and after column n, joined
  pub sent-between : (n a : ℕ) → n < length cs → a < R.size
      → 255 - sent_at R cs n a ≡ between meet R.size R.most (rest R (take n cs)) (rest R (drop (suc n) cs)) a
  sent-between n a l h =
      sent-rest n a l h ∙ ap (λ y. rest R y R.most a) (sym (others_split n cs))
      ∙ rest-between R meet M P.p P.power (take n cs) (drop (suc n) cs) (sound-take n) (sound-drop (suc n)) R.most a h

  -- the ends: no column before the first, none after the last
  pub sent-first : (a : ℕ) → a < R.size → 255 - sent_at R cs 0 a ≡ rest R (drop 1 cs) R.most a
  sent-first a h = sent-rest 0 a (omega (arith, P.two)) h ∙ ap (λ y. rest R y R.most a) (sym (others_split 0 cs))

  pub sent-last : (n a : ℕ) → suc n ≡ length cs → a < R.size → 255 - sent_at R cs n a ≡ rest R (take n cs) R.most a
  sent-last n a e h =
      sent-rest n a (omega arith) h ∙ ap (λ y. rest R y R.most a)
      (sym (others_split n cs) ∙ ap (λ y. take n cs ++ y) (none_left (drop (suc n) cs) (omega (arith, length-drop (suc n) cs)))
      ∙ append-nil (take n cs))
    where
      none_left : (l : List Column) → length l ≡ 0 → l ≡ []
      none_left [] e = refl
      none_left (x ∷ l) e = absurd (omega arith)

      append-nil : (l : List Column) → l ++ [] ≡ l
      append-nil [] = refl
      append-nil (x ∷ l) = ap {B = List Column} (λ y. x ∷ y) (append-nil l)
