-- The record of an accepted check: the shifts from each h times z and their sum, then the groups.
use mathlib.Core.Path.{◌≡◌, refl, sym, ap, ap₂, ◌∙◌}
use mathlib.Core.List.{List, [], ◌∷◌, ◌++◌, map}
use Prim.Native.Nat.{ℕ, zero, suc, ◌+◌, ◌-◌, ◌<◌}
use native.Mathlib.Nat.{zero-add}
use native.Mathlib.Omega.{arith}
use lib.ListN.{length}
use Rattle.trellis.specs.Lists.{each, count_from, up_to, tab, blocks}
use Rattle.trellis.specs.Field.{xor}
use Rattle.trellis.specs.Check.{Rule, Column, weigh, decision, decided, shift, column}
use Rattle.trellis.specs.Record.{shifts, group, record_of}
use Rattle.trellis.specs.Rules.{rule_for, power_of, size_of, columns_of}
use Rattle.trellis.specs.Ready.{Ready}
use Rattle.engine.specs.inner.Terms.{term_of, sum_to}
use Rattle.trellis.proofs.Xor.{xor_assoc, xor_comm, xor_cancel}
use Rattle.trellis.proofs.Loops.{tab_ext, map-tab, blocks_ext, each-blocks}
use Rattle.trellis.proofs.Sent.{split_decided}
use Rattle.trellis.proofs.Ready.{length-columns, column-at, ready_proper}

-- sums from the front and from the back
sum-front : (f : ℕ → ℕ) (n : ℕ) → sum_to f (suc n) ≡ xor (f 0) (sum_to (λ j. f (suc j)) n)
sum-front f zero = xor_comm 0 (f 0)
sum-front f (suc n) = ap (λ y. xor y (f (suc n))) (sum-front f n) ∙ xor_assoc _ _ _

sum_same : (f g : ℕ → ℕ) (n : ℕ) → ((j : ℕ) → j < n → f j ≡ g j) → sum_to f n ≡ sum_to g n
sum_same f g zero h = refl
sum_same f g (suc n) h = ap₂ xor (sum_same f g n (λ j l. h j (omega arith))) (h n (omega arith))

decided-sum : (R : Rule) (cs : List Column) → decided R cs ≡ sum_to (λ n. weigh R (column cs n) (decision (column cs n)).symbol) (length cs)
unfolding decided
decided-sum R [] = refl
decided-sum R (c ∷ cs) = ap (xor (weigh R c (decision c).symbol)) (decided-sum R cs) ∙ sym (sum-front (λ n. weigh R (column (c ∷ cs) n) (decision (column (c ∷ cs) n)).symbol) (length cs))

module _ (f : ℕ) (ws cs : List ℕ) (D : Ready f ws cs) where
  abbrev R : Rule
  R = rule_for f

  abbrev q : ℕ
  q = size_of f

  abbrev pub the_columns : List Column
  the_columns = columns_of (size_of f) ws cs

  pub term_is : (n : ℕ) → n < length ws → weigh R (column the_columns n) (decision (column the_columns n)).symbol ≡ term_of (power_of f) ws cs n
  term_is n h = rw (column-at q ws cs n h)

  pub shift_is : (n : ℕ) → n < length ws → shift R the_columns n ≡ xor (sum_to (term_of (power_of f) ws cs) (length ws)) (term_of (power_of f) ws cs n)
  shift_is n h =
      let e : length the_columns ≡ length ws = length-columns q ws cs in
      let s = split_decided R the_columns (ready_proper f ws cs D) 0 n (omega arith) in
      let t : sum_to (λ j. weigh R (column the_columns j) (decision (column the_columns j)).symbol) (length the_columns) ≡ sum_to (term_of (power_of f) ws cs) (length ws) =
      rw e (sum_same _ _ (length ws) (λ j l. term_is j l)) in
      let d : decided R the_columns ≡ sum_to (term_of (power_of f) ws cs) (length ws) = decided-sum R the_columns ∙ t in
      sym (xor_cancel (term_of (power_of f) ws cs n) (shift R the_columns n)) ∙ ap (xor (term_of (power_of f) ws cs n)) (ap (λ y. xor y (shift R the_columns n)) (sym (term_is n h)) ∙ sym s ∙ d) ∙ xor_comm _ _

  pub record_parts : record_of R the_columns
      ≡ tab (λ n. xor (sum_to (term_of (power_of f) ws cs) (length ws)) (term_of (power_of f) ws cs n)) (length ws) ++ blocks (λ i. group R the_columns (suc i)) (q - 1)
  unfolding record_of shifts
  record_parts =
      let e : length the_columns ≡ length ws = length-columns q ws cs in
      let a : map (shift R the_columns) (up_to (length the_columns)) ≡ tab (λ n. xor (sum_to (term_of (power_of f) ws cs) (length ws)) (term_of (power_of f) ws cs n)) (length ws) =
      map-tab (shift R the_columns) 0 (length the_columns) ∙ rw e (tab_ext _ _ (length ws) (λ j l. rw (zero-add j) (shift_is j l))) in
      let b : each (group R the_columns) (count_from 1 (q - 1)) ≡ blocks (λ i. group R the_columns (suc i)) (q - 1) =
      each-blocks (group R the_columns) 1 (q - 1) ∙ blocks_ext (λ j. group R the_columns (1 + j)) _ (q - 1) (λ j l. ap (group R the_columns) (omega arith)) in
      ap₂ (λ x y. x ++ y) a b
