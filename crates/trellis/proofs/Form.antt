-- What the form of a record says of it; and a check's record has the accepted form: its pairs are those of the columns above E, which are kept of the numbers below d in their order, and
-- padded to k pairs; so the test of the pairs passes by induction on these numbers.
use mathlib.Core.Path.{◌≡◌, refl, sym, ap, ap₂, ◌∙◌}
use mathlib.Core.Bool.{Bool, true, false, cond}
use mathlib.Core.List.{List, [], ◌∷◌, ◌++◌, append_assoc}
use Prim.Native.Nat.{ℕ, zero, suc, ◌+◌, ◌*◌, ◌-◌, ◌≤◌, ◌<◌}
use native.Mathlib.Nat.{add_assoc, not-suc-le-zero, suc-sub-suc}
use native.Mathlib.Omega.{arith}
use lib.Dec.{ltb, ltb→lt, lt→ltb}
use lib.ListN.{length, get_or, drop, length-append, take-append-drop}
use lib.Seq.{get_or-drop}
use borrow.Author.Tests.{eq-eqb, ne_eqb, eqb-true, le-ltb, lt-leb, ltb-true}
use Rattle.trellis.specs.Lists.{keep, each, count_from, all_to}
use Rattle.trellis.specs.Check.{Rule, Column, sent_at, extra}
use Rattle.trellis.specs.Record.{above, group, shifts, record_of, group_length, record_length, pair_tests, pairs_ok, group_at, group_ok, record_tests, record_ok}
use Rattle.trellis.specs.Refusals.{Test, unless, refused_by}
use Rattle.trellis.proofs.Tests.{of_true, to_true, all_of, all-at}
use Rattle.trellis.proofs.Refusals.{in_order_lem, to_passed, alike}
use Rattle.trellis.proofs.Sent.{Proper, above-few}
use Rattle.trellis.proofs.Records.{length-shifts, record_shift, record_group, group-length, shift_small}

-- a record of accepted form: its length, and its shifts
pub form-front : (R : Rule) (d : ℕ) (r : List ℕ) → record_ok R d r ≡ true → (length r ≡ record_length R d) × ((n : ℕ) → n < d → get_or r n 0 < R.size)
unfolding record_ok record_tests
form-front R d r e =
    let p = to_passed (record_tests R d r) e in
    (eqb-true _ _ p.0, λ n l. ltb→lt _ _ (all-at (λ n. ltb (get_or r n 0) R.size) d (of_true p.1.0) n l))

-- in a table they are one line: whichever applies, the number is 16
pub form-line : {A : Type 0} (R : Rule) (d : ℕ) (r : List ℕ) (l : List Test) (bad : ℕ → A) (good : A)
    → refused_by (record_tests R d r ++ l) bad good ≡ refused_by (unless (record_ok R d r) 16 ∷ l) bad good
unfolding record_ok record_tests
form-line R d r l bad good = in_order_lem (record_tests R d r) l bad good ∙ alike 16 (record_tests R d r) (refl, (refl, (refl, tt))) bad (refused_by l bad good)

-- the test reads on from its place alone
pairs-drop : (k : ℕ) (r : List ℕ) (at i e d low : ℕ) → pairs_ok k r (at + i) e d low ≡ pairs_ok k (drop at r) i e d low
unfolding pairs_ok
pairs-drop zero r at i e d low = refl
pairs-drop (suc k) r at i e d low =
    rw (add_assoc at i 1, add_assoc at i 2, pairs-drop k r at (i + 2) e d (get_or r (at + i) 0 + 1), ← get_or-drop at r i 0, ← get_or-drop at r (i + 1) 0)

module _ (e d : ℕ) (short : d ≤ 255) where
  abbrev pads : ℕ → ℕ → List ℕ
  pads i k = each (λ (j : ℕ). 0xFF ∷ 0x00 ∷ []) (count_from i k)

  pads-ok : (k i low : ℕ) (rest : List ℕ) → pairs_ok k (pads i k ++ rest) 0 e d low ≡ true
  unfolding pairs_ok pair_tests
  pads-ok zero i low rest = refl
  pads-ok (suc k) i low rest = pairs-drop k (0xFF ∷ 0x00 ∷ (pads (suc i) k ++ rest)) 2 0 e d 256 ∙ pads-ok k (suc i) 256 rest

  module _ (S : ℕ → ℕ) where
    abbrev kept : ℕ → ℕ → List ℕ
    kept i n = keep (λ m. ltb e (S m)) (count_from i n)

    abbrev paired : ℕ → List ℕ → List ℕ → List ℕ
    paired k ns rest = each (λ m. m ∷ S m ∷ []) ns ++ (pads 0 (k - length ns) ++ rest)

    -- a used pair in front
    one_more : (i k low : ℕ) (l rest : List ℕ) → low ≤ i → i < d → ltb e (S i) ≡ true → length (i ∷ l) ≤ k → ((j : ℕ) → length l ≤ j → pairs_ok j (paired j l rest) 0 e d (i + 1) ≡ true)
        → pairs_ok k (paired k (i ∷ l) rest) 0 e d low ≡ true
    unfolding pairs_ok pair_tests
    one_more i zero low l rest a b t c h = absurd (not-suc-le-zero c)
    one_more i (suc k) low l rest a b t c h =
        rw (ne_eqb i 0xFF (λ (z : i ≡ 0xFF). omega arith), le-ltb i low a, lt-leb d i b, lt-leb (S i) e (ltb-true e (S i) t), suc-sub-suc k (length l))
        (pairs-drop k (i ∷ S i ∷ paired k l rest) 2 0 e d (i + 1) ∙ h k (omega arith))

    -- the pairs of the kept of n numbers from i on, below d
    paired_ok : (n i k low : ℕ) (rest : List ℕ) → low ≤ i → i + n ≤ d → length (kept i n) ≤ k → pairs_ok k (paired k (kept i n) rest) 0 e d low ≡ true
    paired_ok zero i k low rest a b c = let z : k - 0 ≡ k = omega arith in rw z (pads-ok k 0 low rest)
    paired_ok (suc n) i k low rest a b c =
        at (ltb e (S i)) refl c (λ j low a c. paired_ok n (suc i) j low rest a (omega arith) c)
      where
        l : List ℕ
        l = kept (suc i) n

        at : (t : Bool) → ltb e (S i) ≡ t → length (cond t (i ∷ l) l) ≤ k → ((j low : ℕ) → low ≤ suc i → length l ≤ j → pairs_ok j (paired j l rest) 0 e d low ≡ true)
            → pairs_ok k (paired k (cond t (i ∷ l) l) rest) 0 e d low ≡ true
        at false t c h = h k low (omega arith) c
        at true t c h = one_more i k low l rest a (omega arith) t c (λ j c. h j (i + 1) (omega arith) c)

module _ (R : Rule) (cs : List Column) (P : Proper R cs) where
  groups-length : length (each (group R cs) (count_from 1 (R.size - 1))) ≡ group_length R * (R.size - 1)
  groups-length = go 1 (R.size - 1) (omega (arith, P.wide))
    where
      go : (i n : ℕ) → i + n ≤ R.size → length (each (group R cs) (count_from i n)) ≡ group_length R * n
      go i zero h = omega arith
      go i (suc n) h = rw (length-append (group R cs i), group-length R cs P i (omega arith), go (suc i) n (omega arith)) (omega arith)

  pub record_length_lem : length (record_of R cs) ≡ record_length R (length cs)
  unfolding record_of
  record_length_lem = length-append (shifts R cs) _ ∙ ap₂ (λ a b. a + b) (length-shifts R cs P) groups-length

  group-ok : (b : ℕ) → suc b < R.size → group_ok R (length cs) (record_of R cs) b ≡ true
  unfolding group above
  group-ok b h =
      let at : ℕ = group_at R (length cs) b in
      let r : List ℕ = record_of R cs in
      let rest : List ℕ = drop (group_length R) (drop at r) in
      let x : drop at r ≡ group R cs (1 + b) ++ rest = sym (take-append-drop (group_length R) (drop at r)) ∙ ap (λ l. l ++ rest) (record_group R cs P b h) in
      let n : at ≡ at + 0 = omega arith in
      let e : get_or r at 0 ≡ extra R cs (1 + b) = ap (λ k. get_or r k 0) n ∙ sym (get_or-drop at r 0 0) ∙ ap (λ l. get_or l 0 0) x in
      let ok : pairs_ok R.most (paired (extra R cs (1 + b)) (length cs) P.short S R.most (above R cs (1 + b)) rest) 0 (extra R cs (1 + b)) (length cs) 0 ≡ true =
      paired_ok (extra R cs (1 + b)) (length cs) P.short S (length cs) 0 R.most 0 rest (omega arith) (omega arith) (above-few R cs P (1 + b) (omega arith)) in
      rw e
      (pairs-drop R.most r at 1 _ _ _
      ∙ ap (λ l. pairs_ok R.most l 1 (extra R cs (1 + b)) (length cs) 0) x
      ∙ pairs-drop R.most (group R cs (1 + b) ++ rest) 1 0 _ _ _
      ∙ ap (λ l. pairs_ok R.most l 0 (extra R cs (1 + b)) (length cs) 0) (append_assoc (each (λ m. m ∷ S m ∷ []) (above R cs (1 + b))) _ rest)
      ∙ ok)
    where
      S : ℕ → ℕ
      S m = sent_at R cs m (1 + b)

  -- so an expansion accepts it
  pub record_ok_lem : record_ok R (length cs) (record_of R cs) ≡ true
  unfolding record_ok record_tests
  record_ok_lem =
      let s : all_to (λ n. ltb (get_or (record_of R cs) n 0) R.size) (length cs) ≡ true = to_true (all_of _ (length cs) (λ n l. rw (record_shift R cs P n l) (lt→ltb _ _ (shift_small R cs P n l)))) in
      let g : all_to (group_ok R (length cs) (record_of R cs)) (R.size - 1) ≡ true = to_true (all_of _ (R.size - 1) (λ b l. of_true (group-ok b (omega arith)))) in
      rw (eq-eqb _ _ record_length_lem, s, g)
