-- The length of an accepted code line tells how many edges its checks have, and these with M the length of its store.
use mathlib.Core.Path.{◌≡◌, refl, sym, ap, ap₂, ◌∙◌}
use mathlib.Core.Bool.{Bool, true, false}
use mathlib.Core.List.{List, [], ◌∷◌}
use Prim.Native.Nat.{ℕ, zero, suc, ◌+◌, ◌*◌, ◌-◌, ◌/◌, ◌≤◌}
use native.Mathlib.Nat.{suc-mul, mul-div_cancel_left}
use native.Mathlib.Omega.{arith}
use lib.Dec.{eqb}
use lib.ListN.{length, get_or}
use borrow.Author.Tests.{eqb-true}
use Rattle.trellis.specs.Lists.{pick, upto}
use Rattle.trellis.specs.Record.{group_length, record_length}
use Rattle.trellis.specs.Rules.{size_of, rule_for}
use Rattle.machine.specs.CodeLine.{good, bad, Edge, Code, word_at, check_tests, check_at, checks, head_tests, parse, size, rule}
use Rattle.machine.specs.Machine.{place, used}
use Rattle.machine.specs.inner.Accepted.{edge_total}
use Rattle.machine.proofs.Lines.{passed, then-good, good-one, edges-good, parse-good}
use Rattle.machine.proofs.Rooms.{sum-front, groups_high}

checks-length : (c : ℕ) (s : List ℕ) (at n q total : ℕ) (l : List (List Edge)) → checks c s at n q total ≡ good l → length s ≡ at + length l + 3 * edge_total l
unfolding checks check_at
checks-length zero s at n q total l h = go (eqb at (length s)) refl h
  where
    go : (b : Bool) → eqb at (length s) ≡ b → pick b (good []) (bad 5) ≡ good l → length s ≡ at + length l + 3 * edge_total l
    go true e k = let i : l ≡ [] = sym (good-one [] l k) in rw i (omega (arith, eqb-true at (length s) e))
    go false e k = let z : ◌≡◌ {A = ℕ} 0 1 = cc in absurd (omega arith)
checks-length (suc c) s at n q total l h =
    let a = then-good (check_at s at n q total) _ l h in
    let b = then-good (checks c s (at + 1 + 3 * get_or s at 0) n q (total + get_or s at 0)) _ l a.2 in
    let t = passed (check_tests s at total) _ a.0 a.1 in
    let d = (edges-good (get_or s at 0) s (at + 1) n q 0 a.0 t.1).count in
    let i : l ≡ a.0 ∷ b.0 = sym (good-one _ l b.2) in
    rw i (omega (arith, d, checks-length c s (at + 1 + 3 * get_or s at 0) n q (total + get_or s at 0) b.0 b.1))

pub line-length : (s : List ℕ) (C : Code) → parse s ≡ good C → length s ≡ 6 + length C.checks + 3 * edge_total C.checks
unfolding parse
line-length s C h =
    let a = passed (head_tests s) _ C h in
    let b = then-good (checks (get_or s 3 0) s 6 (word_at s 1) (size_of (get_or s 0 0)) 0) _ C a.1 in
    let e : C.checks ≡ b.0 = sym (ap (λ D. D.checks) (good-one _ C b.2)) in
    rw e (checks-length (get_or s 3 0) s 6 (word_at s 1) (size_of (get_or s 0 0)) 0 b.0 b.1)

-- records that are b longer than their checks have edges
sum_exact : (w : List Edge → ℕ) (b : ℕ) → ((es : List Edge) → w es ≡ length es + b) → (l : List (List Edge))
    → upto (λ k a. a + w (get_or l k [])) (length l) 0 ≡ edge_total l + length l * b
sum_exact w b h [] = omega arith
sum_exact w b h (es ∷ l) = omega (arith, sum-front w es l (length l), h es, sum_exact w b h l, suc-mul (length l) b)

pub used_is : (C : Code) → used C ≡ edge_total C.checks + length C.checks * (group_length (rule C) * (size C - 1))
unfolding place
used_is C = sum_exact (λ es. record_length (rule C) (length es)) (group_length (rule C) * (size C - 1)) (λ es. refl) C.checks

-- what the code works out
pub store_of_line : (s : List ℕ) (C : Code) → parse s ≡ good C → (m : ℕ) → m ≡ length C.checks → (length s - 6 - m) / 3 ≡ edge_total C.checks
store_of_line s C h m e =
    let i : length s - 6 - m ≡ 3 * edge_total C.checks = omega (arith, line-length s C h) in
    ap (λ k. k / 3) i ∙ mul-div_cancel_left (edge_total C.checks) (omega arith)

-- what an accepted line gives the code that works it out
module _ (s : List ℕ) (C : Code) (h : parse s ≡ good C) (first m : ℕ) (e : first ≡ C.first) (i : m ≡ length C.checks) where
  pub line-room : (6 + m ≤ length s) × ((length s ≤ 3206) × (group_length (rule_for first) * (size_of first - 1) ≤ 441))
  line-room =
      let G = parse-good s C h in
      let l = line-length s C h in
      (omega (arith, l, i), (omega (arith, l, G.checks-high, G.edges-high), rw e (groups_high C G)))

  pub line_store : (r : ℕ) → r ≡ (length s - 6 - m) / 3 + m * (group_length (rule_for first) * (size_of first - 1)) → r ≡ used C
  line_store r o =
      o ∙ ap₂ (λ a b. a + b) (store_of_line s C h m i) (ap₂ (λ a f. a * (group_length (rule_for f) * (size_of f - 1))) i e) ∙ sym (used_is C)
