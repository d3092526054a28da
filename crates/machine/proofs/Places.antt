-- Where the edges of check m stand in the tables: from before m on, as many as its degree, each with its column and weight.
use mathlib.Core.Path.{◌≡◌, sym, ap, ap₂, ◌∙◌}
use mathlib.Core.List.{List, ◌++◌, map}
use Prim.Native.Nat.{ℕ, zero, suc, ◌+◌, ◌≤◌, ◌<◌}
use native.Mathlib.Decide.{ℕ_discrete}
use native.Mathlib.Numerals.{add-one}
use native.Mathlib.Omega.{arith}
use lib.ListN.{length, take, drop, get_or, length-append, length-take, length-drop, take-append-drop}
use Rattle.trellis.specs.Lists.{each, part}
use Rattle.machine.specs.CodeLine.{Edge, Code, check}
use Rattle.machine.specs.inner.Tables.{tables_of, edges_of, edges_before}
use Rattle.machine.proofs.Ranges.{part-front}
use Rattle.machine.proofs.Tables.{check_slice}
use Rattle.machine.proofs.Edges.{length-table}

-- the places of the edges
pub before_more : (ds : List ℕ) (m at d : ℕ) → at ≡ edges_before ds m → d ≡ get_or ds m 0 → at + d ≡ edges_before ds (m + 1)
before_more ds m at d e i = rw (add-one m, e, i)

pub before_mono : (ds : List ℕ) (m n : ℕ) → m ≤ n → edges_before ds m ≤ edges_before ds n
before_mono ds m zero h = let e : m ≡ 0 = omega arith in rw e (omega arith)
before_mono ds m (suc n) h =
    elim (ℕ_discrete m (suc n)) [
      | yes e ↦ rw e (omega arith)
      | no e ↦ omega (arith, before_mono ds m n (omega arith))
    ]

pub length_part : (l : List ℕ) (a n : ℕ) → a + n ≤ length l → length (part l a n) ≡ n
length_part l a n h = simp (length-take, length-drop) (omega arith)

-- a list that starts with t
module _ (l t : List ℕ) (h : take (length t) l ≡ t) where
  starts : l ≡ t ++ drop (length t) l
  starts = sym (take-append-drop (length t) l) ∙ ap (λ x. x ++ drop (length t) l) h

  pub start-length : length t ≤ length l
  start-length = omega (arith, ap length starts ∙ length-append t (drop (length t) l))

  start-part : (a n : ℕ) → a + n ≤ length t → part l a n ≡ part t a n
  start-part a n k = ap (λ x. part x a n) starts ∙ part-front t (drop (length t) l) a n k

-- tables that start with those of a code
module _ (C : Code) (cs ws : List ℕ) (hc : take (length (tables_of C.checks).edges.columns) cs ≡ (tables_of C.checks).edges.columns)
    (hw : take (length (tables_of C.checks).edges.weights) ws ≡ (tables_of C.checks).edges.weights) where
  abbrev ds : List ℕ
  ds = (tables_of C.checks).degrees

  abbrev own : List ℕ → ℕ → List ℕ
  own l m = part l (edges_before ds m) (get_or ds m 0)

  module _ (m : ℕ) (h : m < length C.checks) where
    within : (f : Edge → ℕ) → edges_before ds m + get_or ds m 0 ≤ length (each (map f) C.checks)
    within f = rw (length-table f C.checks) (before_mono ds (suc m) (length C.checks) h)

    pub edges_at : edges_of (own cs m) (own ws m) ≡ check C m
    edges_at =
        ap₂ edges_of (start-part cs (tables_of C.checks).edges.columns hc _ _ (within (λ e. e.column))) (start-part ws (tables_of C.checks).edges.weights hw _ _ (within (λ e. e.weight)))
        ∙ check_slice C.checks m h
