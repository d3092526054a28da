-- The code line with j in byte 5 is read as the same code with iteration limit j, and the machine of such a code is the same but for its limit.
use mathlib.Core.Path.{◌≡◌, refl, sym, ap, ◌∙◌}
use mathlib.Core.Bool.{not}
use mathlib.Core.List.{List, [], ◌∷◌}
use Prim.Native.Nat.{ℕ, zero, suc, ◌+◌, ◌*◌, ◌≤◌}
use native.Mathlib.Omega.{arith}
use lib.Dec.{ltb}
use lib.ListN.{length, get_or, set, length-set}
use lib.Seq.{get_or-set_same, get_or-set_other}
use borrow.Author.Tests.{ltb-false, le-ltb}
use Rattle.trellis.specs.Refusals.{when}
use Rattle.trellis.specs.Rules.{size_of, first_ok}
use Rattle.machine.specs.CodeLine.{Read, good, bad, then, Edge, Code, word_at, read_edge, edges, check_at, checks, head_tests, parse, frame_fault}
use Rattle.machine.specs.Machine.{Last, none, made, State, last_of, record_in, update, iteration, start, settled, symbols, margins, go, run, records, place, used}
use Rattle.trellis.proofs.Loops.{blocks_ext}
use Rattle.machine.proofs.Lines.{passed, to_pass, then-good, good-one}

abbrev pub with_limit : ℕ → Code → Code
with_limit j C = record { first = C.first; columns = C.columns; scale = C.scale; limit = j; checks = C.checks }

then_ext : {A B : Type 0} (r : Read A) (k k' : A → Read B) → ((a : A) → k a ≡ k' a) → then r k ≡ then r k'
then_ext (good a) k k' h = h a
then_ext (bad n) k k' h = refl

-- lists of one length that agree from place 6 on
module _ (s s' : List ℕ) (long : length s' ≡ length s) (same : (i : ℕ) → 6 ≤ i → get_or s' i 0 ≡ get_or s i 0) where
  edge_same : (at n q low : ℕ) → 6 ≤ at → read_edge s' at n q low ≡ read_edge s at n q low
  unfolding read_edge
  edge_same at n q low h = rw (same at h, same (at + 1) (omega arith), same (at + 2) (omega arith))

  edges-same : (c at n q low : ℕ) → 6 ≤ at → edges c s' at n q low ≡ edges c s at n q low
  unfolding edges
  edges-same zero at n q low h = refl
  edges-same (suc c) at n q low h =
      ap (λ r. then r (λ (e : Edge). then (edges c s' (at + 3) n q (e.column + 1)) (λ (es : List Edge). good (e ∷ es)))) (edge_same at n q low h)
      ∙ then_ext (read_edge s at n q low) _ _ (λ e. ap (λ r. then r (λ (es : List Edge). good (e ∷ es))) (edges-same c (at + 3) n q (e.column + 1) (omega arith)))

  check-same : (at n q total : ℕ) → 6 ≤ at → check_at s' at n q total ≡ check_at s at n q total
  unfolding check_at
  check-same at n q total h = rw (same at h, long, edges-same (get_or s at 0) (at + 1) n q 0 (omega arith))

  checks-same : (c at n q total : ℕ) → 6 ≤ at → checks c s' at n q total ≡ checks c s at n q total
  unfolding checks
  checks-same zero at n q total h = rw long
  checks-same (suc c) at n q total h =
      rw (check-same at n q total h, same at h)
      (then_ext (check_at s at n q total) _ _ (λ es. ap (λ r. then r (λ (cs : List (List Edge)). good (es ∷ cs))) (checks-same c (at + 1 + 3 * get_or s at 0) n q (total + get_or s at 0) (omega arith))))

pub limited-parse : (s : List ℕ) (C : Code) (j : ℕ) → parse s ≡ good C → 1 ≤ j → parse (set s 5 j) ≡ good (with_limit j C)
unfolding parse
limited-parse s C j h k =
    let f : ℕ = get_or s 0 0 in
    let n : ℕ = word_at s 1 in
    let m : ℕ = get_or s 3 0 in
    let g : ℕ = get_or s 4 0 in
    let i : ℕ = get_or s 5 0 in
    let a = passed (head_tests s) _ C h in
    let b = then-good (checks m s 6 n (size_of f) 0) _ C a.1 in
    let e : C ≡ record { first = f; columns = n; scale = g; limit = i; checks = b.0 } = sym (good-one _ C b.2) in
    let long : 6 ≤ length s = ltb-false (length s) 6 a.0.0 in
    let t = a.0 in
    rw (
      length-set s 5 j,
      get_or-set_other s 5 0 j 0 (λ (z : 0 ≡ 5). omega arith),
      get_or-set_other s 5 1 j 0 (λ (z : 1 ≡ 5). omega arith),
      get_or-set_other s 5 2 j 0 (λ (z : 2 ≡ 5). omega arith),
      get_or-set_other s 5 3 j 0 (λ (z : 3 ≡ 5). omega arith),
      get_or-set_other s 5 4 j 0 (λ (z : 4 ≡ 5). omega arith),
      get_or-set_same s 5 j 0 (omega arith),
      checks-same s (set s 5 j) (length-set s 5 j) (λ x l. get_or-set_other s 5 x j 0 (λ (z : x ≡ 5). omega arith)) m 6 n (size_of f) 0 (omega arith),
    )
    (to_pass (when (ltb (length s) 6) 5 ∷ when (not (first_ok f)) 6 ∷ when (ltb n 1) 7 ∷ when (ltb 256 n) 7 ∷ when (ltb m 1) 7 ∷ when (ltb 128 m) 7 ∷ when (ltb g 1) 8 ∷ when (ltb 16 g) 8 ∷ when (ltb j 1) 8 ∷ []) _
    (t.0, (t.1.0, (t.1.1.0, (t.1.1.1.0, (t.1.1.1.1.0, (t.1.1.1.1.1.0, (t.1.1.1.1.1.1.0, (t.1.1.1.1.1.1.1.0, (le-ltb j 1 k, tt)))))))))
    ∙ ap (λ r. then r (λ (cs : List (List Edge)). good (record { first = f; columns = n; scale = g; limit = j; checks = cs }))) b.1
    ∙ ap (λ (c : Code). good (with_limit j c)) (sym e))

-- nothing else of the machine looks at the limit
module _ (C : Code) (j : ℕ) where
  pub settled-limit : (P : List ℕ) → settled (with_limit j C) P ≡ settled C P
  unfolding settled symbols
  settled-limit P = refl

  pub iteration-limit : (s : State) → iteration (with_limit j C) s ≡ iteration C s
  unfolding iteration update
  iteration-limit s = refl

  pub go-limit : (n : ℕ) (s : State) → go (with_limit j C) n s ≡ go C n s
  unfolding go
  go-limit zero s = rw (settled-limit s.costs)
  go-limit (suc n) s = rw (settled-limit s.costs, iteration-limit s, go-limit n (iteration C s))

  pub run-limit : (f : List ℕ) → run (with_limit j C) f ≡ go C j (start C f)
  unfolding run
  run-limit f = go-limit j (start C f)

  pub fault_limit : (f : List ℕ) → frame_fault (with_limit j C) f ≡ frame_fault C f
  unfolding frame_fault
  fault_limit f = refl

  pub used-limit : used (with_limit j C) ≡ used C
  unfolding place
  used-limit = refl

  pub records-limit : (s : State) → records (with_limit j C) s ≡ records C s
  unfolding records
  records-limit s = blocks_ext _ _ (length C.checks) (λ m h. same (last_of s m))
    where
      same : (l : Last) → record_in (with_limit j C) l ≡ record_in C l
      same none = refl
      same (made cs) = refl

  pub symbols-limit : (P : List ℕ) → symbols (with_limit j C) P ≡ symbols C P
  unfolding symbols
  symbols-limit P = refl

  pub margins-limit : (P : List ℕ) → margins (with_limit j C) P ≡ margins C P
  unfolding margins
  margins-limit P = refl
