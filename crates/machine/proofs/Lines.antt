-- What a code line that is read has: the ranges of its numbers.
use mathlib.Core.Path.{◌≡◌, refl, sym, ap, ◌∙◌}
use mathlib.Core.Bool.{Bool, true, false}
use mathlib.Core.List.{List, [], ◌∷◌}
use Prim.Native.Nat.{ℕ, zero, suc, ◌+◌, ◌*◌, ◌≤◌, ◌<◌}
use native.Mathlib.Nat.{not-suc-le-zero}
use native.Mathlib.Omega.{arith}
use lib.Dec.{eqb}
use lib.ListN.{length, get_or}
use borrow.Author.Tests.{ltb-false, leb-false, eqb-false, not-false}
use Rattle.trellis.specs.Lists.{pick}
use Rattle.trellis.specs.Refusals.{Test, when, unless, refused_by}
use Rattle.trellis.proofs.Refusals.{Passed, passed_on}
use Rattle.trellis.specs.Rules.{size_of, first_ok}
use Rattle.trellis.proofs.Rules.{first-power}
use Rattle.machine.specs.CodeLine.{Read, good, bad, then, Edge, Code, edge, word_at, read_edge, edges, check_at, checks, parse, edge_at, Numbers, numbers_of, edge_tests, check_tests, head_tests}
use Rattle.machine.specs.inner.Accepted.{GoodEdge, GoodCheck, edge_total, GoodCode}

-- what is read passed them all
pub passed : {A : Type 0} (l : List Test) (y : Read A) (a : A) → refused_by l bad y ≡ good a → Passed l × (y ≡ good a)
passed l y a h = passed_on (λ r. r ≡ good a) bad (λ k e. let z : ◌≡◌ {A = ℕ} 0 1 = cc in omega arith) l y h

-- and the other way round
pub to_pass : {A : Type 0} (l : List Test) (y : Read A) → Passed l → refused_by l bad y ≡ y
to_pass [] y h = refl
to_pass (when b k ∷ l) y h = ap (λ c. pick c (bad k) (refused_by l bad y)) h.0 ∙ to_pass l y h.1
to_pass (unless b k ∷ l) y h = ap (λ c. pick c (refused_by l bad y) (bad k)) h.0 ∙ to_pass l y h.1

pub then-good : {A B : Type 0} (r : Read A) (k : A → Read B) (b : B) → then r k ≡ good b → (a : A) × (r ≡ good a) × (k a ≡ good b)
then-good (good a) k b h = (a, refl, h)
then-good (bad n) k b h = let z : ◌≡◌ {A = ℕ} 0 1 = cc in absurd (omega arith)

pub good-one : {A : Type 0} (a b : A) → ◌≡◌ {A = Read A} (good a) (good b) → a ≡ b
good-one a b h = cc

pub record GoodEdges (n q low c : ℕ) (es : List Edge) : Type 0 where
  pub count : length es ≡ c
  pub each-edge : (k : ℕ) → k < length es → GoodEdge n q (edge_at es k)
  pub from_low : (k : ℕ) → k < length es → low ≤ (edge_at es k).column
  pub rising : (j k : ℕ) → j < k → k < length es → (edge_at es j).column < (edge_at es k).column

edge-good : (s : List ℕ) (at n q low : ℕ) (e : Edge) → read_edge s at n q low ≡ good e → GoodEdge n q e × (low ≤ e.column)
unfolding read_edge
edge-good s at n q low e h =
    let w : ℕ = word_at s at in
    let v : ℕ = get_or s (at + 2) 0 in
    let a = passed (edge_tests s at n q low) _ e h in
    let i : e ≡ edge w v = sym (good-one _ e a.1) in
    rw i (record { column-small = leb-false _ _ a.0.0; weight-some = eqb-false _ _ a.0.1.1.0; weight-small = leb-false _ _ a.0.1.1.1.0 }, ltb-false _ _ a.0.1.0)

pub edges-good : (c : ℕ) (s : List ℕ) (at n q low : ℕ) (es : List Edge) → edges c s at n q low ≡ good es → GoodEdges n q low c es
unfolding edges
edges-good zero s at n q low es h =
    let e : es ≡ [] = sym (good-one [] es h) in
    rw e
    record {
      count = refl;
      each-edge = λ k l. absurd (not-suc-le-zero l);
      from_low = λ k l. absurd (not-suc-le-zero l);
      rising = λ j k i l. absurd (not-suc-le-zero l);
    }
edges-good (suc c) s at n q low es h =
    let a = then-good (read_edge s at n q low) _ es h in
    let g = edge-good s at n q low a.0 a.1 in
    let b = then-good (edges c s (at + 3) n q (a.0.column + 1)) _ es a.2 in
    let r = edges-good c s (at + 3) n q (a.0.column + 1) b.0 b.1 in
    let e : es ≡ a.0 ∷ b.0 = sym (good-one _ es b.2) in
    more a.0 b.0 e g.0 g.1 r
  where
    more : (e : Edge) (l : List Edge) → es ≡ e ∷ l → GoodEdge n q e → low ≤ e.column → GoodEdges n q (e.column + 1) c l → GoodEdges n q low (suc c) es
    more e l x g i r = rw x record { count = ap suc r.count; each-edge = one; from_low = two; rising = three }
      where
        one : (k : ℕ) → k < length (e ∷ l) → GoodEdge n q (edge_at (e ∷ l) k)
        one zero h = g
        one (suc k) h = r.each-edge k (omega arith)

        two : (k : ℕ) → k < length (e ∷ l) → low ≤ (edge_at (e ∷ l) k).column
        two zero h = i
        two (suc k) h = omega (arith, r.from_low k (omega arith))

        three : (j k : ℕ) → j < k → k < length (e ∷ l) → (edge_at (e ∷ l) j).column < (edge_at (e ∷ l) k).column
        three j zero a h = absurd (not-suc-le-zero a)
        three zero (suc k) a h = omega (arith, r.from_low k (omega arith))
        three (suc j) (suc k) a h = r.rising j k (omega arith) (omega arith)

check-good : (s : List ℕ) (at n q total : ℕ) (es : List Edge) → check_at s at n q total ≡ good es → GoodCheck n q es × (total + length es ≤ 1024)
unfolding check_at
check-good s at n q total es h =
    let d : ℕ = get_or s at 0 in
    let a = passed (check_tests s at total) _ es h in
    let r = edges-good d s (at + 1) n q 0 es a.1 in (
      record { low = omega (arith, ltb-false d 2 a.0.1.0, r.count); high = omega (arith, ltb-false 32 d a.0.1.1.0, r.count); each-edge = r.each-edge; rising = r.rising },
      omega (arith, ltb-false 1024 (total + d) a.0.1.1.1.0, r.count),
    )

pub check-count : (s : List ℕ) (at n q total : ℕ) (es : List Edge) → check_at s at n q total ≡ good es → length es ≡ get_or s at 0
unfolding check_at
check-count s at n q total es h =
    let d : ℕ = get_or s at 0 in
    let a = passed (check_tests s at total) _ es h in
    (edges-good d s (at + 1) n q 0 es a.1).count

-- c checks after total edges
record GoodChecks (n q total c : ℕ) (l : List (List Edge)) : Type 0 where
  pub count : length l ≡ c
  pub each-check : (m : ℕ) → m < length l → GoodCheck n q (get_or l m [])
  pub few-edges : total + edge_total l ≤ 1024

checks-good : (c : ℕ) (s : List ℕ) (at n q total : ℕ) (l : List (List Edge)) → total ≤ 1024 → checks c s at n q total ≡ good l → GoodChecks n q total c l
unfolding checks
checks-good zero s at n q total l f h = go (eqb at (length s)) h
  where
    go : (b : Bool) → pick b (good []) (bad 5) ≡ good l → GoodChecks n q total 0 l
    go true k =
        let e : l ≡ [] = sym (good-one [] l k) in
        rw e (record { count = refl; each-check = λ m i. absurd (not-suc-le-zero i); few-edges = omega arith })
    go false k = let z : ◌≡◌ {A = ℕ} 0 1 = cc in absurd (omega arith)
checks-good (suc c) s at n q total l f h =
    let d : ℕ = get_or s at 0 in
    let a = then-good (check_at s at n q total) _ l h in
    let b = then-good (checks c s (at + 1 + 3 * d) n q (total + d)) _ l a.2 in
    let e : l ≡ a.0 ∷ b.0 = sym (good-one _ l b.2) in
    let g = check-good s at n q total a.0 a.1 in
    let i = check-count s at n q total a.0 a.1 in
    more a.0 b.0 e g.0 i (checks-good c s (at + 1 + 3 * d) n q (total + d) b.0 (omega (arith, g.1, i)) b.1)
  where
    at_more : (es : List Edge) (k : List (List Edge)) → GoodCheck n q es → ((m : ℕ) → m < length k → GoodCheck n q (get_or k m []))
        → (m : ℕ) → m < length (es ∷ k) → GoodCheck n q (get_or (es ∷ k) m [])
    at_more es k g r zero h = g
    at_more es k g r (suc m) h = r m (omega arith)

    more : (es : List Edge) (k : List (List Edge)) → l ≡ es ∷ k → GoodCheck n q es → length es ≡ get_or s at 0 → GoodChecks n q (total + get_or s at 0) c k → GoodChecks n q total (suc c) l
    more es k e g i r =
        rw e (record { count = ap suc r.count; each-check = at_more es k g r.each-check; few-edges = omega (arith, r.few-edges) })

pub parse-good : (s : List ℕ) (C : Code) → parse s ≡ good C → GoodCode C
unfolding parse
parse-good s C h =
    let f : ℕ = get_or s 0 0 in
    let n : ℕ = word_at s 1 in
    let m : ℕ = get_or s 3 0 in
    let g : ℕ = get_or s 4 0 in
    let i : ℕ = get_or s 5 0 in
    let a = passed (head_tests s) _ C h in
    let b = then-good (checks m s 6 n (size_of f) 0) _ C a.1 in
    let r = checks-good m s 6 n (size_of f) 0 b.0 (omega arith) b.1 in
    let e : C ≡ record { first = f; columns = n; scale = g; limit = i; checks = b.0 } = sym (good-one _ C b.2) in
    let o : first_ok f ≡ true = not-false _ a.0.1.0 in
    rw e
    record {
      first = o;
      p-low = (first-power f o).0;
      p-high = (first-power f o).1;
      columns-low = ltb-false _ _ a.0.1.1.0;
      columns-high = ltb-false _ _ a.0.1.1.1.0;
      scale-low = ltb-false _ _ a.0.1.1.1.1.1.1.0;
      scale-high = ltb-false _ _ a.0.1.1.1.1.1.1.1.0;
      limit-low = ltb-false _ _ a.0.1.1.1.1.1.1.1.1.0;
      checks-low = omega (arith, ltb-false m 1 a.0.1.1.1.1.0, r.count);
      checks-high = omega (arith, ltb-false 128 m a.0.1.1.1.1.1.0, r.count);
      each-check = r.each-check;
      edges-high = omega (arith, r.few-edges);
    }

-- N is at most 256
pub columns-small : (s : List ℕ) (h : Numbers) → good h ≡ numbers_of (parse s) → h.columns ≤ 256
columns-small s h e = go (parse s) refl e
  where
    go : (r : Read Code) → parse s ≡ r → good h ≡ numbers_of r → h.columns ≤ 256
    go (good C) p k = let n : h.columns ≡ C.columns = cc in omega (arith, n, (parse-good s C p).columns-high)
    go (bad j) p k = let z : ◌≡◌ {A = ℕ} 0 1 = cc in absurd (omega arith)
