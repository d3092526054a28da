-- Reading into tables is parse.
use mathlib.Core.Path.{◌≡◌, refl, sym, ap, ap₂, ◌∙◌}
use mathlib.Core.Bool.{Bool, true, false}
use mathlib.Core.List.{List, [], ◌∷◌, ◌++◌, map, append-nil, append_assoc}
use Prim.Native.Nat.{ℕ, zero, suc, ◌+◌, ◌*◌, ◌<◌}
use native.Mathlib.Nat.{not-suc-le-zero}
use native.Mathlib.Omega.{arith}
use lib.Dec.{eqb}
use lib.ListN.{length, get_or, length-map}
use lib.Seq.{take_at, drop-append-add}
use Rattle.trellis.specs.Lists.{each, pick, part}
use Rattle.machine.specs.CodeLine.{Read, good, bad, then, Edge, read_edge, edges, check_at, checks}
use Rattle.machine.specs.inner.Tables.{Flat, flat, edges_into, check_into, Tables, tables, checks_into, tables_of, edges_of, edges_before}
use Rattle.machine.proofs.Lines.{check-count}

abbrev cols : List Edge → List ℕ
cols = map (λ e. e.column)

abbrev wts : List Edge → List ℕ
wts = map (λ e. e.weight)

snoc : (a : List ℕ) (x : ℕ) (b : List ℕ) → (a ++ (x ∷ [])) ++ b ≡ a ++ (x ∷ b)
snoc a x b = append_assoc a (x ∷ []) b

then-then : {A B D : Type 0} (r : Read A) (f : A → Read B) (g : B → Read D) → then (then r f) g ≡ then r (λ a. then (f a) g)
then-then (good a) f g = refl
then-then (bad k) f g = refl

then_ext : {A B : Type 0} (r : Read A) (f g : A → Read B) → ((a : A) → r ≡ good a → f a ≡ g a) → then r f ≡ then r g
then_ext (good a) f g h = h a refl
then_ext (bad k) f g h = refl

pub pick-then : {A B : Type 0} (b : Bool) (k : ℕ) (r : Read A) (f : A → Read B) → then (pick b (bad k) r) f ≡ pick b (bad k) (then r f)
pick-then true k r f = refl
pick-then false k r f = refl

pub edges_into_lem : (c : ℕ) (s : List ℕ) (at n q low : ℕ) (cs ws : List ℕ)
    → edges_into c s at n q low cs ws ≡ then (edges c s at n q low) (λ es. good (flat (cs ++ cols es) (ws ++ wts es)))
unfolding edges_into edges
edges_into_lem zero s at n q low cs ws = simp append-nil
edges_into_lem (suc c) s at n q low cs ws =
    then_ext (read_edge s at n q low) _ _ (λ e i.
    edges_into_lem c s (at + 3) n q (e.column + 1) (cs ++ (e.column ∷ [])) (ws ++ (e.weight ∷ []))
    ∙ then_ext (edges c s (at + 3) n q (e.column + 1)) _ _ (λ es j. ap₂ (λ a b. good (flat a b)) (snoc cs e.column (cols es)) (snoc ws e.weight (wts es)))
    ∙ sym (then-then (edges c s (at + 3) n q (e.column + 1)) _ _))
    ∙ sym (then-then (read_edge s at n q low) _ _)

pub check_into_lem : (s : List ℕ) (at n q total : ℕ) (cs ws : List ℕ)
    → check_into s at n q total cs ws ≡ then (check_at s at n q total) (λ es. good (flat (cs ++ cols es) (ws ++ wts es)))
unfolding check_into check_at
check_into_lem s at n q total cs ws = rw (edges_into_lem (get_or s at 0) s (at + 1) n q 0 cs ws) (sym (simp pick-then))

pub checks_into_lem : (c : ℕ) (s : List ℕ) (at n q total : ℕ) (ds cs ws : List ℕ)
    → checks_into c s at n q total ds cs ws ≡ then (checks c s at n q total) (λ l. good (tables (ds ++ map (λ es. length es) l) (cs ++ each cols l) (ws ++ each wts l)))
unfolding checks_into checks
checks_into_lem zero s at n q total ds cs ws = go (eqb at (length s))
  where
    go : (b : Bool) → pick b (good (tables ds cs ws)) (bad 5) ≡ then (pick b (good []) (bad 5)) (λ l. good (tables (ds ++ map (λ es. length es) l) (cs ++ each cols l) (ws ++ each wts l)))
    go true = simp append-nil
    go false = refl
checks_into_lem (suc c) s at n q total ds cs ws =
    ap (λ r. then r (λ (f : Flat). checks_into c s (at + 1 + 3 * d) n q (total + d) (ds ++ (d ∷ [])) f.columns f.weights)) (check_into_lem s at n q total cs ws)
    ∙ then-then (check_at s at n q total) _ _
    ∙ then_ext (check_at s at n q total) _ _ (λ es i.
    checks_into_lem c s (at + 1 + 3 * d) n q (total + d) (ds ++ (d ∷ [])) (cs ++ cols es) (ws ++ wts es)
    ∙ then_ext (checks c s (at + 1 + 3 * d) n q (total + d)) _ _ (λ l j. one es l (check-count s at n q total es i))
    ∙ sym (then-then (checks c s (at + 1 + 3 * d) n q (total + d)) _ _))
    ∙ sym (then-then (check_at s at n q total) _ _)
  where
    d : ℕ
    d = get_or s at 0

    one : (es : List Edge) (l : List (List Edge)) → length es ≡ get_or s at 0
        → ◌≡◌ {A = Read Tables} (good (tables ((ds ++ (get_or s at 0 ∷ [])) ++ map (λ es. length es) l) ((cs ++ cols es) ++ each cols l) ((ws ++ wts es) ++ each wts l)))
        (good (tables (ds ++ (length es ∷ map (λ es. length es) l)) (cs ++ (cols es ++ each cols l)) (ws ++ (wts es ++ each wts l))))
    one es l e = rw (e, snoc ds (get_or s at 0), append_assoc cs (cols es), append_assoc ws (wts es))

-- a check's parts of the tables are its edges
edges_of_lem : (es : List Edge) → edges_of (cols es) (wts es) ≡ es
edges_of_lem [] = refl
edges_of_lem (e ∷ es) = ap (λ l. e ∷ l) (edges_of_lem es)

pub before_cons : (d : ℕ) (ds : List ℕ) (m : ℕ) → edges_before (d ∷ ds) (suc m) ≡ d + edges_before ds m
before_cons d ds zero = omega arith
before_cons d ds (suc m) = ap (λ a. a + get_or ds m 0) (before_cons d ds m) ∙ omega arith

slice : (f : Edge → ℕ) (l : List (List Edge)) (m : ℕ) → m < length l
    → part (each (map f) l) (edges_before (map (λ es. length es) l) m) (get_or (map (λ es. length es) l) m 0) ≡ map f (get_or l m [])
slice f [] m h = absurd (not-suc-le-zero h)
slice f (es ∷ l) zero h = take_at (map f es) (each (map f) l) (length es) (length-map es f)
slice f (es ∷ l) (suc m) h =
    rw (before_cons (length es) (map (λ es. length es) l) m, ← length-map es f, drop-append-add (map f es) (each (map f) l) (edges_before (map (λ es. length es) l) m))
    (slice f l m (omega arith))

pub check_slice : (l : List (List Edge)) (m : ℕ) → m < length l
    → edges_of (part (tables_of l).edges.columns (edges_before (tables_of l).degrees m) (get_or (tables_of l).degrees m 0))
    (part (tables_of l).edges.weights (edges_before (tables_of l).degrees m) (get_or (tables_of l).degrees m 0)) ≡ get_or l m []
check_slice l m h = ap₂ edges_of (slice (λ e. e.column) l m h) (slice (λ e. e.weight) l m h) ∙ edges_of_lem (get_or l m [])
