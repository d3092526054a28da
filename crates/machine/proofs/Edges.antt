-- A check's edges from its parts of the tables: their number, columns and weights, by recursion on both parts.
use mathlib.Core.Path.{◌≡◌, refl, sym, ap, ap₂, ◌∙◌}
use mathlib.Core.List.{List, [], ◌∷◌, map}
use Prim.Native.Nat.{ℕ, zero, suc, ◌+◌}
use native.Mathlib.Omega.{arith}
use lib.ListN.{length, get_or, length-map, length-append}
use lib.Seq.{ext_get_or}
use Rattle.trellis.specs.Lists.{up_to, each}
use Rattle.trellis.proofs.Places.{length-count}
use Rattle.machine.specs.CodeLine.{Edge, edge_at}
use Rattle.machine.specs.inner.Tables.{edges_of, tables_of, edges_before}
use Rattle.machine.specs.Lent.{weights_of}
use Rattle.machine.proofs.Lists.{at_up_to}
use Rattle.machine.proofs.Tables.{before_cons}

pub length-edges : (cs ws : List ℕ) → length cs ≡ length ws → length (edges_of cs ws) ≡ length cs
length-edges [] ws e = refl
length-edges (c ∷ cs) [] e = absurd (omega arith)
length-edges (c ∷ cs) (w ∷ ws) e = ap suc (length-edges cs ws (omega arith))

pub column-edge : (cs ws : List ℕ) → length cs ≡ length ws → (n : ℕ) → (edge_at (edges_of cs ws) n).column ≡ get_or cs n 0
column-edge [] ws e n = refl
column-edge (c ∷ cs) [] e n = absurd (omega arith)
column-edge (c ∷ cs) (w ∷ ws) e zero = refl
column-edge (c ∷ cs) (w ∷ ws) e (suc n) = column-edge cs ws (omega arith) n

pub weight-edge : (cs ws : List ℕ) → length cs ≡ length ws → (n : ℕ) → (edge_at (edges_of cs ws) n).weight ≡ get_or ws n 0
weight-edge [] [] e n = refl
weight-edge [] (w ∷ ws) e n = absurd (omega arith)
weight-edge (c ∷ cs) [] e n = absurd (omega arith)
weight-edge (c ∷ cs) (w ∷ ws) e zero = refl
weight-edge (c ∷ cs) (w ∷ ws) e (suc n) = weight-edge cs ws (omega arith) n

pub weights-edges : (cs ws : List ℕ) → length cs ≡ length ws → weights_of (edges_of cs ws) ≡ ws
weights-edges cs ws e =
    let k : length (edges_of cs ws) ≡ length cs = length-edges cs ws e in
    let l : length (weights_of (edges_of cs ws)) ≡ length (edges_of cs ws) = length-map (up_to (length (edges_of cs ws))) (λ n. (edge_at (edges_of cs ws) n).weight) ∙ length-count 0 (length (edges_of cs ws)) in
    ext_get_or 0 (weights_of (edges_of cs ws)) ws (omega arith) (λ n h.
    at_up_to (λ n. (edge_at (edges_of cs ws) n).weight) (length (edges_of cs ws)) n 0 (omega arith) ∙ weight-edge cs ws e n)

-- a table is as long as the degrees add up to
pub length-table : (f : Edge → ℕ) (l : List (List Edge)) → length (each (map f) l) ≡ edges_before (tables_of l).degrees (length l)
length-table f [] = refl
length-table f (es ∷ l) =
    length-append (map f es) (each (map f) l) ∙ ap₂ (λ a b. a + b) (length-map es f) (length-table f l) ∙ sym (before_cons (length es) (map (λ es. length es) l) (length l))
