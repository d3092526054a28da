-- The code line read into tables, as the code reads it: the degrees, and all columns and weights end to end.
-- proofs/Tables.antt shows that it is parse.
use Rattle.std.specs.Prelude.{◌≡◌, List, [], ◌∷◌, ◌++◌, map, ℕ, zero, suc, ◌+◌, ◌*◌, ◌^◌, ◌≤◌, ◌<◌, eqb, length, get_or, take}
use Rattle.trellis.specs.Lists.{up_to, each, pick, upto, part}
use Rattle.trellis.specs.Refusals.{refused_by}
use Rattle.trellis.specs.Record.{record_length}
use Rattle.trellis.specs.Rules.{rule_for}
use Rattle.trellis.specs.Field.{product}
use Rattle.machine.specs.CodeLine.{Read, good, bad, then, Edge, Code, Numbers, edge, read_edge, check_tests}

-- columns and weights
pub record Flat : Type 0 where
  pub columns : List ℕ
  pub weights : List ℕ

abbrev pub flat : List ℕ → List ℕ → Flat
flat cs ws = record { columns = cs; weights = ws }

-- c edges, after those in cs and ws
unfoldable pub edges_into : ℕ → List ℕ → ℕ → ℕ → ℕ → ℕ → List ℕ → List ℕ → Read Flat
edges_into zero s at n q low cs ws = good (flat cs ws)
edges_into (suc c) s at n q low cs ws =
    then (read_edge s at n q low) (λ (e : Edge). edges_into c s (at + 3) n q (e.column + 1) (cs ++ (e.column ∷ []))
    (ws ++ (e.weight ∷ [])))

unfoldable pub check_into : List ℕ → ℕ → ℕ → ℕ → ℕ → List ℕ → List ℕ → Read Flat
check_into s at n q total cs ws = refused_by (check_tests s at total) bad (edges_into (get_or s at 0) s (at + 1) n q 0 cs ws)

pub record Tables : Type 0 where
  pub degrees : List ℕ
  pub edges : Flat

abbrev pub tables : List ℕ → List ℕ → List ℕ → Tables
tables ds cs ws = record { degrees = ds; edges = flat cs ws }

unfoldable pub checks_into : ℕ → List ℕ → ℕ → ℕ → ℕ → ℕ → List ℕ → List ℕ → List ℕ → Read Tables
checks_into zero s at n q total ds cs ws = pick (eqb at (length s)) (good (tables ds cs ws)) (bad 5)
checks_into (suc c) s at n q total ds cs ws =
    then (check_into s at n q total cs ws) (λ (f : Flat).
    checks_into c s (at + 1 + 3 * get_or s at 0) n q (total + get_or s at 0) (ds ++ (get_or s at 0 ∷ [])) f.columns f.weights)

-- the tables of a list of checks
abbrev pub tables_of : List (List Edge) → Tables
tables_of l = tables (map (λ es. length es) l) (each (map (λ e. e.column)) l) (each (map (λ e. e.weight)) l)

-- a check's edges from its parts of the tables
abbrev pub edges_of : List ℕ → List ℕ → List Edge
edges_of [] ws = []
edges_of (c ∷ cs) [] = []
edges_of (c ∷ cs) (w ∷ ws) = edge c w ∷ edges_of cs ws

-- where check m's edges start
abbrev pub edges_before : List ℕ → ℕ → ℕ
edges_before ds m = upto (λ k a. a + get_or ds k 0) m 0

-- where its record starts in the store, by the degrees
unfoldable pub bytes_before : ℕ → List ℕ → ℕ → ℕ
bytes_before first ds m = upto (λ k a. a + record_length (rule_for first) (get_or ds k 0)) m 0

-- check m's part of a table of edges
abbrev pub table_at : List ℕ → List ℕ → ℕ → List ℕ
table_at ds l m = part l (edges_before ds m) (get_or ds m 0)

-- the first m checks that the tables say, and with the numbers of a line its code
unfoldable pub checks_from : ℕ → List ℕ → List ℕ → List ℕ → List (List Edge)
checks_from m ds cs ws = map (λ k. edges_of (table_at ds cs k) (table_at ds ws k)) (up_to m)

abbrev pub code_in : Numbers → List ℕ → List ℕ → List ℕ → Code
code_in k ds cs ws =
    record { first = k.first; columns = k.columns; scale = k.scale; limit = k.limit; checks = checks_from k.checks ds cs ws }

-- h times x at edge k, in the order of the tables
abbrev pub term : ℕ → List ℕ → List ℕ → List ℕ → ℕ → ℕ
term p cs ws z k = product p (get_or ws k 0) (get_or z (get_or cs k 0) 0)

-- edge k has a column with a symbol, and two elements to multiply
pub record EdgeRoom (p : ℕ) (cs ws z : List ℕ) (k : ℕ) : Type 0 where
  pub low : 2 ≤ p
  pub high : p ≤ 6
  pub in_columns : k < length cs
  pub in_weights : k < length ws
  pub column : get_or cs k 0 < length z
  pub weight : get_or ws k 0 < 2 ^ p
  pub symbol : get_or z (get_or cs k 0) 0 < 2 ^ p

-- tables that start with those of a code's checks
pub record Tabled (C : Code) (ds cs ws : List ℕ) : Type 0 where
  pub degrees : take (length (tables_of C.checks).degrees) ds ≡ (tables_of C.checks).degrees
  pub columns : take (length (tables_of C.checks).edges.columns) cs ≡ (tables_of C.checks).edges.columns
  pub weights : take (length (tables_of C.checks).edges.weights) ws ≡ (tables_of C.checks).edges.weights
