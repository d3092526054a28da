-- What a code line that is accepted has: the ranges of its numbers. proofs/Lines.antt shows it of every line that is read.
use Rattle.std.specs.Prelude.{◌≡◌, true, ◌≢◌, List, [], ◌∷◌, ℕ, ◌+◌, ◌≤◌, ◌<◌, length}
use Rattle.trellis.specs.Rules.{first_ok}
use Rattle.trellis.specs.Sizes.{most_degree, most_symbols, most_edges, most_checks}
use Rattle.machine.specs.CodeLine.{Edge, Code, power, size, check, edge_at}

pub record GoodEdge (n q : ℕ) (e : Edge) : Type 0 where
  pub column-small : e.column < n
  pub weight-some : e.weight ≢ 0
  pub weight-small : e.weight < q

pub record GoodCheck (n q : ℕ) (es : List Edge) : Type 0 where
  pub low : 2 ≤ length es
  pub high : length es ≤ most_degree
  pub each-edge : (k : ℕ) → k < length es → GoodEdge n q (edge_at es k)
  pub rising : (j k : ℕ) → j < k → k < length es → (edge_at es j).column < (edge_at es k).column

-- how many edges all checks have together
abbrev pub edge_total : List (List Edge) → ℕ
edge_total [] = 0
edge_total (es ∷ l) = length es + edge_total l

pub record GoodCode (C : Code) : Type 0 where
  pub first : first_ok C.first ≡ true
  pub p-low : 2 ≤ power C
  pub p-high : power C ≤ 6
  pub columns-low : 1 ≤ C.columns
  pub columns-high : C.columns ≤ most_symbols
  pub scale-low : 1 ≤ C.scale
  pub scale-high : C.scale ≤ 16
  pub limit-low : 1 ≤ C.limit
  pub checks-low : 1 ≤ length C.checks
  pub checks-high : length C.checks ≤ most_checks
  pub each-check : (m : ℕ) → m < length C.checks → GoodCheck C.columns (size C) (check C m)
  pub edges-high : edge_total C.checks ≤ most_edges
