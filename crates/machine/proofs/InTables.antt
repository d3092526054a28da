-- The code that numbers and tables say: its checks are their parts of the tables, where these have room for every edge; and tables that start with
-- a code's own say this code.
use mathlib.Core.Path.{◌≡◌, refl, sym, ap, ap₂, ◌∙◌}
use mathlib.Core.List.{List, [], map}
use Prim.Native.Nat.{ℕ, zero, suc, ◌+◌, ◌≤◌, ◌<◌}
use native.Mathlib.Omega.{arith}
use lib.ListN.{length, take, get_or, length-map}
use lib.Seq.{get_or-take, get_or-drop, ext_get_or}
use Rattle.trellis.specs.Lists.{up_to, part}
use Rattle.trellis.specs.Field.{product}
use Rattle.trellis.specs.Record.{record_length}
use Rattle.trellis.specs.Rules.{rule_for}
use Rattle.trellis.proofs.Places.{length-count}
use Rattle.machine.specs.CodeLine.{Edge, Code, Numbers, rule, check, edge_at}
use Rattle.machine.specs.Machine.{place}
use Rattle.machine.specs.inner.Tables.{tables_of, edges_of, edges_before, bytes_before, table_at, checks_from, code_in, term, Tabled}
use Rattle.machine.proofs.Lists.{at_up_to}
use Rattle.machine.proofs.Edges.{length-edges, column-edge, weight-edge}
use Rattle.machine.proofs.Places.{before_mono, length_part, edges_at}

module _ (k : Numbers) (ds cs ws : List ℕ) (hc : edges_before ds k.checks ≤ length cs) (hw : edges_before ds k.checks ≤ length ws) where
  abbrev C : Code
  C = code_in k ds cs ws

  pub count : length C.checks ≡ k.checks
  unfolding checks_from
  count = length-map (up_to k.checks) _ ∙ length-count 0 k.checks

  module _ (m : ℕ) (h : m < k.checks) where
    pub edges-within : edges_before ds m + get_or ds m 0 ≤ edges_before ds k.checks
    edges-within = before_mono ds (suc m) k.checks h

    pub in_columns : edges_before ds m + get_or ds m 0 ≤ length cs
    in_columns = omega (arith, edges-within)

    pub in_weights : edges_before ds m + get_or ds m 0 ≤ length ws
    in_weights = omega (arith, edges-within)

    pub check_is : check C m ≡ edges_of (table_at ds cs m) (table_at ds ws m)
    unfolding checks_from
    check_is = at_up_to (λ k. edges_of (table_at ds cs k) (table_at ds ws k)) k.checks m [] h

    pub columns-length : length (table_at ds cs m) ≡ get_or ds m 0
    columns-length = length_part cs (edges_before ds m) (get_or ds m 0) in_columns

    pub weights-length : length (table_at ds ws m) ≡ get_or ds m 0
    weights-length = length_part ws (edges_before ds m) (get_or ds m 0) in_weights

    pub same_length : length (table_at ds cs m) ≡ length (table_at ds ws m)
    same_length = columns-length ∙ sym weights-length

    pub degree_is : length (check C m) ≡ get_or ds m 0
    degree_is = ap length check_is ∙ length-edges (table_at ds cs m) (table_at ds ws m) same_length ∙ columns-length

    pub column-part : (n : ℕ) → get_or (table_at ds cs m) n 0 ≡ (edge_at (check C m) n).column
    column-part n = sym (ap (λ es. (edge_at es n).column) check_is ∙ column-edge (table_at ds cs m) (table_at ds ws m) same_length n)

    pub weight-part : (n : ℕ) → get_or (table_at ds ws m) n 0 ≡ (edge_at (check C m) n).weight
    weight-part n = sym (ap (λ es. (edge_at es n).weight) check_is ∙ weight-edge (table_at ds cs m) (table_at ds ws m) same_length n)

    -- in the whole table
    pub column_in : (n : ℕ) → n < get_or ds m 0 → get_or cs (edges_before ds m + n) 0 ≡ (edge_at (check C m) n).column
    column_in n i = sym (rw (get_or-take, get_or-drop)) ∙ column-part n

    pub weight_in : (n : ℕ) → n < get_or ds m 0 → get_or ws (edges_before ds m + n) 0 ≡ (edge_at (check C m) n).weight
    weight_in n i = sym (rw (get_or-take, get_or-drop)) ∙ weight-part n

    pub term_in : (p : ℕ) (z : List ℕ) (n : ℕ) → n < get_or ds m 0
        → term p cs ws z (edges_before ds m + n) ≡ product p (edge_at (check C m) n).weight (get_or z (edge_at (check C m) n).column 0)
    term_in p z n i = ap₂ (λ u v. product p u (get_or z v 0)) (weight_in n i) (column_in n i)

  -- records stand where the degrees say
  pub place_is : (m : ℕ) → m ≤ k.checks → bytes_before k.first ds m ≡ place C m
  unfolding place bytes_before
  place_is zero h = refl
  place_is (suc m) h = ap₂ (λ a d. a + record_length (rule C) d) (place_is m (omega arith)) (sym (degree_is m h))

-- the same edges before a check, by the degrees that a list starts with
pub before-take : (ds : List ℕ) (n m : ℕ) → m ≤ n → edges_before (take n ds) m ≡ edges_before ds m
before-take ds n zero h = refl
before-take ds n (suc m) h = ap₂ (λ a b. a + b) (before-take ds n m (omega arith)) (rw get_or-take)

pub bytes_take : (first : ℕ) (ds : List ℕ) (n m : ℕ) → m ≤ n → bytes_before first (take n ds) m ≡ bytes_before first ds m
unfolding bytes_before
bytes_take first ds n zero h = refl
bytes_take first ds n (suc m) h =
    ap₂ (λ a d. a + record_length (rule_for first) d) (bytes_take first ds n m (omega arith)) (get_or-take n ds m 0 h)

-- tables that start with those of a code say this code
module _ (C : Code) (ds cs ws : List ℕ) (H : Tabled C ds cs ws) where
  abbrev own : List ℕ
  own = (tables_of C.checks).degrees

  own_length : length own ≡ length C.checks
  own_length = length-map C.checks (λ es. length es)

  table-own : (l : List ℕ) (m : ℕ) → m < length C.checks → table_at ds l m ≡ table_at own l m
  table-own l m h =
      let a : edges_before own m ≡ edges_before ds m = ap (λ d. edges_before d m) (sym H.degrees) ∙ before-take ds (length own) m (omega (arith, own_length)) in
      let i : m < length own = omega (arith, own_length) in
      let b : get_or own m 0 ≡ get_or ds m 0 = ap (λ d. get_or d m 0) (sym H.degrees) ∙ get_or-take (length own) ds m 0 i in
      ap₂ (part l) (sym a) (sym b)

  pub before_own : edges_before ds (length C.checks) ≡ edges_before own (length C.checks)
  before_own = sym (ap (λ d. edges_before d (length C.checks)) (sym H.degrees) ∙ before-take ds (length own) (length C.checks) (omega (arith, own_length)))

  pub checks_say : checks_from (length C.checks) ds cs ws ≡ C.checks
  unfolding checks_from
  checks_say =
      let f : ℕ → List Edge = λ m. edges_of (table_at ds cs m) (table_at ds ws m) in
      let e : length (map f (up_to (length C.checks))) ≡ length C.checks = length-map (up_to (length C.checks)) f ∙ length-count 0 (length C.checks) in
      ext_get_or [] (map f (up_to (length C.checks))) C.checks e (λ m i.
      let h : m < length C.checks = omega (arith, e) in
      at_up_to f (length C.checks) m [] h
      ∙ ap₂ edges_of (table-own cs m h) (table-own ws m h)
      ∙ edges_at C cs ws H.columns H.weights m h)
