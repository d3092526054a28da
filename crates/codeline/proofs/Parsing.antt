-- Steps of reading the code line into tables, and that the numbers with the tables are the whole line.
use mathlib.Core.Path.{◌≡◌, refl, sym, ap, ◌∙◌}
use mathlib.Core.List.{List, [], ◌∷◌, ◌++◌}
use Prim.Native.Nat.{ℕ, suc, ◌+◌, ◌-◌, ◌*◌, ◌≤◌, ◌<◌}
use native.Mathlib.Numerals.{add-one}
use native.Mathlib.Omega.{arith}
use lib.ListN.{length, take, get_or, set, length-map}
use lib.Seq.{take-suc-set, length-take-le}
use borrow.Author.Tests.{eq-eqb, ne_eqb}
use Rattle.trellis.specs.Rules.{size_of}
use Rattle.machine.specs.CodeLine.{Read, good, bad, then, Edge, edge, read_edge, Code, checks, parse, Numbers, numbers_of}
use Rattle.machine.specs.inner.Tables.{flat, edges_into, check_into, Tables, tables, checks_into, tables_of}
use Rattle.machine.proofs.Tables.{pick-then, checks_into_lem}
use Rattle.codeline.specs.declared.answers.Numbers.{Numbers as LineNumbers}
use Rattle.codeline.specs.Answers.{numbers_in}
use Rattle.codeline.specs.inner.Reading.{put_columns, put_weights, Filled, head_of}
use Rattle.codeline.specs.declared.tables.Tables.{Tables as LineTables}

-- a turn of each loop, i below its end
module _ (s : List ℕ) (n q count i : ℕ) (h : i < count) where
  -- the number of turns that are left
  left : count - i ≡ suc (count - (i + 1))
  left = omega arith

  pub edges_bad : (here low r : ℕ) (cs ws : List ℕ) → read_edge s here n q low ≡ bad r → edges_into (count - i) s here n q low cs ws ≡ bad r
  unfolding edges_into
  edges_bad here low r cs ws e = rw (left, e)

  -- a turn that puts an edge behind the others
  pub edges_more : (here low c w : ℕ) (cs ws : List ℕ) → read_edge s here n q low ≡ good (edge c w)
      → edges_into (count - i) s here n q low cs ws ≡ edges_into (count - (i + 1)) s (here + 3) n q (c + 1) (cs ++ (c ∷ [])) (ws ++ (w ∷ []))
  unfolding edges_into
  edges_more here low c w cs ws e = rw (left, e)

  pub checks_bad : (here total r : ℕ) (ds cs ws : List ℕ) → check_into s here n q total cs ws ≡ bad r → checks_into (count - i) s here n q total ds cs ws ≡ bad r
  unfolding checks_into
  checks_bad here total r ds cs ws e = rw (left, e)

  -- a turn that stores the degree at i
  pub checks_more : (here total d : ℕ) (ds cs ws cs' ws' : List ℕ) → i < length ds → d ≡ get_or s here 0 → check_into s here n q total cs ws ≡ good (flat cs' ws')
      → checks_into (count - i) s here n q total (take i ds) cs ws ≡ checks_into (count - (i + 1)) s (here + 1 + 3 * d) n q (total + d) (take (i + 1) (set ds i d)) cs' ws'
  unfolding checks_into
  checks_more here total d ds cs ws cs' ws' j k e = rw (left, e, add-one i, take-suc-set ds i d j, k)

-- the end of each loop; over checks with no byte left over, and with some
module _ (s : List ℕ) (n q count i here : ℕ) (h : i ≡ count) where
  none-left : count - i ≡ 0
  none-left = omega arith

  pub edges_done : (low : ℕ) (cs ws : List ℕ) → edges_into (count - i) s here n q low cs ws ≡ good (flat cs ws)
  unfolding edges_into
  edges_done low cs ws = rw none-left

  pub checks_done : (total : ℕ) (ds cs ws : List ℕ) → here ≡ length s → checks_into (count - i) s here n q total (take i ds) cs ws ≡ good (tables (take count ds) cs ws)
  unfolding checks_into
  checks_done total ds cs ws e = rw (none-left, eq-eqb here (length s) e, ← h)

  pub checks_over : (total : ℕ) (ds cs ws : List ℕ) → here < length s → checks_into (count - i) s here n q total ds cs ws ≡ bad 5
  unfolding checks_into
  checks_over total ds cs ws l = rw (none-left, ne_eqb here (length s) (λ e. omega arith))

-- a code from its numbers and its checks
abbrev coded : Numbers → List (List Edge) → Code
coded h l = record { first = h.first; columns = h.columns; scale = h.scale; limit = h.limit; checks = l }

abbrev after_head : List ℕ → Numbers → Read Code
after_head s h = then (checks h.checks s 6 h.columns (size_of h.first) 0) (λ (l : List (List Edge)). good (coded h l))

parse-head : (s : List ℕ) → parse s ≡ then (head_of s) (after_head s)
unfolding parse head_of
parse-head s = sym (simp pick-then)

-- a line that is refused before its checks
pub head_refused : (s : List ℕ) (k : ℕ) → bad k ≡ head_of s → parse s ≡ bad k
head_refused s k e = parse-head s ∙ ap (λ r. then r (after_head s)) (sym e)

-- a line that is refused has no tables
pub not_filled : (s : List ℕ) (C : Code) (t : LineTables) (k : ℕ) → parse s ≡ bad k → parse s ≡ good C → Filled C t
not_filled s C t k e g = let z : ◌≡◌ {A = ℕ} 0 1 = cc in absurd (omega arith)

-- a line whose numbers are h
module _ (s : List ℕ) (h : LineNumbers) (e : good (numbers_in h) ≡ head_of s) where
  abbrev rest : Read (List (List Edge))
  rest = checks h.checks s 6 h.columns (size_of h.first) 0

  parse-rest : parse s ≡ then rest (λ (l : List (List Edge)). good (coded (numbers_in h) l))
  parse-rest = (parse-head s ∙ ap (λ r. then r (after_head s)) (sym e))

  into-rest : checks_into h.checks s 6 h.columns (size_of h.first) 0 [] [] [] ≡ then rest (λ l. good (tables_of l))
  into-rest = checks_into_lem h.checks s 6 h.columns (size_of h.first) 0 [] [] []

  pub rest_refused : (k : ℕ) → bad k ≡ checks_into h.checks s 6 h.columns (size_of h.first) 0 [] [] [] → parse s ≡ bad k
  rest_refused k j = parse-rest ∙ go rest (sym into-rest ∙ sym j)
    where
      go : (r : Read (List (List Edge))) → then r (λ l. good (tables_of l)) ≡ bad k → then r (λ l. good (coded (numbers_in h) l)) ≡ bad k
      go (good l) a = let z : ◌≡◌ {A = ℕ} 0 1 = cc in absurd (omega arith)
      go (bad x) a = cc

  rest-good : (t : Tables) → checks_into h.checks s 6 h.columns (size_of h.first) 0 [] [] [] ≡ good t → (l : List (List Edge)) × (parse s ≡ good (coded (numbers_in h) l)) × (tables_of l ≡ t)
  rest-good t j = let r = go rest (sym into-rest ∙ j) in (r.0, parse-rest ∙ r.1, r.2)
    where
      go : (r : Read (List (List Edge))) → then r (λ l. good (tables_of l)) ≡ good t
          → (l : List (List Edge)) × (then r (λ (l : List (List Edge)). good (coded (numbers_in h) l)) ≡ good (coded (numbers_in h) l)) × (tables_of l ≡ t)
      go (good l) a = (l, refl, cc)
      go (bad x) a = let z : ◌≡◌ {A = ℕ} 0 1 = cc in absurd (omega arith)

  module _ (t : LineTables) (room : h.checks ≤ 128) (full : length t.degrees ≡ 128)
      (j : good (tables (take h.checks t.degrees) (put_columns t) (put_weights t)) ≡ checks_into h.checks s 6 h.columns (size_of h.first) 0 [] [] []) where
    abbrev list : List (List Edge)
    list = (rest-good _ (sym j)).0

    as-many : length list ≡ h.checks
    as-many = sym (length-map list (λ es. length es)) ∙ ap (λ t. length t.degrees) (rest-good _ (sym j)).2 ∙ length-take-le h.checks t.degrees (omega arith)

    pub read_numbers : good (numbers_in h) ≡ numbers_of (parse s)
    read_numbers = rw ((rest-good _ (sym j)).1, as-many) refl

    pub read_filled : (C : Code) → parse s ≡ good C → Filled C t
    read_filled C g =
        let r = rest-good _ (sym j) in
        let c : C ≡ coded (numbers_in h) list = cc r.1 in
        rw c
        record {
          degrees = ap (λ n. take n t.degrees) as-many ∙ sym (ap (λ t. t.degrees) r.2);
          columns = sym (ap (λ t. t.edges.columns) r.2);
          weights = sym (ap (λ t. t.edges.weights) r.2);
        }
