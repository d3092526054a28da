-- The code line as bytes, read front to back, and the acceptance of a frame under it. SPEC 4, 5.
use Rattle.std.specs.Prelude.{Bool, not, List, [], ◌∷◌, ℕ, zero, suc, ◌+◌, ◌-◌, ◌*◌, eqb, ltb, leb, length, get_or}
use Rattle.trellis.specs.Lists.{pick, all_to, part}
use Rattle.trellis.specs.Check.{Rule, first_zero}
use Rattle.trellis.specs.Rules.{power_of, size_of, first_ok, rule_for}
use Rattle.trellis.specs.Refusals.{Test, when, unless, refused_by, fault_by}
use Rattle.trellis.specs.Sizes.{most_degree, most_edges, most_checks, most_symbols}

-- what was read, or the number of the refusal
pub data Read (A : Type 0) : Type 0 where
  good : A → Read A
  bad : ℕ → Read A

abbrev pub then : {A B : Type 0} → Read A → (A → Read B) → Read B
then (good a) k = k a
then (bad r) k = bad r

pub record Edge : Type 0 where
  pub column : ℕ
  pub weight : ℕ

-- the first byte, N, g, I, and the edges of each check in code order
pub record Code : Type 0 where
  pub first : ℕ
  pub columns : ℕ
  pub scale : ℕ
  pub limit : ℕ
  pub checks : List (List Edge)

abbrev pub edge : ℕ → ℕ → Edge
edge c h = record { column = c; weight = h }

-- "two bytes, high first" (SPEC 4.2)
abbrev pub word_at : List ℕ → ℕ → ℕ
word_at s at = get_or s at 0 * 256 + get_or s (at + 1) 0

-- "for each edge the column (two bytes, high first, below N, rising within the check) and weight": 10 for a column not below n or not
-- rising (below low), 11 for a weight that is 0 or not below q (SPEC 4.2, 8.3)
abbrev pub edge_tests : List ℕ → ℕ → ℕ → ℕ → ℕ → List Test
edge_tests s at n q low =
    when (leb n (word_at s at)) 10
    ∷ when (ltb (word_at s at) low) 10
    ∷ when (eqb (get_or s (at + 2) 0) 0) 11
    ∷ when (leb q (get_or s (at + 2) 0)) 11
    ∷ []

unfoldable pub read_edge : List ℕ → ℕ → ℕ → ℕ → ℕ → Read Edge
read_edge s at n q low = refused_by (edge_tests s at n q low) bad (good (edge (word_at s at) (get_or s (at + 2) 0)))

-- c edges from a place, edge by edge
unfoldable pub edges : ℕ → List ℕ → ℕ → ℕ → ℕ → ℕ → Read (List Edge)
edges zero s at n q low = good []
edges (suc c) s at n q low =
    then (read_edge s at n q low) (λ (e : Edge).
    then (edges c s (at + 3) n q (e.column + 1)) (λ (es : List Edge).
    good (e ∷ es)))

-- one check, after total edges: "5 for the degree byte, 9, 5 for its edges, then 10 and 11 edge by edge" (SPEC 8.3)
abbrev pub check_tests : List ℕ → ℕ → ℕ → List Test
check_tests s at total =
    when (leb (length s) at) 5
    ∷ when (ltb (get_or s at 0) 2) 9
    ∷ when (ltb most_degree (get_or s at 0)) 9
    ∷ when (ltb most_edges (total + get_or s at 0)) 9
    ∷ when (ltb (length s - (at + 1)) (3 * get_or s at 0)) 5
    ∷ []

unfoldable pub check_at : List ℕ → ℕ → ℕ → ℕ → ℕ → Read (List Edge)
check_at s at n q total = refused_by (check_tests s at total) bad (edges (get_or s at 0) s (at + 1) n q 0)

-- c checks, "last 5 for bytes left over" (SPEC 8.3)
unfoldable pub checks : ℕ → List ℕ → ℕ → ℕ → ℕ → ℕ → Read (List (List Edge))
checks zero s at n q total = pick (eqb at (length s)) (good []) (bad 5)
checks (suc c) s at n q total =
    then (check_at s at n q total) (λ (es : List Edge).
    then (checks c s (at + 1 + 3 * get_or s at 0) n q (total + get_or s at 0)) (λ (cs : List (List Edge)).
    good (es ∷ cs)))

-- the whole line: "p", with k in the first byte; "N as two bytes, high first (1 to 256); M (1 to 128); scale g (1 to 16); iteration limit
-- I (1 to 255). Then M checks"; "5 if under six bytes, 6, 7, 8" (SPEC 4.1, 8.3)
abbrev pub head_tests : List ℕ → List Test
head_tests s =
    when (ltb (length s) 6) 5
    ∷ when (not (first_ok (get_or s 0 0))) 6
    ∷ when (ltb (word_at s 1) 1) 7
    ∷ when (ltb most_symbols (word_at s 1)) 7
    ∷ when (ltb (get_or s 3 0) 1) 7
    ∷ when (ltb most_checks (get_or s 3 0)) 7
    ∷ when (ltb (get_or s 4 0) 1) 8
    ∷ when (ltb 16 (get_or s 4 0)) 8
    ∷ when (ltb (get_or s 5 0) 1) 8
    ∷ []

unfoldable pub parse : List ℕ → Read Code
parse s =
    refused_by (head_tests s) bad
    (then (checks (get_or s 3 0) s 6 (word_at s 1) (size_of (get_or s 0 0)) 0) (λ (cs : List (List Edge)).
    good (record { first = get_or s 0 0; columns = word_at s 1; scale = get_or s 4 0; limit = get_or s 5 0; checks = cs })))

-- p, q, and the rule of a code
abbrev pub power : Code → ℕ
power C = power_of C.first

abbrev pub size : Code → ℕ
size C = size_of C.first

abbrev pub rule : Code → Rule
rule C = rule_for C.first

-- the edges of check m, and edge n of a check
abbrev pub check : Code → ℕ → List Edge
check C m = get_or C.checks m []

abbrev pub edge_at : List Edge → ℕ → Edge
edge_at es n = get_or es n (edge 0 0)

-- column c of a list of costs, q each
abbrev pub column_of : ℕ → List ℕ → ℕ → List ℕ
column_of q l c = part l (c * q) q

-- "a column without a cost of 0" is refused by 13 (SPEC 5.2)
abbrev pub zero_in : ℕ → List ℕ → ℕ → Bool
zero_in q l c = ltb (first_zero (column_of q l c)) q

-- a frame of n columns: "12, cost count wrong; 13, a column without a cost of 0" (SPEC 8.4)
abbrev pub frame_tests : ℕ → ℕ → List ℕ → List Test
frame_tests q n f =
    unless (eqb (length f) (n * q)) 12
    ∷ unless (all_to (zero_in q f) n) 13
    ∷ []

-- its refusal under a code, 0 for none
unfoldable pub frame_fault : Code → List ℕ → ℕ
frame_fault C f = fault_by (frame_tests (size C) C.columns f)

-- the numbers of a code line before its checks: the first byte, N, M, g, I (SPEC 4.1)
pub record Numbers : Type 0 where
  pub first : ℕ
  pub columns : ℕ
  pub checks : ℕ
  pub scale : ℕ
  pub limit : ℕ

-- they are given where the whole line is accepted (SPEC 7.7.1)
abbrev pub numbers_of : Read Code → Read Numbers
numbers_of (good C) =
    good (record { first = C.first; columns = C.columns; checks = length C.checks; scale = C.scale; limit = C.limit })
numbers_of (bad k) = bad k

-- N, where the code line is accepted (SPEC 7.7.5)
abbrev pub columns_read : Read Numbers → ℕ
columns_read (good h) = h.columns
columns_read (bad k) = 0
