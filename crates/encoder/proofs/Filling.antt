-- One symbol more for each check: a check's sum term by term, its own symbol, and the loop that leaves the code's word.
use mathlib.Core.Path.{◌≡◌, sym, ap, ap₂, ◌∙◌}
use mathlib.Core.List.{List, [], ◌++◌, append-nil}
use Prim.Native.Nat.{ℕ, suc, ◌+◌, ◌-◌, ◌≤◌, ◌<◌}
use native.Mathlib.Numerals.{add-one}
use native.Mathlib.Omega.{arith}
use lib.Bits.{bit_xor}
use lib.ListN.{length, get_or, take, drop, set, drop_of_length-le, take-append-drop}
use lib.Seq.{set-append_seam, drop-cons, length-take-le, get_or-take, append_snoc, take_at}
use Rattle.trellis.specs.Field.{xor, product, quotient}
use Rattle.trellis.specs.Rules.{power_of, size_of}
use Rattle.machine.specs.CodeLine.{Code, power, check, edge_at}
use Rattle.machine.specs.Machine.{parity_sum}
use Rattle.machine.specs.Encoding.{message_length, own_symbol, encode_to, encoded}
use Rattle.machine.specs.inner.Tables.{edges_before, term, EdgeRoom}
use Rattle.machine.proofs.InTables.{count, degree_is, in_columns, in_weights, column_in, weight_in, term_in}
use Rattle.machine.proofs.Encoding.{more-columns, others_lower, sum_own, length_to, small_to}
use Rattle.division.specs.Numbers.{quotient_or, QuotientRoom}
use Rattle.division.proofs.Quotients.{quotient_is}
use Rattle.codeline.specs.declared.answers.Numbers.{Numbers}
use Rattle.codeline.specs.declared.code.Code.{Code as LentCode}
use Rattle.codeline.specs.Answers.{numbers_in}
use Rattle.codeline.specs.Codes.{lent_code}
use Rattle.codeline.specs.inner.Coding.{Coded}
use Rattle.encoder.specs.inner.Rooms.{OwnRoom, FillRoom}

module _ (K : LentCode) where
  abbrev k : Numbers
  k = K.numbers

  abbrev ds : List ℕ
  ds = K.degrees.now

  abbrev cs : List ℕ
  cs = K.columns.now

  abbrev ws : List ℕ
  ws = K.weights.now

  abbrev C : Code
  C = lent_code K

  abbrev T : Coded k ds cs ws
  T = K.coded

  abbrev hc : edges_before ds k.checks ≤ length cs
  hc = T.for_columns

  abbrev hw : edges_before ds k.checks ≤ length ws
  hw = T.for_weights

  pub counted : length C.checks ≡ k.checks
  counted = count (numbers_in k) ds cs ws hc hw

  -- a check over the tables of a code
  module _ (m at d : ℕ) (h : m < k.checks) (e : at ≡ edges_before ds m) (i : d ≡ get_or ds m 0) where
    pub in_checks : m < length C.checks
    in_checks = omega (arith, counted)

    pub degree : d ≡ length (check C m)
    degree = i ∙ sym (degree_is (numbers_in k) ds cs ws hc hw m h)

    pub some-edge : 1 ≤ d
    some-edge = omega (arith, degree, (T.good.each-check m in_checks).low)

    pub columns-end : at + d ≤ length cs
    columns-end = rw (e, i) (in_columns (numbers_in k) ds cs ws hc hw m h)

    pub weights-end : at + d ≤ length ws
    weights-end = rw (e, i) (in_weights (numbers_in k) ds cs ws hc hw m h)

    -- the last column
    pub last-column : (c : ℕ) → c ≡ get_or cs (at + (d - 1)) 0 → c ≡ (edge_at (check C m) (length (check C m) - 1)).column
    last-column c o =
        o
        ∙ ap₂ (λ a d. get_or cs (a + (d - 1)) 0) e i
        ∙ column_in (numbers_in k) ds cs ws hc hw m h (get_or ds m 0 - 1) (omega (arith, some-edge))
        ∙ ap (λ d. (edge_at (check C m) (d - 1)).column) (sym i ∙ degree)

  -- the symbol of a check, from the word before it
  module _ (m at : ℕ) (w : List ℕ) (R : OwnRoom K m at w) (d : ℕ) (i : d ≡ get_or ds m 0) where
    pub enough : (1 ≤ d) × ((at + d ≤ length cs) × (at + d ≤ length ws))
    enough =
        (some-edge m at d R.inside R.edge_is i, (columns-end m at d R.inside R.edge_is i, weights-end m at d R.inside R.edge_is i))

    inside : m < length C.checks
    inside = in_checks m at d R.inside R.edge_is i

    degree-here : d ≡ length (check C m)
    degree-here = degree m at d R.inside R.edge_is i

    weight-here : (n : ℕ) → n < d → get_or ws (at + n) 0 ≡ (edge_at (check C m) n).weight
    weight-here n l =
        ap (λ a. get_or ws (a + n) 0) R.edge_is ∙ weight_in (numbers_in k) ds cs ws hc hw m R.inside n (omega arith)

    column-here : (n : ℕ) → n < d → get_or cs (at + n) 0 ≡ (edge_at (check C m) n).column
    column-here n l =
        ap (λ a. get_or cs (a + n) 0) R.edge_is ∙ column_in (numbers_in k) ds cs ws hc hw m R.inside n (omega arith)

    pub edge-room : (n : ℕ) → n < d - 1 → EdgeRoom (power_of k.first) cs ws w (at + n)
    edge-room n l =
        let G = T.good in
        let E = (G.each-check m inside).each-edge n (omega (arith, degree-here)) in
        let b : (edge_at (check C m) n).column < length w = omega (arith, others_lower C G R.form m inside n (omega (arith, degree-here)), R.full) in
        let c : get_or cs (at + n) 0 ≡ (edge_at (check C m) n).column = column-here n (omega arith) in
        record {
          low = G.p-low;
          high = G.p-high;
          in_columns = omega (arith, enough.1.0);
          in_weights = omega (arith, enough.1.1);
          column = rw c b;
          weight = rw (weight-here n (omega arith)) E.weight-small;
          symbol = rw c (R.small (edge_at (check C m) n).column b);
        }

    -- an edge by its place in the tables
    pub edge-room_at : (n edge : ℕ) → edge ≡ at + n → n < d - 1 → EdgeRoom (power_of k.first) cs ws w edge
    edge-room_at n edge i l = rw i (edge-room n l)

    pub sum_more : (n s t : ℕ) → n < d → s ≡ parity_sum (power C) (check C m) w n → t ≡ term (power_of k.first) cs ws w (at + n)
        → bit_xor s t ≡ parity_sum (power C) (check C m) w (n + 1)
    unfolding xor
    sum_more n s t l u v =
        let x : t ≡ product (power C) (edge_at (check C m) n).weight (get_or w (edge_at (check C m) n).column 0) =
        v ∙ ap (λ a. term (power C) cs ws w (a + n)) R.edge_is ∙ term_in (numbers_in k) ds cs ws hc hw m R.inside (power C) w n (omega arith) in
        rw (add-one n, u, x)

    pub sum_more_at : (edge s t : ℕ) → at ≤ edge → edge < at + d → s ≡ parity_sum (power C) (check C m) w (edge - at)
        → t ≡ term (power_of k.first) cs ws w edge → bit_xor s t ≡ parity_sum (power C) (check C m) w (edge + 1 - at)
    sum_more_at edge s t l h u v =
        let e : edge ≡ at + (edge - at) = omega arith in
        let f : edge - at + 1 ≡ edge + 1 - at = omega arith in
        sum_more (edge - at) s t (omega arith) u (v ∙ ap (term (power_of k.first) cs ws w) e) ∙ ap (parity_sum (power C) (check C m) w) f

    -- the sum of the others divides
    pub own_is : (n s p r : ℕ) → n ≡ d - 1 → s ≡ parity_sum (power C) (check C m) w n → p ≡ power_of k.first → r ≡ quotient_or p (get_or ws (at + n) 0) s
        → r ≡ own_symbol (power C) (check C m) w
    unfolding own_symbol
    own_is n s p r a u b o =
        let G = T.good in
        let l : n < d = omega (arith, enough.0) in
        let E = (G.each-check m inside).each-edge n (omega (arith, degree-here)) in
        let v : n ≡ length (check C m) - 1 = omega (arith, degree-here) in
        let x : get_or ws (at + n) 0 ≡ (edge_at (check C m) (length (check C m) - 1)).weight = weight-here n l ∙ ap (λ n. (edge_at (check C m) n).weight) v in
        let y : s ≡ parity_sum (power C) (check C m) w (length (check C m) - 1) = u ∙ ap (parity_sum (power C) (check C m) w) v in
        let Q : QuotientRoom (power C) (get_or ws (at + n) 0) s =
        record {
          divisor = record { low = G.p-low; high = G.p-high; some = rw (weight-here n l) E.weight-some; small = rw (weight-here n l) E.weight-small };
          dividend = rw y (sum_own C G R.form m inside w R.full R.small);
        } in
        o ∙ ap (λ p. quotient_or p (get_or ws (at + n) 0) s) b ∙ quotient_is (power C) (get_or ws (at + n) 0) s Q ∙ ap₂ (quotient (power C)) x y

  -- the loop over the checks
  module _ (from : ℕ) (z : List ℕ) (R : FillRoom K from z) where
    abbrev word : ℕ → List ℕ
    word m = encode_to C (take from z) m

    abbrev buffer : ℕ → List ℕ
    buffer m = word m ++ drop (from + m) z

    count-is : length C.checks ≡ k.checks
    count-is = counted

    -- N - M and M together are N
    pub whole : from + k.checks ≡ length z
    whole = omega (arith, R.message, R.full, count-is, more-columns C T.good R.form)

    message-length : length (take from z) ≡ message_length C
    message-length = length-take-le from z (omega (arith, whole)) ∙ R.message

    message-small : (i : ℕ) → i < length (take from z) → get_or (take from z) i 0 < size_of k.first
    message-small i h = let l : i < from = omega (arith, message-length, R.message) in rw (get_or-take from z i 0 l) (R.small i l)

    pub length-word : (m : ℕ) → length (word m) ≡ from + m
    length-word m = length_to C T.good R.form (take from z) message-length message-small m ∙ ap (λ n. n + m) (sym R.message)

    -- the room of a turn, and its front of the buffer
    module _ (m : ℕ) (h : m < k.checks) (now : List ℕ) (o : now ≡ buffer m) where
      pub front : take (from + m) now ≡ word m
      front = ap (take (from + m)) o ∙ take_at (word m) (drop (from + m) z) (from + m) (length-word m)

      pub turn_room : (at : ℕ) → at ≡ edges_before ds m → OwnRoom K m at (take (from + m) now)
      turn_room at e =
          rw front
          record {
            form = R.form;
            inside = h;
            edge_is = e;
            full = length-word m ∙ ap (λ n. n + m) R.message;
            small = small_to C T.good R.form (take from z) message-length message-small m (omega (arith, count-is));
          }

      pub fill_turn : (x : ℕ) → x ≡ own_symbol (power C) (check C m) (take (from + m) now) → set now (from + m) x ≡ buffer (m + 1)
      unfolding encode_to
      fill_turn x i =
          let own : ℕ = own_symbol (power C) (check C m) (word m) in
          let v : x ≡ own = i ∙ ap (own_symbol (power C) (check C m)) front in
          let j : from + m < length z = omega (arith, whole) in
          let e : from + m ≡ length (word m) = sym (length-word m) in
          let n : from + (m + 1) ≡ suc (from + m) = omega arith in
          rw (o, v, n, add-one m, drop-cons z (from + m) 0 j, e)
          (set-append_seam (word m) (get_or z (length (word m)) 0) (drop (suc (length (word m))) z) own ∙ sym (append_snoc (word m) own (drop (suc (length (word m))) z)))

    pub fill_start : z ≡ buffer 0
    unfolding encode_to
    fill_start = let e : from + 0 ≡ from = omega arith in rw e (sym (take-append-drop from z))

    pub fill_done : (m : ℕ) (now : List ℕ) → m ≡ k.checks → now ≡ buffer m → now ≡ encoded C (take from z)
    fill_done m now e o =
        let n : drop (from + m) z ≡ [] = drop_of_length-le z {i = from + m} (omega (arith, whole)) in
        o ∙ ap (◌++◌ (word m)) n ∙ append-nil (word m) ∙ ap word (e ∙ sym count-is)
