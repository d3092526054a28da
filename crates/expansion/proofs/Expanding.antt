-- What the loops of an expansion read from the lists is what the definition reads from the record, and a column's bytes are its products moved by its shift.
use mathlib.Core.Path.{◌≡◌, refl, ap, ◌∙◌, sym}
use mathlib.Core.Bool.{true}
use mathlib.Core.List.{List}
use Prim.Native.Nat.{ℕ, zero, suc, ◌+◌, ◌-◌, ◌*◌, ◌%◌, ◌^◌, ◌≤◌, ◌<◌}
use native.Mathlib.Nat.{zero-add, suc-mul, mul-suc, mul-le-mul_left, mul-le-mul_right}
use native.Mathlib.Omega.{arith}
use borrow.Author.Tests.{ne_eqb}
use lib.Bits.{bit_xor, xor_lt}
use lib.ListN.{length, get_or, take, drop}
use lib.Seq.{drop-cons, get_or-take, get_or-drop}
use Rattle.trellis.specs.Lists.{tab, blocks, part}
use Rattle.trellis.specs.Field.{xor, product}
use Rattle.trellis.specs.Record.{beside, beside_group, record_ok, read_at, expand_at, expansion}
use Rattle.trellis.specs.Rules.{rule_of, rule_for, power_of, most_of}
use Rattle.trellis.proofs.Rules.{most-few}
use Rattle.trellis.proofs.Form.{form-front}
use Rattle.trellis.proofs.Recurrence.{size_64}
use Rattle.trellis.proofs.FieldLaws.{fields_at, has_inverse}
use Rattle.trellis.proofs.Loops.{length-tab, get_d_tab, tab_ext, map-tab, each-blocks, blocks_ext, length-even}
use Rattle.expansion.specs.inner.Asks.{ExpandRoom, column_bytes}
use Rattle.expansion.specs.inner.Transposed.{zero_row, every_at, list_of, unpacked, byte_in, beside_from, value_in, by_symbol, turned, ShiftRoom, TurnRoom}
use Rattle.field.specs.Answers.{row_of}
use Rattle.field.specs.inner.Asks.{Factors}
use Rattle.field.proofs.Blocks.{block_at}
use Rattle.field.proofs.Filling.{row-full}
use Rattle.field.proofs.Weighed.{WeightsAccepted, weight-at}

-- only the row's own bytes count
beside_ext : (f g : ℕ → ℕ) (n k : ℕ) → ((i : ℕ) → i < 1 + 2 * k → f i ≡ g i) → (m j : ℕ) → j + m ≤ k → beside_from f n j m ≡ beside_from g n j m
unfolding beside_from
beside_ext f g n k h zero j l = h 0 (omega arith)
beside_ext f g n k h (suc m) j l = rw (h (1 + 2 * j) (omega arith), h (2 + 2 * j) (omega arith), beside_ext f g n k h m (suc j) (omega arith))

-- row 0 lists no column
beside-zero : (n : ℕ) → n < 0xFF → (m j : ℕ) → beside_from zero_row n j m ≡ 0
unfolding beside_from zero_row
beside-zero n h zero j = refl
beside-zero n h (suc m) j =
    let o : (1 + 2 * j) % 2 ≡ 1 = omega arith in
    rw (o, ne_eqb 0xFF n (λ e. omega arith)) (beside-zero n h m (suc j))

-- a group's pairs, from its bytes
beside-group : (r : List ℕ) (at n : ℕ) (m j : ℕ) → at + (1 + 2 * (j + m)) ≤ length r
    → beside_from (λ i. get_or r (at + i) 0) n j m ≡ beside n (get_or r (at + 0) 0) (take (2 * m) (drop (at + (1 + 2 * j)) r))
unfolding beside_from
beside-group r at n zero j h = refl
beside-group r at n (suc m) j h =
    let two : 2 * suc m ≡ suc (suc (2 * m)) = omega arith in
    let x : ℕ = at + (1 + 2 * j) in
    let y : at + (2 + 2 * j) ≡ suc x = omega arith in
    let z : at + (1 + 2 * suc j) ≡ suc (suc x) = omega arith in
    rw (two, drop-cons r x 0 (omega arith), drop-cons r (suc x) 0 (omega arith), y, beside-group r at n m (suc j) (omega arith), z)

-- the group itself
beside_open : (r : List ℕ) (at n k : ℕ) → at < length r → beside n (get_or r (at + 0) 0) (take (2 * k) (drop (at + (1 + 2 * 0)) r)) ≡ beside_group n (take (1 + 2 * k) (drop at r))
beside_open r at n k h =
    let z : at + 0 ≡ at = omega arith in
    let y : at + (1 + 2 * 0) ≡ suc at = omega arith in
    let one : 1 + 2 * k ≡ suc (2 * k) = omega arith in
    rw (z, y, one, drop-cons r at 0 h)

-- the lists hold the record's bytes
module _ (k d q : ℕ) (r t : List ℕ) (e : take ((1 + 2 * k) * q) t ≡ unpacked k d q r) where
  byte_is : (a i : ℕ) → a < q → i < 1 + 2 * k → byte_in t q a i ≡ every_at r (d + i) (1 + 2 * k) (zero_row i) a
  unfolding unpacked
  byte_is a i h l =
      let m : i * q + a < (1 + 2 * k) * q = omega (arith, suc-mul i q, mul-le-mul_right {m = suc i} {n = 1 + 2 * k} q l) in
      let u : get_or t (i * q + a) 0 ≡ get_or (take ((1 + 2 * k) * q) t) (i * q + a) 0 = sym (get_or-take ((1 + 2 * k) * q) t (i * q + a) 0 m) in
      let v : get_or (part (blocks (list_of k d q r) (1 + 2 * k)) (i * q) q) a 0 ≡ get_or (blocks (list_of k d q r) (1 + 2 * k)) (i * q + a) 0 =
      get_or-take q (drop (i * q) (blocks (list_of k d q r) (1 + 2 * k))) a 0 h ∙ get_or-drop (i * q) (blocks (list_of k d q r) (1 + 2 * k)) a 0 in
      u
      ∙ ap (λ l. get_or l (i * q + a) 0) e
      ∙ sym v
      ∙ ap (λ l. get_or l a 0) (block_at q (list_of k d q r) (λ j. length-tab _ q) (1 + 2 * k) i l)
      ∙ get_d_tab (every_at r (d + i) (1 + 2 * k) (zero_row i)) q a h

  -- what a row says is the specification's reading
  pub value_is : (p n a : ℕ) → q ≡ 2 ^ p → length r ≡ d + (1 + 2 * k) * (2 ^ p - 1) → n < 0xFF → a < q → value_in k t q n a ≡ read_at (rule_of p ◌+◌ k) d r n a
  unfolding every_at read_at
  value_is p n zero s l h o = beside_ext (byte_in t q zero) zero_row n k (λ i m. byte_is zero i o m) k 0 (omega arith) ∙ beside-zero n h k 0
  value_is p n (suc b) s l h o =
      let g : ℕ = 1 + 2 * k in
      let at : ℕ = d + g * b in
      let w : g * suc b ≤ g * (2 ^ p - 1) = mul-le-mul_left g (omega arith) in
      let room : at + (1 + 2 * (0 + k)) ≤ length r = omega (arith, l, w, mul-suc g b) in
      beside_ext (byte_in t q (suc b)) (λ i. get_or r (at + i) 0) n k (λ i m. byte_is (suc b) i o m ∙ ap (λ j. get_or r j 0) (omega arith)) k 0 (omega arith)
      ∙ beside-group r at n k 0 room
      ∙ beside_open r at n k (omega arith)

module _ {p k : ℕ} {ws r : List ℕ} (X : ExpandRoom p k ws r) where
  closed_at : (n : ℕ) → n < length ws → (x : ℕ) → x < 2 ^ p → product p (get_or ws n 0) x < 2 ^ p
  closed_at n h = (has_inverse p (fields_at p X.low X.high) (get_or ws n 0) (X.weight-small n h) (X.weight-some n h)).closed

  pub factors : Factors p ws
  factors = record { low = X.low; high = X.high; few = X.few; elements = X.weight-small }

  pub shifted_at : (n : ℕ) → n < length ws → {row : List ℕ} → row ≡ tab (product p (get_or ws n 0)) (2 ^ p) → ShiftRoom row (get_or r n 0)
  shifted_at n h {row} e =
      let l : length row ≡ 2 ^ p = ap length e ∙ length-tab _ (2 ^ p) in
      record {
        p = p;
        size = l;
        below = λ x i. let j : x < 2 ^ p = omega arith in rw (e, get_d_tab (product p (get_or ws n 0)) (2 ^ p) x j) (closed_at n h x j);
        s_below = X.shift_small n h;
      }

  pub column_is : (n q : ℕ) (t : List ℕ) → n < length ws → q ≡ 2 ^ p → take ((1 + 2 * k) * q) t ≡ unpacked k (length ws) q r → {row out : List ℕ} → row ≡ tab (product p (get_or ws n 0)) (2 ^ p)
      → out ≡ tab (by_symbol (tab (value_in k t q n) q) row (get_or r n 0)) q → out ≡ column_bytes p k ws r n
  unfolding expand_at xor
  column_is n q t h s u {row} e o =
      o
      ∙ tab_ext _ (λ x. expand_at (rule_of p ◌+◌ k) ws r n (0 + x)) q (λ x l.
      let i : x < 2 ^ p = omega arith in
      let g : get_or row x 0 ≡ product p (get_or ws n 0) x = ap (λ y. get_or y x 0) e ∙ get_d_tab (product p (get_or ws n 0)) (2 ^ p) x i in
      let a : ℕ = bit_xor (product p (get_or ws n 0) x) (get_or r n 0) in
      let m : a < q = rw s (xor_lt p (product p (get_or ws n 0) x) (get_or r n 0) (closed_at n h x i) (X.shift_small n h)) in
      rw (g, zero-add x) (get_d_tab (value_in k t q n) q a m ∙ value_is k (length ws) q r t u p n a s X.long (omega (arith, X.few)) m))
      ∙ ap (tab _) s
      ∙ sym (map-tab (expand_at (rule_of p ◌+◌ k) ws r n) 0 (2 ^ p))

  pub expansion_is : blocks (column_bytes p k ws r) (length ws) ≡ expansion (rule_of p ◌+◌ k) ws r
  unfolding expansion
  expansion_is = sym (each-blocks (column_bytes p k ws r) 0 (length ws) ∙ blocks_ext _ _ (length ws) (λ n l. ap (column_bytes p k ws r) (zero-add n)))

-- the products of all columns, and what they are turned into
module _ {p k : ℕ} {ws r : List ℕ} (X : ExpandRoom p k ws r) (q : ℕ) (s : q ≡ 2 ^ p) (out : List ℕ) (o : out ≡ blocks (row_of p ws) (length ws)) where
  row_at : (n : ℕ) → n < length ws → part out (n * q) q ≡ row_of p ws n
  row_at n h = rw (o, s) (block_at (2 ^ p) (row_of p ws) (row-full p ws) (length ws) n h)

  pub turnable : TurnRoom (length ws) q r out
  turnable =
      record {
        few = X.few;
        most = rw s (size_64 p X.high);
        shifts = omega (arith, X.long);
        room = ap length o ∙ length-even (row_of p ws) (2 ^ p) (row-full p ws) (length ws) ∙ ap (λ y. length ws * y) (sym s);
        shifted = λ n h. shifted_at X n h (row_at n h);
      }

  pub turned_is : (t : List ℕ) → take ((1 + 2 * k) * q) t ≡ unpacked k (length ws) q r → blocks (turned k t q r out) (length ws) ≡ expansion (rule_of p ◌+◌ k) ws r
  turned_is t u = blocks_ext (turned k t q r out) (column_bytes p k ws r) (length ws) (λ n h. column_is X n q t h s u (row_at n h) refl) ∙ expansion_is X

pub expandable : (first : ℕ) (ws r : List ℕ) → WeightsAccepted first ws → record_ok (rule_for first) (length ws) r ≡ true → ExpandRoom (power_of first) (most_of first) ws r
expandable first ws r W o =
    let F = form-front (rule_for first) (length ws) r o in
    record {
      low = W.low;
      high = W.high;
      pairs = most-few first;
      few = W.few;
      weight-some = λ n h. (weight-at first ws W n h).0;
      weight-small = λ n h. (weight-at first ws W n h).1;
      long = F.0;
      shift_small = F.1;
    }
