-- Turns and ends of the loops that fill rows: a weight's products.
use mathlib.Core.Path.{◌≡◌, refl, sym, ap, ◌∙◌}
use mathlib.Core.Bool.{cond}
use mathlib.Core.List.{List, [], ◌∷◌, ◌++◌, append-nil, append_assoc}
use Prim.Native.Nat.{ℕ, zero, suc, ◌+◌, ◌-◌, ◌*◌, ◌/◌, ◌%◌, ◌^◌, ◌≤◌, ◌<◌}
use native.Mathlib.Nat.{add-zero, add-suc, add-sub_cancel_left, mul-le-mul}
use native.Mathlib.Numerals.{unary_clauses}
use native.Mathlib.Omega.{arith}
use lib.Bits.{bit_xor}
use lib.Dec.{eqb}
use lib.ListN.{length, take, drop, set}
use lib.Seq.{drop-length, take_at, drop_at, drop-drop}
use Rattle.trellis.specs.Lists.{tab}
use Rattle.trellis.specs.Field.{xor, doubled, product}
use Rattle.engine.specs.inner.Terms.{bits_of}
use Rattle.field.specs.Answers.{row_of}
use Rattle.field.specs.inner.Asks.{Factors}
use Rattle.trellis.proofs.Xor.{xor_assoc, xor_comm, xor-zero, xor_right}
use Rattle.trellis.proofs.Recurrence.{product-zero, product-step, size_64}
use Rattle.trellis.proofs.Loops.{length-tab}
use Rattle.field.proofs.Blocks.{part_room}

-- a column has a multiple of four symbols
pub four_divides : (p : ℕ) → 2 ≤ p → 2 ^ p % 4 ≡ 0
four_divides zero h = absurd (omega arith)
four_divides (suc zero) h = absurd (omega arith)
four_divides (suc (suc p)) h = simp unary_clauses (omega arith)

pub products_end : (f : ℕ → ℕ) (n m : ℕ) (l row : List ℕ) → n ≡ m → length l ≡ m → row ≡ tab f n ++ drop n l → row ≡ tab f m
products_end f n m l row e h o = rw (o, e, ← h, drop-length) (append-nil (tab f (length l)))

-- the code divides by powers of two where the definition halves
pub bits_six : (a b c d e f x : ℕ) {A B C D E F : ℕ} → A ≡ cond (eqb (x % 2) 1) a 0 → B ≡ cond (eqb (x / 2 % 2) 1) b 0 → C ≡ cond (eqb (x / 4 % 2) 1) c 0
    → D ≡ cond (eqb (x / 8 % 2) 1) d 0 → E ≡ cond (eqb (x / 16 % 2) 1) e 0 → F ≡ cond (eqb (x / 32 % 2) 1) f 0
    → bit_xor A (bit_xor B (bit_xor C (bit_xor D (bit_xor E F)))) ≡ bits_of (a ∷ b ∷ c ∷ d ∷ e ∷ f ∷ []) x
unfolding xor
bits_six a b c d e f x p q r s t u =
    let c4 : x / 2 / 2 ≡ x / 4 = omega arith in
    let c8 : x / 4 / 2 ≡ x / 8 = omega arith in
    let c16 : x / 8 / 2 ≡ x / 16 = omega arith in
    let c32 : x / 16 / 2 ≡ x / 32 = omega arith in
    rw (p, q, r, s, t, u, c4, c8, c16, c32, xor_right (cond (eqb (x / 32 % 2) 1) f 0))

-- four stores fill a row of four
pub set_four : (l : List ℕ) (a b c d : ℕ) → length l ≡ 4 → set (set (set (set l 0 a) 1 b) 2 c) 3 d ≡ a ∷ b ∷ c ∷ d ∷ []
set_four [] a b c d h = absurd (omega arith)
set_four (x ∷ []) a b c d h = absurd (omega arith)
set_four (x ∷ y ∷ []) a b c d h = absurd (omega arith)
set_four (x ∷ y ∷ z ∷ []) a b c d h = absurd (omega arith)
set_four (x ∷ y ∷ z ∷ w ∷ []) a b c d h = refl
set_four (x ∷ y ∷ z ∷ w ∷ v ∷ l) a b c d h = absurd (omega arith)

module _ (p h : ℕ) {b c : ℕ} (eb : b ≡ doubled p h) (ec : c ≡ doubled p b) where
  -- a product by the two lowest bits of its symbol, and the others
  product-two : (y : ℕ) → y < 2 ^ p
      → product p h y ≡ xor (cond (eqb (y % 2) 1) h 0) (xor (cond (eqb (y / 2 % 2) 1) b 0) (product p c (y / 4)))
  product-two y k =
      let f : y / 2 / 2 ≡ y / 4 = omega arith in
      rw (product-step p h y k, ← eb, product-step p b (y / 2) (omega arith), ← ec, f)

  -- the first of each four products of a row of at most eight
  base-is : (x : ℕ) {base : ℕ} → x % 4 ≡ 0 → x < 8 → x < 2 ^ p → base ≡ cond (eqb x 0) 0 c → base ≡ product p h x
  base-is zero m l k e = e ∙ sym (product-zero p p h)
  base-is (suc y) m l k e =
      let f : suc y ≡ 4 = omega arith in
      let o : 1 < 2 ^ p = omega arith in
      let u : product p c 1 ≡ c = rw (product-step p c 1 o, product-zero p p (doubled p c)) (xor_right c) in
      e ∙ sym (product-two (suc y) k ∙ rw (f, u, xor-zero c) (xor-zero c))

  -- four products from the first of them
  module _ (x : ℕ) (m : x % 4 ≡ 0) (k : x + 4 ≤ 2 ^ p) where
    product-by : (r s : ℕ) → r < 2 → s < 2
        → product p h (x + (2 * s + r)) ≡ xor (cond (eqb r 1) h 0) (xor (cond (eqb s 1) b 0) (product p c (x / 4)))
    product-by r s u v =
        let y : ℕ = x + (2 * s + r) in
        let f : y % 2 ≡ r = omega arith in
        let j : y / 2 ≡ 2 * (x / 4) + s = omega arith in
        let g : y / 2 % 2 ≡ s = rw j (omega arith) in
        let o : y / 4 ≡ x / 4 = omega arith in
        rw (product-two y (omega arith), f, g, o)

    four_products : {base : ℕ} → base ≡ product p h x
        → base ∷ xor base h ∷ xor base b ∷ xor base (xor h b) ∷ [] ≡ tab (λ i. product p h (x + i)) 4
    four_products {base} e =
        let n : ℕ = product p c (x / 4) in
        let low : 0 < 2 = omega arith in
        let high : 1 < 2 = omega arith in
        let p0 : product p h (x + 0) ≡ n = product-by 0 0 low low ∙ xor-zero (xor 0 n) ∙ xor-zero n in
        let p1 : product p h (x + 1) ≡ xor n h = product-by 1 0 high low ∙ ap (xor h) (xor-zero n) ∙ xor_comm h n in
        let p2 : product p h (x + 2) ≡ xor n b = product-by 0 1 low high ∙ xor-zero (xor b n) ∙ xor_comm b n in
        let p3 : product p h (x + 3) ≡ xor n (xor h b) = product-by 1 1 high high ∙ sym (xor_assoc h b n) ∙ xor_comm (xor h b) n in
        let first : base ≡ n = e ∙ ap (product p h) (sym (add-zero x)) ∙ p0 in
        rw (first, p0, p1, p2, p3)

-- more values after the first a
pub tab-add : (f : ℕ → ℕ) (a m : ℕ) → tab f a ++ tab (λ i. f (a + i)) m ≡ tab f (a + m)
tab-add f a zero = append-nil (tab f a) ∙ ap (tab f) (sym (add-zero a))
tab-add f a (suc m) = sym (append_assoc (tab f a) (tab (λ i. f (a + i)) m) (f (a + m) ∷ [])) ∙ ap (λ l. l ++ (f (a + m) ∷ [])) (tab-add f a m) ∙ rw (add-suc a m)

pub values_turn : (f : ℕ → ℕ) (l v : List ℕ) (a m e : ℕ) {x : List ℕ} → e ≡ a + m → v ≡ tab f a ++ drop a l → x ≡ tab (λ i. f (a + i)) m
    → take a v ++ (x ++ drop (e - a) (drop a v)) ≡ tab f e ++ drop e l
values_turn f l v a m e u o y =
    let s : a + m - a ≡ m = add-sub_cancel_left a m in
    let t : take a (tab f a ++ drop a l) ≡ tab f a = take_at (tab f a) (drop a l) a (length-tab f a) in
    let d : drop a (tab f a ++ drop a l) ≡ drop a l = drop_at (tab f a) (drop a l) a (length-tab f a) in
    let k : drop m (drop a l) ≡ drop (a + m) l = drop-drop m a l in
    rw (u, o, y, s, t, d, k) (sym (append_assoc (tab f a) (tab (λ i. f (a + i)) m) _) ∙ ap (λ x. x ++ drop (a + m) l) (tab-add f a m))

-- four products more
pub fours_turn : (p h x : ℕ) (l row : List ℕ) {b c base : ℕ} {r : List ℕ} → b ≡ doubled p h → c ≡ doubled p b → x % 4 ≡ 0 → x < 8
    → x + 4 ≤ 2 ^ p → row ≡ tab (product p h) x ++ drop x l → base ≡ cond (eqb x 0) 0 c
    → r ≡ base ∷ xor base h ∷ xor base b ∷ xor base (xor h b) ∷ []
    → take x row ++ (r ++ drop (x + 4 - x) (drop x row)) ≡ tab (product p h) (x + 4) ++ drop (x + 4) l
fours_turn p h x l row eb ec m i k e o s =
    let first = base-is p h eb ec x m i (omega arith) o in
    values_turn (product p h) l row x 4 (x + 4) refl e (s ∙ four_products p h eb ec x m k first)

-- a row of four, and one of eight: its second four begins with c, the product of 4
module _ (p h : ℕ) {b : ℕ} (eb : b ≡ doubled p h) (row : List ℕ) {r : List ℕ} (o : r ≡ 0 ∷ xor 0 h ∷ xor 0 b ∷ xor 0 (xor h b) ∷ []) where
  front : 4 ≤ 2 ^ p → r ≡ tab (product p h) 4
  front k = let ec : doubled p b ≡ doubled p b = refl in o ∙ four_products p h eb ec 0 refl k (sym (product-zero p p h))

  pub row_four : 2 ^ p ≡ 4 → length row ≡ 4 → r ++ drop 4 row ≡ tab (product p h) (2 ^ p)
  row_four e l = products_end (product p h) 4 (2 ^ p) row (r ++ drop 4 row) (sym e) (l ∙ sym e) (rw (front (omega arith)))

  pub row_eight : 2 ^ p ≡ 8 → length row ≡ 8 → {c k : ℕ} → c ≡ doubled p b → {s : List ℕ} → s ≡ c ∷ xor c h ∷ xor c b ∷ xor c (xor h b) ∷ [] → k ≡ 4
      → take 4 (r ++ drop 4 row) ++ (s ++ drop k (drop 4 (r ++ drop 4 row))) ≡ tab (product p h) (2 ^ p)
  row_eight e l {c} {k} ec {s} u z =
      let one : 1 < 2 ^ p = omega arith in
      let four : 4 < 2 ^ p = omega arith in
      let first : c ≡ product p h 4 =
      sym (product-two p h eb ec 4 four ∙ rw (product-step p c 1 one, product-zero p p (doubled p c), xor_right c, xor-zero c) (xor-zero c)) in
      rw z (products_end (product p h) 8 (2 ^ p) row _ (sym e) (l ∙ sym e)
      (values_turn (product p h) row (r ++ drop 4 row) 4 4 8 refl (rw (front (omega arith))) (u ∙ four_products p h eb ec 4 refl (omega arith) first)))

-- the row of one weight
pub row-full : (p : ℕ) (ws : List ℕ) (n : ℕ) → length (row_of p ws n) ≡ 2 ^ p
row-full p ws n = length-tab _ (2 ^ p)

-- row n's place
pub rows_room : {p : ℕ} {ws : List ℕ} → Factors p ws → (w : ℕ) → w ≡ 2 ^ p → (n : ℕ) → n < length ws → (n * w + w ≤ 2048) × (n * w + w ≤ length ws * 2 ^ p)
rows_room {p} {ws} F w e n h =
    let a : n * w + w ≤ length ws * 2 ^ p = rw e (part_room n (length ws) (2 ^ p) h) in
    (omega (arith, a, mul-le-mul F.few (size_64 p F.high)), a)
