-- Turns and ends of the loops that unpack a record into lists and read a column from them.
use mathlib.Core.Path.{◌≡◌, refl, ap, ◌∙◌, sym}
use mathlib.Core.List.{List, [], ◌∷◌}
use Prim.Native.Nat.{ℕ, zero, suc, ◌+◌, ◌-◌, ◌*◌, ◌≤◌, ◌<◌}
use native.Mathlib.Nat.{add-zero, zero-mul, suc-mul, mul-le-mul, mul-le-mul_right}
use native.Mathlib.Omega.{arith}
use lib.Bits.{bit_xor, xor_lt}
use borrow.Rule.Slice.PartMut.{put_mid}
use native.Mathlib.Numerals.{add-one}
use Rattle.std.proofs.lemmas.Simd.{take_more_put_chunk}
use Rattle.std.proofs.lemmas.Slice.{drop-put_mid}
use Rattle.field.proofs.Filling.{tab-add}
use lib.ListN.{length, get_or, take, drop, set, length-drop}
use lib.Seq.{get_or-take, get_or-drop, drop-drop, length-take-le}
use lib.Dec.{eqb}
use lib.Lanes.{sel_l, put_chunk}
use Rattle.std.specs.Prelude.{replicate}
use Rattle.std.specs.Simd.Lanes.{zip2}
use Rattle.std.proofs.lemmas.Grind.{same_number_lists}
use Rattle.std.proofs.lemmas.List.{take-take}
use Rattle.trellis.specs.Lists.{tab, part}
use Rattle.trellis.proofs.Loops.{tab-front, tab_ext, length-tab, get_d_tab}
use Rattle.field.proofs.Blocks.{part_room}
use Rattle.expansion.specs.inner.Transposed.{every_at, byte_in, beside_in, beside_from, ShiftRoom, TurnRoom}

-- one list
module _ (r : List ℕ) (at g f : ℕ) where
  pub every_start : (l : List ℕ) → 1 ≤ length l → take 1 (set l 0 f) ≡ tab (every_at r at g f) 1
  unfolding every_at
  every_start [] h = absurd (omega arith)
  every_start (x ∷ l) h = refl

  pub every-next : (a : ℕ) → 1 ≤ a → get_or r (at + g * (a - 1)) 0 ≡ every_at r at g f a
  unfolding every_at
  every-next zero h = absurd (omega arith)
  every-next (suc b) h = let e : suc b - 1 ≡ b = omega arith in rw e

-- a list's rows from place c on
from_place : (t : List ℕ) (c m a : ℕ) → a < m → get_or (part t c m) a 0 ≡ get_or t (c + a) 0
from_place t c m a l = get_or-take m (drop c t) a 0 l ∙ get_or-drop c t a 0

-- sixteen rows that have seen a pair
pub beside_lanes : (n m : ℕ) (c s v : List ℕ) → length c ≡ m → length s ≡ m → length v ≡ m → sel_l (zip2 eqb c (replicate m n)) s v ≡ tab (beside_in c s n v) m
beside_lanes n zero [] [] [] i j k = refl
beside_lanes n zero [] [] (z ∷ v) i j k = absurd (omega arith)
beside_lanes n zero [] (y ∷ s) v i j k = absurd (omega arith)
beside_lanes n zero (x ∷ c) s v i j k = absurd (omega arith)
beside_lanes n (suc m) [] s v i j k = absurd (omega arith)
beside_lanes n (suc m) (x ∷ c) [] v i j k = absurd (omega arith)
beside_lanes n (suc m) (x ∷ c) (y ∷ s) [] i j k = absurd (omega arith)
beside_lanes n (suc m) (x ∷ c) (y ∷ s) (z ∷ v) i j k =
    sym (tab-front (beside_in (x ∷ c) (y ∷ s) n (z ∷ v)) m ∙ rw (beside_lanes n m c s v (omega arith) (omega arith) (omega arith)) refl)

-- the rows from row at on
module _ (t : List ℕ) (q k n at m : ℕ) where
  -- what the pairs from pair j on say
  abbrev pub said_from : ℕ → ℕ → ℕ
  said_from j a = beside_from (byte_in t q (at + a)) n j (k - j)

  pub rows_start : at + m ≤ length t → part t at m ≡ tab (said_from k) m
  unfolding beside_from
  rows_start h =
      same_number_lists (part t at m) (tab (said_from k) m) (length-part ∙ sym (length-tab _ m))
      (λ a l.
      let i : a < m = omega (arith, length-part) in
      let z : k - k ≡ 0 = omega arith in
      let o : 0 * q + (at + a) ≡ at + a = omega (arith, zero-mul q) in
      get_or-take m (drop at t) a 0 i ∙ get_or-drop at t a 0 ∙ sym (get_d_tab (said_from k) m a i ∙ rw (z, o) refl))
    where
      length-part : length (part t at m) ≡ m
      length-part = length-take-le m (drop at t) (rw (length-drop at t) (omega arith))

  pub rows_turn : (j : ℕ) (v : List ℕ) {c s : ℕ} {o : List ℕ} → 1 ≤ j → j ≤ k → v ≡ tab (said_from j) m → c ≡ (1 + 2 * (j - 1)) * q + at → s ≡ c + q → s + m ≤ length t
      → o ≡ tab (beside_in (part t c m) (part t s m) n v) m → o ≡ tab (said_from (j - 1)) m
  unfolding beside_from
  rows_turn zero v h l e u w b x = absurd (omega arith)
  rows_turn (suc j) v {c} {s} h l e u w b x =
      x
      ∙ tab_ext _ _ m (λ a i.
      let z : suc j - 1 ≡ j = omega arith in
      let y : k - j ≡ suc (k - suc j) = omega arith in
      let cu : c ≡ (1 + 2 * j) * q + at = rw z at u in
      let two : 2 + 2 * j ≡ suc (1 + 2 * j) = omega arith in
      let p : (1 + 2 * j) * q + (at + a) ≡ c + a = omega (arith, cu) in
      let r : (2 + 2 * j) * q + (at + a) ≡ s + a = rw two (omega (arith, cu, w, suc-mul (1 + 2 * j) q)) in
      let g : get_or v a 0 ≡ said_from (suc j) a = rw e (get_d_tab (said_from (suc j)) m a i) in
      rw (z, y, p, r, g, from_place t c m a i, from_place t s m a i))

-- pair j's places
pub pair_room : (j k q at m : ℕ) (t : List ℕ) → j < k → 2 * k * q + (at + m) ≤ length t → (1 + 2 * j) * q + at + q + m ≤ length t
pair_room j k q at m t h l =
    let e : suc (1 + 2 * j) * q ≤ 2 * k * q = mul-le-mul_right q (omega arith) in
    omega (arith, e, suc-mul (1 + 2 * j) q)

-- of a filled list the first q
pub take-tab : (f : ℕ → ℕ) (q a : ℕ) → q ≤ a → take q (tab f a) ≡ tab f q
take-tab f q a h =
    same_number_lists (take q (tab f a)) (tab f q) (length-take-le q (tab f a) (omega (arith, length-tab f a)) ∙ sym (length-tab f q))
    (λ i k.
    let l : i < q = omega (arith, length-take-le q (tab f a) (omega (arith, length-tab f a))) in
    get_or-take q (tab f a) i 0 l ∙ get_d_tab f a i (omega arith) ∙ sym (get_d_tab f q i l))

pub values_end : (f : ℕ → ℕ) (q a : ℕ) (v : List ℕ) → q ≤ a → take a v ≡ tab f a → take q v ≡ tab f q
values_end f q a v h e = sym (take-take q a v h) ∙ ap (take q) e ∙ take-tab f q a h

-- a turn of a loop that fills v by vectors of m rows
pub values_next : (f : ℕ → ℕ) (b m : ℕ) (v new : List ℕ) → (b + 1) * m ≤ length v → new ≡ tab (λ a. f (b * m + a)) m → take (b * m) v ≡ tab f (b * m)
    → take ((b + 1) * m) (put_chunk (b * m) v new) ≡ tab f ((b + 1) * m)
values_next f b m v new h w t =
    let l : (b + 1) * m ≡ b * m + m = rw (add-one b) (suc-mul b m) in
    let e : length new ≡ m = ap length w ∙ length-tab (λ a. f (b * m + a)) m in
    take_more_put_chunk (b * m) v new ((b + 1) * m) (l ∙ ap (λ n. b * m + n) (sym e)) h ∙ rw (t, w, l) (tab-add f (b * m) m)

-- what has not been written stands as it did
pub kept_at : (l row : List ℕ) (i : ℕ) → drop i l ≡ drop i row → get_or l i 0 ≡ get_or row i 0
kept_at l row i e =
    let o : (l : List ℕ) → get_or (drop i l) 0 0 ≡ get_or l i 0 = λ l. get_or-drop i l 0 0 ∙ ap (λ n. get_or l n 0) (add-zero i) in
    sym (o l) ∙ ap (λ l. get_or l 0 0) e ∙ o row

pub kept_more : (l row : List ℕ) (i m : ℕ) → drop i l ≡ drop i row → drop (i + m) l ≡ drop (i + m) row
kept_more l row i m e = sym (drop-drop m i l) ∙ ap (drop m) e ∙ drop-drop m i row

pub kept_beyond : (row : List ℕ) (n q k : ℕ) (l new : List ℕ) → n * q ≤ length l → length new ≡ q → k ≡ q → drop (n * q) l ≡ drop (n * q) row
    → drop ((n + 1) * q) (put_mid (n * q) k l new) ≡ drop ((n + 1) * q) row
kept_beyond row n q k l new h e u d =
    let o : (n + 1) * q ≡ n * q + q = rw (add-one n) (suc-mul n q) in
    drop-put_mid (n * q) k l new ((n + 1) * q) (omega (arith, o, u)) h (e ∙ sym u) ∙ rw o (kept_more l row (n * q) q d)

-- one column by symbols, in place
pub symbol-room : (v : List ℕ) (s x : ℕ) {row : List ℕ} → ShiftRoom row s → length v ≡ length row → x < length row → bit_xor (get_or row x 0) s < length v
symbol-room v s x {row} S l h = omega (arith, l, S.size, xor_lt S.p (get_or row x 0) s (S.below x h) S.s_below)

-- column n's place
pub columns-room : {d q : ℕ} {r out : List ℕ} → TurnRoom d q r out → (n : ℕ) → n < d → (n * q + q ≤ 2048) × (n * q + q ≤ length out)
columns-room {d} {q} R n h =
    let a : n * q + q ≤ d * q = part_room n d q h in
    (omega (arith, a, mul-le-mul R.few R.most), omega (arith, a, R.room))
