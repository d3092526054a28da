-- The loops over a check's columns: each least is that of the specification, each loop fills its list from the front (trellis, proofs/Loops.antt), and the
-- columns' parts of the buffers do not meet.
use mathlib.Core.Path.{◌≡◌, sym, ap, ◌∙◌}
use mathlib.Core.List.{List, ◌++◌, map, append_assoc}
use Prim.Native.Nat.{ℕ, zero, suc, ◌+◌, ◌-◌, ◌*◌, ◌≤◌, ◌<◌, min}
use native.Mathlib.Nat.{mul-le-mul, le_of_suc-le-suc, mul-zero, suc-mul, add-sub_cancel_left}
use native.Mathlib.Numerals.{add-one}
use native.Mathlib.Omega.{arith}
use lib.ListN.{length, take, drop, get_or, length-append, length-drop, get_or-map}
use lib.Seq.{take_at, drop_at, drop-drop, length-take-le}
use Rattle.std.proofs.lemmas.List.{take_all}
use Rattle.trellis.specs.Lists.{up_to, upto, tab, part, patch, blocks}
use Rattle.trellis.proofs.Places.{map_ext}
use Rattle.machine.specs.Machine.{scaled, incoming, outgoing}
use Rattle.machine.proofs.Lists.{map-after}
use Rattle.machine.proofs.Leasts.{least_le, smallest_loop, up_to_tab}
use Rattle.machine.proofs.Places.{length_part}
use Rattle.machine.proofs.Updates.{length-incoming}
use Rattle.machine.proofs.Ranges.{length-outgoing, length-patch, column-room}
use Rattle.machine.specs.inner.InRange.{Below}
use Rattle.layered.specs.inner.Columns.{raised, least_raised, one_column, gathered, GatherRoom, summed, least_summed, scattered, ScatterRoom}

pub mul_small : (g w : ℕ) → g ≤ 16 → w < 256 → g * w ≤ 4080
mul_small g w h k = mul-le-mul h (le_of_suc-le-suc k)

-- a scaled list's elements; past its end 0 is scaled to 0
pub scaled_at : (g : ℕ) (l : List ℕ) (x : ℕ) → get_or (map (scaled g) l) x 0 ≡ scaled g (get_or l x 0)
scaled_at g l x = let z : scaled g 0 ≡ 0 = rw (mul-zero g) in ap (get_or (map (scaled g) l) x) (sym z) ∙ get_or-map (scaled g) l x 0

-- a list that is filled from the front, whole
pub filled : (f : ℕ → ℕ) (out : List ℕ) (i n : ℕ) → take i out ≡ tab f i → length out ≡ n → i ≡ n → out ≡ tab f n
filled f out i n t l e = sym (take_all i out (omega arith)) ∙ t ∙ ap (tab f) e

-- Q as the loop makes it
pub incoming-tab : (g n : ℕ) (P old : List ℕ) → 0 < n → g ≤ 16 → Below 510 P
    → incoming n P (map (scaled g) old) ≡ tab (λ x. min 255 (raised g P old x - least_raised g P old n)) n
unfolding incoming least_raised
incoming-tab g n P old some small b =
    let e : map (λ x. get_or P x 0 + 255 - get_or (map (scaled g) old) x 0) (up_to n) ≡ map (raised g P old) (up_to n) = map_ext {l = up_to n} (λ x i. ap (λ v. get_or P x 0 + 255 - v) (scaled_at g old x)) in
    rw (e, smallest_loop (raised g P old) n some (λ k. omega (arith, b k)), map-after (λ v. v - upto (λ k a. min a (raised g P old k)) n 1000) (raised g P old) (up_to n), map-after (λ v. min 255 v) (λ x. raised g P old x - upto (λ k a. min a (raised g P old k)) n 1000) (up_to n))
    (up_to_tab _ n)

pub least-raised_le : (g n : ℕ) (P old : List ℕ) (i : ℕ) → i < n → least_raised g P old n ≤ raised g P old i
unfolding least_raised
least-raised_le g n P old i h = least_le (raised g P old) n i h

pub incoming_done : (g : ℕ) (P old out : List ℕ) (least : ℕ) → 0 < length P → g ≤ 16 → Below 510 P → least ≡ least_raised g P old (length P)
    → out ≡ tab (λ x. min 255 (raised g P old x - least)) (length P) → out ≡ incoming (length P) P (map (scaled g) old)
incoming_done g P old out least some h b m o = o ∙ rw m (sym (incoming-tab g (length P) P old some h b))

-- the loop over a check's columns
pub room_at : (P cols old : List ℕ) (g q : ℕ) (out : List ℕ) → GatherRoom P cols old g q out → (k : ℕ) → k < length cols → (w : ℕ) → w ≡ get_or cols k 0
    → (w * q + q ≤ length P) × ((k * q + q ≤ length old) × (k * q + q ≤ length out))
room_at P cols old g q out R k h w e = (rw e (R.columns k h), (omega (arith, column-room k (length cols) q h, R.for_old), omega (arith, column-room k (length cols) q h, R.for_out)))

-- a front that comes back as long as it was lent
pub front_kept : (l s : List ℕ) (n : ℕ) → n ≤ length l → length s ≡ length (take n l) → length (s ++ drop n l) ≡ length l
front_kept l s n h e = length-append s (drop n l) ∙ omega (arith, length-take-le n l h, length-drop n l)

pub front-room : (l s : List ℕ) (n : ℕ) → n ≤ length l → length s ≡ length (take n l) → n ≤ length (s ++ drop n l)
front-room l s n h e = omega (arith, front_kept l s n h e)

length-one : (P cols old : List ℕ) (g q k : ℕ) → 0 < q → length (one_column P cols old g q k) ≡ q
length-one P cols old g q k some = length-incoming q some _ _

length_ones : (P cols old : List ℕ) (g q n : ℕ) → 0 < q → length (blocks (one_column P cols old g q) n) ≡ n * q
length_ones P cols old g q zero some = omega arith
length_ones P cols old g q (suc n) some = rw (length-append (blocks (one_column P cols old g q) n), length_ones P cols old g q n some, length-one P cols old g q n some) (omega (arith, suc-mul n q))

pub gather_start : (P cols old : List ℕ) (g q : ℕ) (d : List ℕ) → d ≡ gathered P cols old g q 0 d
unfolding gathered
gather_start P cols old g q d = let e : 0 * q ≡ 0 = omega arith in rw e

-- a turn: column k of the rest
pub gather_more : (P cols old : List ℕ) (g q : ℕ) (d : List ℕ) (k : ℕ) → 0 < q
    → patch (gathered P cols old g q k d) (k * q) q (one_column P cols old g q k) ≡ gathered P cols old g q (k + 1) d
unfolding gathered
gather_more P cols old g q d k some =
    let x : length (blocks (one_column P cols old g q) k) ≡ k * q = length_ones P cols old g q k some in
    let e : suc k * q ≡ k * q + q = suc-mul k q in
    rw (add-one k, take_at (blocks (one_column P cols old g q) k) (drop (k * q) d) (k * q) x, drop_at (blocks (one_column P cols old g q) k) (drop (k * q) d) (k * q) x, drop-drop q (k * q) d, e)
    (sym (append_assoc (blocks (one_column P cols old g q) k) (one_column P cols old g q k) (drop (k * q + q) d)))

pub gather_turn : (P cols old : List ℕ) (g q : ℕ) (d : List ℕ) → GatherRoom P cols old g q d → (k : ℕ) → k < length cols → (w : ℕ) → w ≡ get_or cols k 0 → (out x : List ℕ)
    → out ≡ gathered P cols old g q k d
    → x ≡ incoming (length (part P (w * q) (w * q + q - w * q))) (part P (w * q) (w * q + q - w * q)) (map (scaled g) (part old (k * q) (k * q + q - k * q)))
    → patch out (k * q) (k * q + q - k * q) x ≡ gathered P cols old g q (k + 1) d
gather_turn P cols old g q d R k h w e out x o i =
    let a : w * q + q - w * q ≡ q = add-sub_cancel_left (w * q) q in
    let b : k * q + q - k * q ≡ q = add-sub_cancel_left (k * q) q in
    let l : length (part P (w * q) q) ≡ q = rw e (length_part P (get_or cols k 0 * q) q (R.columns k h)) in
    let y : x ≡ one_column P cols old g q k = i ∙ rw (a, b, l, e) in
    rw (b, o, y) (gather_more P cols old g q d k R.some)

pub length-gathered : (P cols old : List ℕ) (g q : ℕ) (d : List ℕ) (k : ℕ) → 0 < q → k * q ≤ length d → length (gathered P cols old g q k d) ≡ length d
unfolding gathered
length-gathered P cols old g q d k some h = rw (length-append (blocks (one_column P cols old g q) k), length_ones P cols old g q k some, length-drop) (omega arith)

-- the new P as the loop makes it
pub outgoing-tab : (g n : ℕ) (Q new : List ℕ) → 0 < n → ((x : ℕ) → summed g Q new x ≤ 1000)
    → outgoing n Q (map (scaled g) new) ≡ tab (λ x. summed g Q new x - least_summed g Q new n) n
unfolding outgoing least_summed
outgoing-tab g n Q new some b =
    let e : map (λ x. get_or Q x 0 + get_or (map (scaled g) new) x 0) (up_to n) ≡ map (summed g Q new) (up_to n) = map_ext {l = up_to n} (λ x i. ap (λ v. get_or Q x 0 + v) (scaled_at g new x)) in
    rw (e, smallest_loop (summed g Q new) n some b, map-after (λ v. v - upto (λ k a. min a (summed g Q new k)) n 1000) (summed g Q new) (up_to n))
    (up_to_tab _ n)

pub least-summed_le : (g n : ℕ) (Q new : List ℕ) (i : ℕ) → i < n → least_summed g Q new n ≤ summed g Q new i
unfolding least_summed
least-summed_le g n Q new i h = least_le (summed g Q new) n i h

pub outgoing_done : (g : ℕ) (Q new out : List ℕ) (least : ℕ) → 0 < length Q → ((x : ℕ) → summed g Q new x ≤ 1000) → least ≡ least_summed g Q new (length Q)
    → out ≡ tab (λ x. summed g Q new x - least) (length Q) → out ≡ outgoing (length Q) Q (map (scaled g) new)
outgoing_done g Q new out least some b m o = o ∙ rw m (sym (outgoing-tab g (length Q) Q new some b))

pub scatter_turn : (Q new cols : List ℕ) (g q : ℕ) (P : List ℕ) → ScatterRoom Q new cols g q P → (k : ℕ) → k < length cols → (w : ℕ) → w ≡ get_or cols k 0 → (now x : List ℕ)
    → now ≡ scattered Q new cols g q k P
    → x ≡ outgoing (length (part Q (k * q) (k * q + q - k * q))) (part Q (k * q) (k * q + q - k * q)) (map (scaled g) (part new (k * q) (k * q + q - k * q)))
    → patch now (w * q) (w * q + q - w * q) x ≡ scattered Q new cols g q (k + 1) P
unfolding scattered
scatter_turn Q new cols g q P R k h w e now x o i =
    let a : w * q + q - w * q ≡ q = add-sub_cancel_left (w * q) q in
    let b : k * q + q - k * q ≡ q = add-sub_cancel_left (k * q) q in
    let l : length (part Q (k * q) q) ≡ q = length_part Q (k * q) q (omega (arith, column-room k (length cols) q h, R.for_q)) in
    let y : x ≡ outgoing q (part Q (k * q) q) (map (scaled g) (part new (k * q) q)) = i ∙ rw (b, l) in
    rw (a, add-one k, o, y, e)

pub length_turn : (Q new cols : List ℕ) (g q : ℕ) (P : List ℕ) → ScatterRoom Q new cols g q P → (k : ℕ) → k < length cols → (w : ℕ) → w ≡ get_or cols k 0 → (now x : List ℕ)
    → length now ≡ length P → x ≡ outgoing (length (part Q (k * q) (k * q + q - k * q))) (part Q (k * q) (k * q + q - k * q)) (map (scaled g) (part new (k * q) (k * q + q - k * q)))
    → length (patch now (w * q) (w * q + q - w * q) x) ≡ length P
length_turn Q new cols g q P R k h w e now x n i =
    let a : w * q + q - w * q ≡ q = add-sub_cancel_left (w * q) q in
    let b : k * q + q - k * q ≡ q = add-sub_cancel_left (k * q) q in
    let l : length (part Q (k * q) q) ≡ q = length_part Q (k * q) q (omega (arith, column-room k (length cols) q h, R.for_q)) in
    let y : length x ≡ q = ap length i ∙ rw (b, l) (length-outgoing q R.some _ _) in
    let r : w * q + q ≤ length now = rw (e, n) (R.columns k h) in
    rw a (length-patch now x (w * q) q r y ∙ n)
