-- Blocks of sixteen rows: lists filled block by block.
use mathlib.Core.Path.{◌≡◌, refl, sym, ap, ap₂, ◌∙◌}
use mathlib.Core.List.{List, [], ◌∷◌, ◌++◌, append_assoc, append-nil}
use Prim.Native.Nat.{ℕ, zero, suc, ◌+◌, ◌-◌, ◌*◌, ◌≤◌, ◌<◌, max}
use native.Mathlib.Nat.{add-zero}
use native.Mathlib.Omega.{arith}
use lib.Lanes.{chunk, put_chunk}
use lib.ListN.{length, drop, take, get_or}
use lib.Seq.{ext_get_or, get_or-take, get_or-drop, take_at, drop_at, drop-drop}
use Rattle.std.proofs.lemmas.Simd.{put_chunk_is, length-chunk, get_or-chunk}
use Rattle.trellis.specs.Lists.{tab}
use Rattle.trellis.proofs.Loops.{tab-length, length-tab, tab_ext, tab_whole, get_d_tab}
use Rattle.vjoin.proofs.Sixteen.{lanes-length, lanes_ext, list_lanes}
use Rattle.tables.specs.inner.Lanes.{lanes}

tab-append : (f : ℕ → ℕ) (n m : ℕ) → tab f (n + m) ≡ tab f n ++ tab (λ i. f (n + i)) m
tab-append f n zero = rw (add-zero n) (sym (append-nil (tab f n)))
tab-append f n (suc m) =
    let e : n + suc m ≡ suc (n + m) = omega arith in
    rw e (ap {B = List ℕ} (λ l. l ++ (f (n + m) ∷ [])) (tab-append f n m) ∙ append_assoc (tab f n) (tab (λ i. f (n + i)) m) (f (n + m) ∷ []))

-- one block more
block_of : (f h : ℕ → ℕ) (w : ℕ) (d out : List ℕ) (v : ℕ) {r : List ℕ} → out ≡ tab f v ++ drop v d → r ≡ tab h w → ((i : ℕ) → i < w → h i ≡ f (v + i))
    → take v out ++ (r ++ drop (v + w - v) (drop v out)) ≡ tab f (v + w) ++ drop (v + w) d
block_of f h w d out v e o s =
    let a : v + w - v ≡ w = omega arith in
    let t : take v (tab f v ++ drop v d) ≡ tab f v = take_at (tab f v) (drop v d) v (length-tab f v) in
    let u : drop v (tab f v ++ drop v d) ≡ drop v d = drop_at (tab f v) (drop v d) v (length-tab f v) in
    let k : drop w (drop v d) ≡ drop (v + w) d = drop-drop w v d in
    let m : tab h w ≡ tab (λ i. f (v + i)) w = tab_ext h (λ i. f (v + i)) w s in
    rw (e, o, a, t, u, k, m, tab-append f v w) (sym (append_assoc (tab f v) (tab (λ i. f (v + i)) w) (drop (v + w) d)))

block_turn : (f h : ℕ → ℕ) (d out : List ℕ) (v : ℕ) {r : List ℕ} → out ≡ tab f v ++ drop v d → r ≡ lanes h → ((i : ℕ) → i < 16 → h i ≡ f (v + i))
    → take v out ++ (r ++ drop (v + 16 - v) (drop v out)) ≡ tab f (v + 16) ++ drop (v + 16) d
unfolding lanes
block_turn f h d out v e o s = block_of f h 16 d out v e o s

-- a place that such a loop has not reached
block_seam : (f : ℕ → ℕ) (d out : List ℕ) (v i : ℕ) → out ≡ tab f v ++ drop v d → i < 16 → get_or (chunk v 16 out) i 0 ≡ get_or d (v + i) 0
block_seam f d out v i e h =
    let u : drop v (tab f v ++ drop v d) ≡ drop v d = drop_at (tab f v) (drop v d) v (length-tab f v) in
    rw (e, u) (get_or-take 16 (drop v d) i 0 h ∙ get_or-drop v d i 0)

-- a turn of such a loop
chunk_turn : (f h : ℕ → ℕ) (d out : List ℕ) (b : ℕ) {r : List ℕ} → 16 * b + 16 ≤ length d → out ≡ tab f (16 * b) ++ drop (16 * b) d → r ≡ lanes h → ((i : ℕ) → i < 16 → h i ≡ f (16 * b + i))
    → put_chunk (16 * b) out r ≡ tab f (16 * (b + 1)) ++ drop (16 * (b + 1)) d
chunk_turn f h d out b {r} room e o s =
    let v : ℕ = 16 * b in
    let n : length out ≡ length d = ap length e ∙ tab-length f d v (omega arith) in
    let k : length r ≡ 16 = ap length o ∙ lanes-length h in
    let z : v + 16 - v ≡ 16 = omega arith in
    let y : 16 * (b + 1) ≡ v + 16 = omega arith in
    put_chunk_is v out r (omega (arith, n, k)) ∙ ap (λ m. take v out ++ (r ++ drop m (drop v out))) (k ∙ sym z) ∙ block_turn f h d out v e o s
    ∙ ap (λ m. tab f m ++ drop m d) (sym y)

module _ (w d out : List ℕ) (b : ℕ) (room : 16 * b + 16 ≤ length d) (same : length w ≡ length d) where
  pub copy_turn : out ≡ tab (λ k. get_or w k 0) (16 * b) ++ drop (16 * b) d → put_chunk (16 * b) out (chunk (16 * b) 16 w) ≡ tab (λ k. get_or w k 0) (16 * (b + 1)) ++ drop (16 * (b + 1)) d
  copy_turn e =
      let v : ℕ = 16 * b in
      let o : chunk v 16 w ≡ lanes (λ i. get_or w (v + i) 0) = list_lanes (chunk v 16 w) (length-chunk v 16 w (omega arith)) ∙ lanes_ext _ _ (λ i h. get_or-chunk v 16 w i 0 h) in
      chunk_turn (λ k. get_or w k 0) (λ i. get_or w (v + i) 0) d out b room e o (λ i h. refl)

  pub raise_turn : {r : List ℕ} → out ≡ tab (λ k. max (get_or d k 0) (get_or w k 0)) (16 * b) ++ drop (16 * b) d
      → r ≡ lanes (λ i. max (get_or (chunk (16 * b) 16 out) i 0) (get_or (chunk (16 * b) 16 w) i 0))
      → put_chunk (16 * b) out r ≡ tab (λ k. max (get_or d k 0) (get_or w k 0)) (16 * (b + 1)) ++ drop (16 * (b + 1)) d
  raise_turn {r} e o =
      let v : ℕ = 16 * b in
      let f : ℕ → ℕ = λ k. max (get_or d k 0) (get_or w k 0) in
      chunk_turn f (λ i. max (get_or (chunk v 16 out) i 0) (get_or (chunk v 16 w) i 0)) d out b room e o
      (λ i h. ap₂ max (block_seam f d out v i e h) (get_or-chunk v 16 w i 0 h))

-- the end of a loop that copies
list_tab : (l : List ℕ) → tab (λ k. get_or l k 0) (length l) ≡ l
list_tab l = ext_get_or 0 (tab (λ k. get_or l k 0) (length l)) l (length-tab _ (length l)) (λ i h. get_d_tab (λ k. get_or l k 0) (length l) i (omega (arith, length-tab (λ k. get_or l k 0) (length l))))

pub copied : (f d out : List ℕ) (i : ℕ) → length f ≡ length d → i ≡ length d → out ≡ tab (λ k. get_or f k 0) i ++ drop i d → out ≡ f
copied f d out i e k o = o ∙ rw k (tab_whole (λ k. get_or f k 0) d ∙ rw (← e) (list_tab f))
