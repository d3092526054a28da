-- Laws of what loops leave: lists filled from the front, blocks end to end, stores at different places.
use mathlib.Core.Path.{◌≡◌, refl, ap, ap₂, ◌∙◌, sym}
use mathlib.Core.Logic.{⊎_elim}
use mathlib.Core.List.{List, [], ◌∷◌, ◌++◌, map, append-nil, append_assoc}
use Prim.Native.Nat.{ℕ, zero, suc, ◌+◌, ◌-◌, ◌*◌, ◌≤◌, ◌<◌}
use native.Mathlib.Nat.{add-zero, zero-mul, suc-mul, mul-le-mul_right, add-sub_cancel_left, not-suc-le-zero, eq-or-lt_of_le}
use native.Mathlib.Decide.{ℕ_discrete}
use native.Mathlib.Numerals.{add-one}
use native.Mathlib.Omega.{arith}
use borrow.Rule.Slice.PartMut.{put_mid}
use lib.ListN.{length, take, drop, get_or, set, length-set, length-append, length-drop, get_or-append}
use lib.Seq.{drop-cons, set_at, append_snoc, get_or_at, drop-length, drop-drop, take_at, drop_at, get_or-set_same, get_or-set_other}
use Rattle.std.proofs.Math.Seq.{take-suc-set}
use Rattle.std.proofs.lemmas.Slice.{take-put_mid}
use Rattle.trellis.specs.Lists.{count_from, each, upto, tab, blocks}

pub length-tab : (f : ℕ → ℕ) (n : ℕ) → length (tab f n) ≡ n
length-tab f zero = refl
length-tab f (suc n) = simp (length-append, length-tab f n, add-one)

-- a turn of a loop that fills d from the front
pub tab-more : (f : ℕ → ℕ) (d : List ℕ) (i : ℕ) → i < length d → set (tab f i ++ drop i d) i (f i) ≡ tab f (i + 1) ++ drop (i + 1) d
tab-more f d i h =
    rw (add-one, drop-cons d i 0 h)
    (set_at (tab f i) (get_or d i 0) (drop (suc i) d) (f i) i (length-tab f i) ∙ sym (append_snoc (tab f i) (f i) (drop (suc i) d)))

-- what such a loop has not reached is as it was
pub tab_seam : (f : ℕ → ℕ) (d : List ℕ) (i : ℕ) → i < length d → get_or (tab f i ++ drop i d) i 0 ≡ get_or d i 0
tab_seam f d i h = rw (drop-cons d i 0 h) (get_or_at (tab f i) (get_or d i 0) (drop (suc i) d) 0 i (length-tab f i))

-- at its end
pub tab_whole : (f : ℕ → ℕ) (d : List ℕ) → tab f (length d) ++ drop (length d) d ≡ tab f (length d)
tab_whole f d = rw drop-length (append-nil (tab f (length d)))

pub tab-length : (f : ℕ → ℕ) (d : List ℕ) (i : ℕ) → i ≤ length d → length (tab f i ++ drop i d) ≡ length d
tab-length f d i h = simp (length-append, length-tab, length-drop) (omega arith)

-- what stands at a place of a list made so
pub get_d_tab : (f : ℕ → ℕ) (n i : ℕ) → i < n → get_or (tab f n) i 0 ≡ f i
get_d_tab f zero i h = absurd (omega arith)
get_d_tab f (suc n) i h =
    ⊎_elim (λ e. rw e (get_or_at (tab f n) (f n) [] 0 n (length-tab f n)))
    (λ k. let l : i < length (tab f n) = rw (length-tab f n) k in get_or-append (tab f n) (f n ∷ []) 0 i l ∙ get_d_tab f n i k)
    (eq-or-lt_of_le {n = i} {m = n} (omega arith))

pub tab_ext : (f g : ℕ → ℕ) (n : ℕ) → ((j : ℕ) → j < n → f j ≡ g j) → tab f n ≡ tab g n
tab_ext f g zero h = refl
tab_ext f g (suc n) h = ap₂ {C = List ℕ} (λ l y. l ++ (y ∷ [])) (tab_ext f g n (λ j l. h j (omega arith))) (h n (omega arith))

pub tab-front : (f : ℕ → ℕ) (n : ℕ) → tab f (suc n) ≡ f 0 ∷ tab (λ j. f (suc j)) n
tab-front f zero = refl
tab-front f (suc n) = ap {B = List ℕ} (λ l. l ++ (f (suc n) ∷ [])) (tab-front f n)

pub map-tab : (f : ℕ → ℕ) (i n : ℕ) → map f (count_from i n) ≡ tab (λ j. f (i + j)) n
map-tab f i zero = refl
map-tab f i (suc n) = ap₂ (λ y l. y ∷ l) (ap f (sym (add-zero i))) (map-tab f (suc i) n ∙ tab_ext _ _ n (λ j l. ap f (omega arith))) ∙ sym (tab-front (λ j. f (i + j)) n)

pub blocks_ext : (f g : ℕ → List ℕ) (n : ℕ) → ((m : ℕ) → m < n → f m ≡ g m) → blocks f n ≡ blocks g n
blocks_ext f g zero h = refl
blocks_ext f g (suc n) h = ap₂ (λ a b. a ++ b) (blocks_ext f g n (λ m i. h m (omega arith))) (h n (omega arith))

pub blocks-front : (f : ℕ → List ℕ) (n : ℕ) → blocks f (suc n) ≡ f 0 ++ blocks (λ j. f (suc j)) n
blocks-front f zero = sym (append-nil (f 0))
blocks-front f (suc n) = ap {B = List ℕ} (λ l. l ++ f (suc n)) (blocks-front f n) ∙ append_assoc (f 0) _ _

pub each-blocks : (f : ℕ → List ℕ) (i n : ℕ) → each f (count_from i n) ≡ blocks (λ j. f (i + j)) n
each-blocks f i zero = refl
each-blocks f i (suc n) =
    ap₂ {C = List ℕ} (λ y l. y ++ l) (ap f (sym (add-zero i))) (each-blocks f (suc i) n ∙ blocks_ext _ _ n (λ j l. ap f (omega arith))) ∙ sym (blocks-front (λ j. f (i + j)) n)

-- blocks of given lengths
pub length-blocks : (f : ℕ → List ℕ) (w : ℕ → ℕ) (n : ℕ) → ((m : ℕ) → m < n → length (f m) ≡ w m) → length (blocks f n) ≡ upto (λ k a. a + w k) n 0
length-blocks f w zero g = refl
length-blocks f w (suc n) g = rw (length-append (blocks f n), g n (omega arith), length-blocks f w n (λ m h. g m (omega arith)))

-- two lists that start with parts of one length
pub split_same : (a b x y : List ℕ) → length a ≡ length b → a ++ x ≡ b ++ y → (a ≡ b) × (x ≡ y)
split_same a b x y l e = (
  sym (take_at a x (length b) l) ∙ ap (take (length b)) e ∙ take_at b y (length b) refl,
  sym (drop_at a x (length b) l) ∙ ap (drop (length b)) e ∙ drop_at b y (length b) refl,
)

-- blocks of the same lengths are equal only if each is
pub blocks-same : (f g : ℕ → List ℕ) (n : ℕ) → ((m : ℕ) → m < n → length (f m) ≡ length (g m)) → blocks f n ≡ blocks g n → (m : ℕ) → m < n → f m ≡ g m
blocks-same f g zero l e m h = absurd (not-suc-le-zero h)
blocks-same f g (suc n) l e m h =
    let same : length (blocks f n) ≡ length (blocks g n) =
    length-blocks f (λ k. length (g k)) n (λ k i. l k (omega arith)) ∙ sym (length-blocks g (λ k. length (g k)) n (λ k i. refl)) in
    let r = split_same (blocks f n) (blocks g n) (f n) (g n) same e in
    elim (ℕ_discrete m n) [
      | yes i ↦ rw i r.1
      | no i ↦ blocks-same f g n (λ k j. l k (omega arith)) r.0 m (omega arith)
    ]

-- stores at different places
module _ (at v : ℕ → ℕ) (l : List ℕ) where
  abbrev pub stores : ℕ → List ℕ
  stores n = upto (λ x l. set l (at x) (v x)) n l

  pub stores_length : (n : ℕ) → length (stores n) ≡ length l
  stores_length zero = refl
  stores_length (suc n) = simp length-set (stores_length n)

  pub stores_at : (n : ℕ) → ((x : ℕ) → x < n → at x < length l) → ((x y : ℕ) → x < n → y < n → at x ≡ at y → x ≡ y)
      → (x : ℕ) → x < n → get_or (stores n) (at x) 0 ≡ v x
  stores_at zero h d x k = absurd (omega arith)
  stores_at (suc n) h d x k =
      elim (ℕ_discrete x n) [
        | yes e ↦ rw e (get_or-set_same (stores n) (at n) (v n) 0 (rw (stores_length n) (h n (omega arith))))
        | no e ↦
            get_or-set_other (stores n) (at n) (at x) (v n) 0 (λ q. e (d x n k (omega arith) q))
            ∙ stores_at n (λ y r. h y (omega arith)) (λ y z r s q. d y z (omega arith) (omega arith) q) x (omega arith)
      ]

-- blocks of w elements written one after the other into l
module _ (f : ℕ → List ℕ) (w : ℕ) (full : (j : ℕ) → length (f j) ≡ w) where
  pub length-even : (n : ℕ) → length (blocks f n) ≡ n * w
  length-even zero = omega (arith, zero-mul w)
  length-even (suc n) = simp (length-append, length-even n, full n) (omega (arith, suc-mul n w))

  -- before the first, and how long the whole is
  pub block_start : (l : List ℕ) → l ≡ blocks f 0 ++ drop (0 * w) l
  block_start l = rw zero-mul

  pub block-length : (l : List ℕ) (i : ℕ) → i * w ≤ length l → length (blocks f i ++ drop (i * w) l) ≡ length l
  block-length l i h = rw (length-append (blocks f i), length-even i, length-drop) (omega arith)

  pub block_room : (i n : ℕ) → i < n → i * w + w ≤ n * w
  block_room i n h = rw suc-mul at (mul-le-mul_right w h)

  pub block_more : (l out : List ℕ) (i : ℕ) {r : List ℕ} → out ≡ blocks f i ++ drop (i * w) l → r ≡ f i
      → take (i * w) out ++ (r ++ drop (i * w + w - i * w) (drop (i * w) out)) ≡ blocks f (i + 1) ++ drop ((i + 1) * w) l
  block_more l out i e g =
      let a : i * w + w - i * w ≡ w = add-sub_cancel_left (i * w) w in
      let b : (i + 1) * w ≡ i * w + w = rw (add-one i) (suc-mul i w) in
      let t : take (i * w) (blocks f i ++ drop (i * w) l) ≡ blocks f i = take_at (blocks f i) (drop (i * w) l) (i * w) (length-even i) in
      let d : drop (i * w) (blocks f i ++ drop (i * w) l) ≡ drop (i * w) l = drop_at (blocks f i) (drop (i * w) l) (i * w) (length-even i) in
      let k : drop w (drop (i * w) l) ≡ drop (i * w + w) l = drop-drop w (i * w) l in
      rw (e, g, a, b, t, d, k, add-one i) (sym (append_assoc (blocks f i) (f i) _))

  pub block-end : (l out : List ℕ) (i : ℕ) → out ≡ blocks f i ++ drop (i * w) l → length l ≡ i * w → out ≡ blocks f i
  block-end l out i e h = rw (e, ← h, drop-length) (append-nil (blocks f i))

-- a turn of a loop that fills out from the front
pub fill_next : (f : ℕ → ℕ) (out : List ℕ) (i v : ℕ) → i < length out → take i out ≡ tab f i → v ≡ f i → take (i + 1) (set out i v) ≡ tab f (i + 1)
fill_next f out i v h e w = rw (add-one i, take-suc-set out i v h, e, w) refl

-- a turn of a loop that fills out by blocks of w: the next one is put from n * w on, up to k
pub block_next : (f : ℕ → List ℕ) (n w k : ℕ) (out new : List ℕ) → n * w ≤ length out → length new ≡ w → new ≡ f n → take (n * w) out ≡ blocks f n
    → take ((n + 1) * w) (put_mid (n * w) k out new) ≡ blocks f (n + 1)
block_next f n w k out new h e v t =
    let l : (n + 1) * w ≡ n * w + length new = rw (e, add-one n) (suc-mul n w) in
    take-put_mid (n * w) k out new ((n + 1) * w) l h ∙ rw (add-one n, t, v) refl
