-- One column more in the tables.
use mathlib.Core.Path.{◌≡◌, sym, ap, ap₂, ◌∙◌}
use mathlib.Core.Bool.{Bool}
use mathlib.Core.List.{List, [], ◌++◌, append-nil}
use Prim.Native.Nat.{ℕ, zero, suc, ◌+◌, ◌-◌, ◌*◌, ◌%◌, ◌≤◌, ◌<◌, max}
use native.Mathlib.Nat.{suc-mul, mul-le-mul_right}
use lib.Seq.{take_at, drop_at, drop-drop, take_all, get_or-take}
use Rattle.trellis.proofs.Loops.{length-tab, tab_ext}
use native.Mathlib.Omega.{arith}
use lib.ListN.{length, drop, take, get_or, length-take, length-drop, drop_of_length-le}
use Rattle.trellis.specs.Lists.{tab, blocks, part, patch}
use Rattle.tables.specs.inner.Shapes.{Table}
use Rattle.tables.specs.inner.Tables.{risen_at, risen_in, grown_at, grown_list, after_to}
use Rattle.tables.proofs.Copying.{mul-even}
use Rattle.tables.proofs.Parts.{past_first, part-front, part_twice, take-front, take_twice, blocks-length, blocks-drop, part_of, patch_turn}

-- table j with a column taken in, by a join with a copy of the table below it
pub rise_in_is : (g : Bool) (q l k : ℕ) (line d s : List ℕ) (j m n : ℕ) {r : List ℕ} → 1 ≤ j → m ≡ j * l → n ≡ m + l
    → s ≡ take (m - (m - l)) (drop (m - l) d) → r ≡ tab (risen_at g q line s (take (n - m) (drop m d))) l
    → take m d ++ (r ++ drop (n - m) (drop m d)) ≡ risen_in g q l k line d j
unfolding risen_in
rise_in_is g q l k line d s j m n {r} h em en C o =
    let p = past_first j l h in
    let a : n - m ≡ l = omega arith in
    let b : m - (m - l) ≡ l = omega arith in
    let low : s ≡ part d (j * l - l) l = C ∙ ap (λ y. take y (drop (m - l) d)) b ∙ ap (λ y. take l (drop (y - l) d)) em in
    let top : take (n - m) (drop m d) ≡ part d (j * l) l = ap (λ y. take y (drop m d)) a ∙ ap (λ y. take l (drop y d)) em in
    let u : r ≡ tab (risen_at g q line (part d (j * l - l) l) (part d (j * l) l)) l = o ∙ ap₂ (λ x y. tab (risen_at g q line x y) l) low top in
    ap₂ {C = List ℕ} (λ x y. take m d ++ (x ++ drop y (drop m d))) u a
    ∙ ap (λ y. take y d ++ (tab (risen_at g q line (part d (j * l - l) l) (part d (j * l) l)) l ++ drop l (drop y d))) em

module _ (g : Bool) (q l k : ℕ) (line d : List ℕ) (size : length d ≡ k * l) where
  abbrev F : ℕ → List ℕ
  F j = tab (grown_at g q l line d j) l

  F-full : (j : ℕ) → length (F j) ≡ l
  F-full j = length-tab (grown_at g q l line d j) l

  -- the tables from j + 1 on are new
  abbrev pub Half : ℕ → List ℕ → Type 0
  Half j s = s ≡ take (suc j * l) d ++ drop (suc j * l) (grown_list g q l k line d)

  pub half_start : (j : ℕ) → suc j ≡ k → Half j d
  unfolding grown_list
  half_start j e =
      let n : suc j * l ≡ length d = ap (λ y. y * l) e ∙ sym size in
      let b : drop (suc j * l) (blocks F k) ≡ [] = drop_of_length-le (blocks F k) {i = suc j * l} (omega (arith, blocks-length F l F-full k)) in
      sym (ap₂ {C = List ℕ} (λ x y. x ++ y) (take_all (suc j * l) d (omega arith)) b ∙ append-nil d)

  -- such a table below i + 1 is still as it was
  pub half_low : (i : ℕ) (s : List ℕ) → 1 ≤ i → i < k → Half i s → part s (i * l - l) l ≡ part d (i * l - l) l
  half_low i s h n e =
      let m = mul-le-mul_right l (let x : suc i ≤ k = n in x) in
      let p = past_first i l h in
      let u = suc-mul i l in
      let A : List ℕ = take (suc i * l) d in
      let a : length A ≡ suc i * l = length-take (suc i * l) d ∙ omega arith in
      ap (λ y. part y (i * l - l) l) e ∙ part-front A _ (i * l - l) l (omega arith) ∙ part_twice d (i * l - l) l (suc i * l) (omega arith)

  pub half_turn : (j i : ℕ) (s : List ℕ) {r : List ℕ} → i ≡ suc j → i < k → Half i s → r ≡ risen_in g q l k line s i → Half j r
  unfolding grown_list grown_at risen_in
  half_turn j i s {r} ei h e o =
      let m = mul-le-mul_right l (let x : suc i ≤ k = h in x) in
      let u = suc-mul i l in
      let v = suc-mul j l in
      let w : i * l ≡ suc j * l = ap (λ y. y * l) ei in
      let A : List ℕ = take (suc i * l) d in
      let B : List ℕ = drop (suc i * l) (blocks F k) in
      let a : length A ≡ suc i * l = length-take (suc i * l) d ∙ omega arith in
      let low : part s (i * l - l) l ≡ part d (j * l) l = half_low i s (omega arith) h e ∙ ap (λ y. part d y l) (let x : i * l - l ≡ j * l = omega arith in x) in
      let top : part s (i * l) l ≡ part d (suc j * l) l = ap (λ y. part y (i * l) l) e ∙ part-front A B (i * l) l (omega arith) ∙ part_twice d (i * l) l (suc i * l) (omega arith) ∙ ap (λ y. part d y l) w in
      let T : tab (risen_at g q line (part s (i * l - l) l) (part s (i * l) l)) l ≡ F i = ap₂ (λ x y. tab (risen_at g q line x y) l) low top ∙ ap F (sym ei) in
      let t : take (i * l) s ≡ take (suc j * l) d = ap (take (i * l)) e ∙ take-front A B (i * l) (omega arith) ∙ take_twice d (i * l) (suc i * l) (omega arith) ∙ ap (λ y. take y d) w in
      let x : drop l (drop (i * l) s) ≡ B = drop-drop l (i * l) s ∙ ap (λ y. drop y s) (let x : i * l + l ≡ suc i * l = omega arith in x) ∙ ap (drop (suc i * l)) e ∙ drop_at A B (suc i * l) a in
      o ∙ ap₂ {C = List ℕ} (λ p y. p ++ y) t (ap₂ {C = List ℕ} (λ p y. p ++ y) T x) ∙ ap {B = List ℕ} (λ y. take (suc j * l) d ++ y) (sym (blocks-drop F l F-full k i h) ∙ ap (λ y. drop y (blocks F k)) w)

  pub half_end : (s : List ℕ) {r : List ℕ} → 1 ≤ k → Half 0 s → r ≡ tab (λ a. max (get_or (take l s) a 0) (get_or line a 0)) (length (take l s)) → r ++ drop l s ≡ grown_list g q l k line d
  unfolding grown_list grown_at
  half_end s {r} h e o =
      let m = mul-le-mul_right l h in
      let z : suc 0 * l ≡ l = omega arith in
      let A : List ℕ = take l d in
      let B : List ℕ = drop l (blocks F k) in
      let a : length A ≡ l = length-take l d ∙ omega arith in
      let e' : s ≡ A ++ B = e ∙ ap (λ y. take y d ++ drop y (blocks F k)) z in
      let t : take l s ≡ A = ap (take l) e' ∙ take_at A B l a in
      let x : drop l s ≡ B = ap (drop l) e' ∙ drop_at A B l a in
      let u : r ≡ F 0 = o ∙ ap (λ y. tab (λ a. max (get_or y a 0) (get_or line a 0)) (length y)) t ∙ ap (tab (λ a. max (get_or A a 0) (get_or line a 0))) a ∙ tab_ext _ _ l (λ i k. ap (λ y. max y (get_or line i 0)) (get_or-take l d i 0 k)) in
      let y : drop (0 * l) (blocks F k) ≡ F 0 ++ drop (suc 0 * l) (blocks F k) = blocks-drop F l F-full k 0 h in
      let n : 0 * l ≡ 0 = omega arith in
      ap₂ {C = List ℕ} (λ p y. p ++ y) u x ∙ sym (ap (λ y. drop y (blocks F k)) (sym n) ∙ y ∙ ap (λ y. F 0 ++ drop y (blocks F k)) z)

pub widths : (k l : ℕ) → Table l → k ≤ 3 → (k * l ≤ 192) × (k * l % 16 ≡ 0)
widths k l W h = (omega (arith, mul-le-mul_right l h, W.limit), mul-even k l W)

module _ (g : Bool) (q l k : ℕ) (lines : List ℕ) (d : ℕ) (some : 2 ≤ d) (full : length lines ≡ d * l) where
  abbrev At : ℕ → List ℕ
  At = after_to g q l k lines d

  pub after-length : (i : ℕ) → length (At i) ≡ k * l
  unfolding after_to grown_list
  after-length zero =
      let m = suc-mul (d - 1) l in
      let e : suc (d - 1) ≡ d = omega arith in
      blocks-length (λ _. part lines ((d - 1) * l) l) l (λ _. length-take l (drop ((d - 1) * l) lines) ∙ omega (arith, length-drop ((d - 1) * l) lines, m, ap (λ y. y * l) e)) k
  after-length (suc i) = blocks-length (λ j. tab (grown_at g q l (part lines ((d - 2 - i) * l) l) (after_to g q l k lines d i) j) l) l (λ j. length-tab _ l) k

  pub after-start : (a b : ℕ) {r : List ℕ} → a ≡ (d - 1) * l → b ≡ a + l → r ≡ blocks (λ _. take (b - a) (drop a lines)) k → r ≡ At 0
  unfolding after_to
  after-start a b e f o = o ∙ ap (λ (y : List ℕ). blocks (λ _. y) k) (part_of lines a b (d - 1) l e f)

  pub after_turn : (i n : ℕ) {t r : List ℕ} → 1 ≤ i → n ≡ d - 1 - i → t ≡ At (i - 1) → r ≡ grown_list g q l k (part lines (n * l) l) t → r ≡ At i
  unfolding after_to
  after_turn zero n h e u o = absurd (omega arith)
  after_turn (suc i) n h e u o =
      let x : n ≡ d - 2 - i = omega arith in
      let y : suc i - 1 ≡ i = omega arith in
      o ∙ ap₂ (λ m t. grown_list g q l k (part lines (m * l) l) t) x (u ∙ ap At y)

  -- the tables kept as block i
  pub keep_turn : (D out : List ℕ) (i : ℕ) {t r : List ℕ} → i < d - 1 → length D ≡ (d - 1) * (k * l) → out ≡ blocks At i ++ drop (i * (k * l)) D
      → t ≡ At i → r ≡ patch out (i * length t) (length t) t → (length r ≡ length D) × (r ≡ blocks At (i + 1) ++ drop ((i + 1) * (k * l)) D)
  keep_turn D out i {t} {r} h n e o u =
      let w : length t ≡ k * l = ap length o ∙ after-length i in
      let x = mul-le-mul_right (k * l) (let x : suc i ≤ d - 1 = h in x) in
      patch_turn At (k * l) after-length D out i (omega (arith, x, suc-mul i (k * l))) e o (u ∙ ap (λ y. patch out (i * y) y t) w)
