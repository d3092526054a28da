-- The pairs of one a, put in one after the other, and the unused ones behind them.
use mathlib.Core.Path.{◌≡◌, refl, sym, ap, ap₂, ◌∙◌}
use mathlib.Core.Bool.{Bool, true, false}
use mathlib.Core.List.{List, [], ◌∷◌, ◌++◌, append_assoc, append-nil}
use Prim.Native.Nat.{ℕ, zero, suc, ◌+◌, ◌-◌, ◌*◌, ◌≤◌, ◌<◌}
use native.Mathlib.Nat.{suc-mul, zero-mul, eq-or-lt_of_le}
use native.Mathlib.Numerals.{add-one}
use native.Mathlib.Omega.{arith}
use mathlib.Core.Logic.{⊎_elim}
use lib.Dec.{ltb}
use lib.ListN.{length, get_or, set, take, drop, length-append, drop_of_length-le}
use lib.Seq.{drop-cons, set_at, append_snoc, take_at, drop_at, drop-drop, drop-length, take_all}
use Rattle.trellis.specs.Lists.{pick, blocks}
use Rattle.sweep.specs.inner.Groups.{lowest_to, pair_above, pair_count, unused_pair, group_by}

two_sets : (X l : List ℕ) (u v at : ℕ) → length X ≡ at → at + 2 ≤ length l → set (set (X ++ drop at l) at u) (at + 1) v ≡ (X ++ (u ∷ v ∷ [])) ++ drop (at + 2) l
two_sets X l u v at e h =
    let s : at + 1 ≡ suc at = omega arith in
    let t : at + 2 ≡ suc (suc at) = omega arith in
    let a : drop at l ≡ get_or l at 0 ∷ (get_or l (suc at) 0 ∷ drop (suc (suc at)) l) = drop-cons l at 0 (omega arith) ∙ ap {B = List ℕ} (λ r. get_or l at 0 ∷ r) (drop-cons l (suc at) 0 (omega arith)) in
    let m : length (X ++ (u ∷ [])) ≡ suc at = length-append X (u ∷ []) ∙ omega arith in
    rw (s, t, a, set_at X (get_or l at 0) (get_or l (suc at) 0 ∷ drop (suc (suc at)) l) u at e, ← append_snoc X u (get_or l (suc at) 0 ∷ drop (suc (suc at)) l))
    (set_at (X ++ (u ∷ [])) (get_or l (suc at) 0) (drop (suc (suc at)) l) v (suc at) m ∙ append_assoc X (u ∷ []) (v ∷ drop (suc (suc at)) l) ∙ sym (append_assoc X (u ∷ v ∷ []) (drop (suc (suc at)) l)))

-- blocks that are w long as far as they are written
pub length-blocks_to : (f : ℕ → List ℕ) (w n : ℕ) → ((j : ℕ) → j < n → length (f j) ≡ w) → length (blocks f n) ≡ n * w
length-blocks_to f w zero h = sym (zero-mul w)
length-blocks_to f w (suc n) h = length-append (blocks f n) (f n) ∙ ap₂ ◌+◌ (length-blocks_to f w n (λ j l. h j (omega arith))) (h n (omega arith)) ∙ sym (suc-mul n w)

module _ (e : ℕ) (S : ℕ → ℕ) where
  pub pair_length : (n : ℕ) → length (blocks (pair_above e S) n) ≡ pair_count e S n * 2
  pair_length zero = refl
  pair_length (suc n) = length-append (blocks (pair_above e S) n) (pair_above e S n) ∙ go (ltb e (S n)) (pair_length n)
    where
      go : (b : Bool) → length (blocks (pair_above e S) n) ≡ pair_count e S n * 2 → length (blocks (pair_above e S) n) + length (pick b (n ∷ S n ∷ []) []) ≡ pick b (pair_count e S n + 1) (pair_count e S n) * 2
      go true h = omega arith
      go false h = omega arith

  step-up : (b : Bool) (c : ℕ) → c ≤ pick b (c + 1) c
  step-up true c = omega arith
  step-up false c = omega arith

  count_mono : (d n : ℕ) → n ≤ d → pair_count e S n ≤ pair_count e S d
  count_mono zero n h = let z : n ≡ 0 = omega arith in rw z (omega arith)
  count_mono (suc d) n h =
      ⊎_elim (λ (z : n ≡ suc d). rw z (omega arith)) (λ (k : n < suc d). omega (arith, count_mono d n (omega arith), step-up (ltb e (S d)) (pair_count e S d))) (eq-or-lt_of_le {n = n} {m = suc d} h)

  pub pair_room : (d n : ℕ) → n < d → pick (ltb e (S n)) (pair_count e S n * 2 + 2) 0 ≤ pair_count e S d * 2
  pair_room d n h = omega (arith, go (ltb e (S n)) (pair_count e S n), count_mono d (suc n) h)
    where
      go : (b : Bool) (c : ℕ) → pick b (c * 2 + 2) 0 ≤ pick b (c + 1) c * 2
      go true c = omega arith
      go false c = omega arith

  pub count_small : (n : ℕ) → pair_count e S n ≤ n
  count_small zero = omega arith
  count_small (suc n) = go (ltb e (S n)) (count_small n)
    where
      go : (b : Bool) → pair_count e S n ≤ n → pick b (pair_count e S n + 1) (pair_count e S n) ≤ suc n
      go true h = omega arith
      go false h = omega arith

  pub count_turn : (n c : ℕ) {s r : ℕ} → c ≡ pair_count e S n → s ≡ S n → r ≡ pick (ltb e s) (c + 1) c → r ≡ pair_count e S (n + 1)
  count_turn n c a b o = o ∙ rw (a, b, add-one n)

  pub pair_turn : (d n c : ℕ) (l out : List ℕ) {m s : ℕ} {r : List ℕ} → n < d → pair_count e S d * 2 ≤ length l → c ≡ pair_count e S n → m ≡ n → s ≡ S n → out ≡ blocks (pair_above e S) n ++ drop (pair_count e S n * 2) l
      → r ≡ pick (ltb e s) (set (set out (c * 2) m) (c * 2 + 1) s) out → r ≡ blocks (pair_above e S) (n + 1) ++ drop (pair_count e S (n + 1) * 2) l
  pair_turn d n c l out h k a b u o q =
      q ∙ rw (a, b, u, o, add-one n) (go (ltb e (S n)) (pair_room d n h))
    where
      go : (t : Bool) → pick t (pair_count e S n * 2 + 2) 0 ≤ pair_count e S d * 2
          → pick t (set (set (blocks (pair_above e S) n ++ drop (pair_count e S n * 2) l) (pair_count e S n * 2) n) (pair_count e S n * 2 + 1) (S n)) (blocks (pair_above e S) n ++ drop (pair_count e S n * 2) l)
          ≡ (blocks (pair_above e S) n ++ pick t (n ∷ S n ∷ []) []) ++ drop (pick t (pair_count e S n + 1) (pair_count e S n) * 2) l
      go true v =
          let x : (pair_count e S n + 1) * 2 ≡ pair_count e S n * 2 + 2 = omega arith in
          two_sets (blocks (pair_above e S) n) l n (S n) (pair_count e S n * 2) (pair_length n) (omega arith) ∙ ap (λ y. (blocks (pair_above e S) n ++ (n ∷ S n ∷ [])) ++ drop y l) (sym x)
      go false v = ap {B = List ℕ} (λ y. y ++ drop (pair_count e S n * 2) l) (sym (append-nil (blocks (pair_above e S) n)))

-- a group is full
pub group-full : (k d : ℕ) (S : ℕ → ℕ) → pair_count (lowest_to S d) S d ≤ k → length (group_by k d S) ≡ 1 + 2 * k
unfolding group_by
group-full k d S h =
    let x = length-append (blocks (pair_above (lowest_to S d) S) d) (blocks unused_pair (k - pair_count (lowest_to S d) S d)) in
    omega (arith, x, pair_length (lowest_to S d) S d, length-blocks_to unused_pair 2 (k - pair_count (lowest_to S d) S d) (λ j l. refl))

group-last : (k d : ℕ) (S : ℕ → ℕ) (e : ℕ) → e ≡ lowest_to S d → e ∷ (blocks (pair_above e S) d ++ blocks unused_pair (k - pair_count e S d)) ≡ group_by k d S
unfolding group_by
group-last k d S e a = rw a refl

-- E, the pairs, and the unused pairs behind them
pub group-done : (k d : ℕ) (S : ℕ → ℕ) (out : List ℕ) (e n c : ℕ) {r s : List ℕ} → length out ≡ 1 + 2 * k → n ≡ length out → e ≡ lowest_to S d → c ≡ pair_count e S d → c ≤ k
    → r ≡ blocks (pair_above e S) d ++ drop (pair_count e S d * 2) (take (n - 1) (drop 1 (set out 0 e)))
    → s ≡ blocks unused_pair (k - c)
    → let two : List ℕ = take 1 (set out 0 e) ++ (r ++ drop (n - 1) (drop 1 (set out 0 e))) in
    take (1 + c * 2) two ++ (s ++ drop (n - (1 + c * 2)) (drop (1 + c * 2) two)) ≡ group_by k d S
group-done k d S [] e n c l m a b g o u = absurd (omega arith)
group-done k d S (x ∷ out) e n c {r} {s} l m a b g o u =
    let C : ℕ = pair_count e S d in
    let B : List ℕ = blocks (pair_above e S) d in
    let N : n - 1 ≡ length out = omega arith in
    let t : take (n - 1) out ≡ out = take_all (n - 1) out (omega arith) in
    let z : drop (n - 1) out ≡ [] = ap (λ y. drop y out) N ∙ drop-length out in
    let w : 1 + c * 2 ≡ suc (c * 2) = omega arith in
    let v : length B ≡ c * 2 = pair_length e S d ∙ ap (λ y. y * 2) (sym b) in
    let f : r ++ drop (n - 1) out ≡ B ++ drop (C * 2) out = ap₂ {C = List ℕ} (λ y q. y ++ q) (o ∙ ap (λ y. B ++ drop (C * 2) y) t) z ∙ append-nil (B ++ drop (C * 2) out) in
    let p : take (c * 2) (B ++ drop (C * 2) out) ≡ B = take_at B (drop (C * 2) out) (c * 2) v in
    let q : drop (c * 2) (B ++ drop (C * 2) out) ≡ drop (C * 2) out = drop_at B (drop (C * 2) out) (c * 2) v in
    let j : drop (n - suc (c * 2)) (drop (C * 2) out) ≡ [] = drop-drop (n - suc (c * 2)) (C * 2) out ∙ drop_of_length-le out {i = C * 2 + (n - suc (c * 2))} (omega (arith, ap (λ y. y * 2) b)) in
    rw (w, f, p, q, j, u, append-nil (blocks unused_pair (k - c)), b) (group-last k d S e a)
