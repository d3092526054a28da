-- What servings keep: the counts with what is left add up to A; a channel was unfinished at each of its iterations.
use mathlib.Core.Path.{◌≡◌, refl, sym, ap, ◌∙◌}
use mathlib.Core.Bool.{Bool, true, false, ◌||◌}
use mathlib.Core.Logic.{◌⊎◌, inl, inr, ⊎_elim}
use mathlib.Core.List.{List, [], ◌∷◌}
use Prim.Native.Nat.{ℕ, zero, suc, ◌+◌, ◌*◌, ◌-◌, ◌%◌, ◌≤◌, ◌<◌}
use native.Mathlib.Nat.{not-suc-le-zero, add-zero, add-suc, mul-suc, mod-lt, mod-eq_of_lt, mul-add-mod_self_left, mul-le-mul_left}
use native.Mathlib.Decide.{ℕ_discrete}
use native.Mathlib.Omega.{arith}
use lib.Dec.{eqb}
use lib.ListN.{length, get_or, set, replicate, length-set, length-replicate}
use lib.Seq.{get_or-set_same, get_or-set_other}
use borrow.Author.Tests.{eqb-true, eqb-false}
use Rattle.trellis.specs.Lists.{pick}
use Rattle.channels.specs.Serving.{Served, count_of, serving, servings, sum, Adds}

-- a serving that is skipped, or one that makes an iteration
pub record Iterates (fin : ℕ → ℕ → Bool) (c : ℕ) (s s' : Served) : Type 0 where
  pub unfinished : fin c (count_of s c) ≡ false
  pub some : 0 < s.left
  pub counts : s'.counts ≡ set s.counts c (count_of s c + 1)
  pub left : s'.left ≡ s.left - 1

pub record Skips (fin : ℕ → ℕ → Bool) (c : ℕ) (s s' : Served) : Type 0 where
  pub same : s' ≡ s
  pub why : (fin c (count_of s c) ≡ true) ⊎ (s.left ≡ 0)

pub serving_cases : (fin : ℕ → ℕ → Bool) (c : ℕ) (s : Served) → Iterates fin c s (serving fin c s) ⊎ Skips fin c s (serving fin c s)
unfolding serving
serving_cases fin c s = go (fin c (count_of s c)) refl (eqb s.left 0) refl
  where
    moved : Served
    moved = record { counts = set s.counts c (count_of s c + 1); left = s.left - 1 }

    go : (i : Bool) → fin c (count_of s c) ≡ i → (j : Bool) → eqb s.left 0 ≡ j → Iterates fin c s (pick (i || j) s moved) ⊎ Skips fin c s (pick (i || j) s moved)
    go true a j b = inr (record { same = refl; why = inl a })
    go false a true b = inr (record { same = refl; why = inr (eqb-true _ _ b) })
    go false a false b = let k = eqb-false s.left 0 b in inl (record { unfinished = a; some = positive s.left k; counts = refl; left = refl })
      where
        positive : (x : ℕ) → (x ≡ 0 → ⊥) → 0 < x
        positive zero k = absurd (k refl)
        positive (suc x) k = omega arith

sum-set : (l : List ℕ) (c : ℕ) → c < length l → sum (set l c (get_or l c 0 + 1)) ≡ suc (sum l)
sum-set [] c h = absurd (not-suc-le-zero h)
sum-set (x ∷ l) zero h = omega arith
sum-set (x ∷ l) (suc c) h = ap (λ k. x + k) (sum-set l c (omega arith)) ∙ omega arith

sum-none : (n : ℕ) → sum (replicate n 0) ≡ 0
sum-none zero = refl
sum-none (suc n) = omega (arith, sum-none n)

-- each member is at most the sum
member_sum : (l : List ℕ) (c : ℕ) → get_or l c 0 ≤ sum l
member_sum [] c = omega arith
member_sum (x ∷ l) zero = omega arith
member_sum (x ∷ l) (suc c) = omega (arith, member_sum l c)

-- what a serving of channel d does to channel c
pub record CountRises (fin : ℕ → ℕ → Bool) (d c : ℕ) (s s' : Served) : Type 0 where
  pub its_serving : c ≡ d
  pub unfinished : fin c (count_of s c) ≡ false
  pub one_more : count_of s' c ≡ suc (count_of s c)

pub serving-count : (fin : ℕ → ℕ → Bool) (d : ℕ) (s : Served) → d < length s.counts → (c : ℕ) → (count_of (serving fin d s) c ≡ count_of s c) ⊎ CountRises fin d c s (serving fin d s)
serving-count fin d s h c =
    ⊎_elim (λ (M : Iterates fin d s (serving fin d s)).
    elim (ℕ_discrete c d) [
      | yes e ↦ inr (record { its_serving = e; unfinished = rw e M.unfinished; one_more = rw (e, M.counts, get_or-set_same s.counts d (count_of s d + 1) 0 h) (omega arith) })
      | no e ↦ inl (rw M.counts (get_or-set_other s.counts d c (count_of s d + 1) 0 e))
    ]) (λ (K : Skips fin d s (serving fin d s)). inl (ap (λ s. count_of s c) K.same)) (serving_cases fin d s)

module _ (fin : ℕ → ℕ → Bool) (n A : ℕ) (some : 0 < n) where
  -- after k servings
  abbrev pub S : ℕ → Served
  S k = servings fin n A k

  step : (k : ℕ) → S (suc k) ≡ serving fin (k % n) (S k)
  unfolding servings
  step k = refl

  first : S 0 ≡ record { counts = replicate n 0; left = A }
  unfolding servings
  first = refl

  pub length-counts : (k : ℕ) → length (S k).counts ≡ n
  length-counts zero = rw first (length-replicate n 0)
  length-counts (suc k) =
      rw (step k)
      (⊎_elim (λ (M : Iterates fin (k % n) (S k) (serving fin (k % n) (S k))). rw M.counts (length-set (S k).counts (k % n) _ ∙ length-counts k))
      (λ (K : Skips fin (k % n) (S k) (serving fin (k % n) (S k))). rw K.same (length-counts k)) (serving_cases fin (k % n) (S k)))

  in_range_lem : (k : ℕ) → k % n < length (S k).counts
  in_range_lem k = omega (arith, length-counts k, mod-lt k {m = n} some)

  -- the iterations made and what is left are A
  pub sum_left : (k : ℕ) → sum (S k).counts + (S k).left ≡ A
  sum_left zero = rw first (omega (arith, sum-none n))
  sum_left (suc k) =
      rw (step k)
      (⊎_elim (λ (M : Iterates fin (k % n) (S k) (serving fin (k % n) (S k))). rw (M.counts, M.left, sum-set (S k).counts (k % n) (in_range_lem k)) (omega (arith, sum_left k, M.some)))
      (λ (K : Skips fin (k % n) (S k) (serving fin (k % n) (S k))). rw K.same (sum_left k)) (serving_cases fin (k % n) (S k)))

  pub one-serving : (k c : ℕ) → (count_of (S (suc k)) c ≡ count_of (S k) c) ⊎ CountRises fin (k % n) c (S k) (S (suc k))
  one-serving k c = rw (step k) (serving-count fin (k % n) (S k) (in_range_lem k) c)

  -- a channel was unfinished at each of its iterations
  pub unfinished-before : (k c i : ℕ) → i < count_of (S k) c → fin c i ≡ false
  unfinished-before zero c i h = absurd (none h)
    where
      zeros : (n c : ℕ) → ◌≡◌ {A = ℕ} (get_or (replicate n 0) c 0) 0
      zeros zero c = refl
      zeros (suc n) zero = refl
      zeros (suc n) (suc c) = zeros n c

      none : i < count_of (S 0) c → ⊥
      none h = let z : count_of (S 0) c ≡ 0 = rw first (zeros n c) in omega arith
  unfinished-before (suc k) c i h =
      ⊎_elim (λ e. unfinished-before k c i (omega arith)) (λ (M : CountRises fin (k % n) c (S k) (S (suc k))).
      elim (ℕ_discrete i (count_of (S k) c)) [
        | yes e ↦ rw e M.unfinished
        | no e ↦ unfinished-before k c i (omega (arith, M.one_more))
      ]) (one-serving k c)

  -- counts rise, what is left falls, a finished channel's count stays
  pub counts_rise : (k d c : ℕ) → count_of (S k) c ≤ count_of (S (k + d)) c
  counts_rise k zero c = rw (add-zero k) (omega arith)
  counts_rise k (suc d) c =
      rw (add-suc k d) (⊎_elim (λ e. omega (arith, counts_rise k d c)) (λ (M : CountRises fin ((k + d) % n) c (S (k + d)) (S (suc (k + d)))). omega (arith, M.one_more, counts_rise k d c)) (one-serving (k + d) c))

  sums-rise : (k : ℕ) → (S (suc k)).left ≤ (S k).left
  sums-rise k =
      rw (step k)
      (⊎_elim (λ (M : Iterates fin (k % n) (S k) (serving fin (k % n) (S k))). omega (arith, M.left)) (λ (K : Skips fin (k % n) (S k) (serving fin (k % n) (S k))). rw K.same (omega arith)) (serving_cases fin (k % n) (S k)))

  pub left_falls : (k d : ℕ) → (S (k + d)).left ≤ (S k).left
  left_falls k zero = rw (add-zero k) (omega arith)
  left_falls k (suc d) = rw (add-suc k d) (omega (arith, left_falls k d, sums-rise (k + d)))

  pub finished_stays : (k d c : ℕ) → fin c (count_of (S k) c) ≡ true → count_of (S (k + d)) c ≡ count_of (S k) c
  finished_stays k zero c h = rw (add-zero k)
  finished_stays k (suc d) c h =
      rw (add-suc k d)
      (⊎_elim (λ e. e ∙ finished_stays k d c h) (λ (M : CountRises fin ((k + d) % n) c (S (k + d)) (S (suc (k + d)))).
      let e : fin c (count_of (S k) c) ≡ false = ap (fin c) (sym (finished_stays k d c h)) ∙ M.unfinished in
      let z : ◌≡◌ {A = ℕ} 0 1 = cc in absurd (omega arith)) (one-serving (k + d) c))

  -- so one that is unfinished later is unfinished now
  pub was_unfinished : (k d c : ℕ) → fin c (count_of (S (k + d)) c) ≡ false → fin c (count_of (S k) c) ≡ false
  was_unfinished k d c h = go (fin c (count_of (S k) c)) refl
    where
      go : (b : Bool) → fin c (count_of (S k) c) ≡ b → b ≡ false
      go false e = refl
      go true e =
          let u : fin c (count_of (S k) c) ≡ false = ap (fin c) (sym (finished_stays k d c e)) ∙ h in
          let z : ◌≡◌ {A = ℕ} 0 1 = cc in absurd (omega arith)

  -- an unfinished channel's own serving, with something left
  pub own_serving : (k c : ℕ) → k % n ≡ c → fin c (count_of (S k) c) ≡ false → 0 < (S k).left → count_of (S (suc k)) c ≡ suc (count_of (S k) c)
  own_serving k c e u l =
      rw (step k)
      (⊎_elim (λ (M : Iterates fin (k % n) (S k) (serving fin (k % n) (S k))).
      rw (M.counts, e, get_or-set_same (S k).counts c (count_of (S k) c + 1) 0 (rw (← e) (in_range_lem k))) (omega arith))
      (λ (K : Skips fin (k % n) (S k) (serving fin (k % n) (S k))).
      ⊎_elim (λ (f : fin (k % n) (count_of (S k) (k % n)) ≡ true).
      let g : fin c (count_of (S k) c) ≡ true = ap (λ c. fin c (count_of (S k) c)) (sym e) ∙ f in
      let z : ◌≡◌ {A = ℕ} 0 1 = cc in absurd (omega arith)) (λ (z : (S k).left ≡ 0). absurd (omega arith)) K.why)
      (serving_cases fin (k % n) (S k)))

  -- while a channel stays unfinished and something is left, it gets an iteration in each round
  a-round-each : (c : ℕ) → c < n → fin c (count_of (S (n * A)) c) ≡ false → 0 < (S (n * A)).left → (r : ℕ) → r ≤ A → r ≤ count_of (S (n * r)) c
  a-round-each c h u l zero g = omega arith
  a-round-each c h u l (suc r) g =
      let k : ℕ = n * r + c in
      let low : n * suc r ≡ n * r + n = mul-suc n r in
      let high : n * suc r ≤ n * A = mul-le-mul_left n g in
      let e : k % n ≡ c = mul-add-mod_self_left n r c ∙ mod-eq_of_lt h in
      let d : k + (n * A - k) ≡ n * A = omega arith in
      let i : fin c (count_of (S k) c) ≡ false = was_unfinished k (n * A - k) c (ap (λ x. fin c (count_of (S x) c)) d ∙ u) in
      let j : (S (n * A)).left ≤ (S k).left = rw d at (left_falls k (n * A - k)) in
      let b : r ≤ count_of (S (n * r)) c = a-round-each c h u l r (omega arith) in
      let t : count_of (S (suc k)) c ≡ suc (count_of (S k) c) = own_serving k c e i (omega arith) in
      let x : suc k + (n * suc r - suc k) ≡ n * suc r = omega arith in
      let v : count_of (S (suc k)) c ≤ count_of (S (n * suc r)) c = rw x at (counts_rise (suc k) (n * suc r - suc k) c) in
      omega (arith, counts_rise (n * r) c c)

  pub spent-left : (c : ℕ) → c < n → fin c (count_of (S (n * A)) c) ≡ false → (S (n * A)).left ≡ 0
  spent-left c h u = go (S (n * A)).left refl
    where
      go : (x : ℕ) → (S (n * A)).left ≡ x → x ≡ 0
      go zero e = refl
      go (suc x) e =
          let b : A ≤ count_of (S (n * A)) c = a-round-each c h u (omega arith) A (omega arith) in
          absurd (omega (arith, member_sum (S (n * A)).counts c, sum_left (n * A)))

  pub adds : Adds fin n A
  adds =
      record {
        spent = omega (arith, sum_left (n * A));
        at_most = omega (arith, sum_left (n * A));
        exactly = λ c h u. omega (arith, sum_left (n * A), spent-left c h u);
      }
