-- With u channels unfinished and at least u iterations left, each unfinished one gets its next iteration within u: of n servings each channel has one.
use mathlib.Core.Path.{◌≡◌, sym, ap, ◌∙◌}
use mathlib.Core.Bool.{Bool, true, false, not, cond}
use mathlib.Core.Logic.{◌≢◌, ◌⊎◌, inl, inr, ⊎_elim}
use mathlib.Core.List.{List, [], ◌∷◌}
use Prim.Native.Nat.{ℕ, zero, suc, ◌+◌, ◌*◌, ◌-◌, ◌/◌, ◌%◌, ◌≤◌, ◌<◌}
use native.Mathlib.Nat.{not-suc-le-zero, add-zero, add-suc, mul-suc, mod-lt, mod-eq_of_lt, mul-add-mod_self_left, mul-le-mul_left, div-add-mod}
use native.Mathlib.Decide.{dec_le}
use native.Mathlib.Omega.{arith}
use lib.ListN.{length, get_or}
use Rattle.trellis.specs.Lists.{count_from, keep}
use Rattle.channels.specs.Serving.{Served, count_of, servings, sum, unfinished, Next, Fair}
use Rattle.channels.proofs.Servings.{CountRises, length-counts, sum_left, one-serving, own_serving, left_falls, was_unfinished, spent-left}

-- sums of two lists, the second above the first by at most 1 where a test holds
abbrev one : Bool → ℕ
one b = cond b 1 0

module _ (g : ℕ → Bool) where
  tests : ℕ → ℕ → ℕ
  tests i n = length (keep g (count_from i n))

  tests-suc : (i n : ℕ) → tests i (suc n) ≡ one (g i) + tests (suc i) n
  unfolding tests
  tests-suc i n = go (g i)
    where
      go : (b : Bool) → length (cond b (i ∷ keep g (count_from (suc i) n)) (keep g (count_from (suc i) n))) ≡ one b + tests (suc i) n
      go true = omega arith
      go false = omega arith

  sum-most : (l l' : List ℕ) (i : ℕ) → length l' ≡ length l → ((x : ℕ) → x < length l → get_or l' x 0 ≤ get_or l x 0 + one (g (i + x))) → sum l' ≤ sum l + tests i (length l)
  sum-most [] [] i e h = omega arith
  sum-most [] (y ∷ l') i e h = absurd (omega arith)
  sum-most (x ∷ l) [] i e h = absurd (omega arith)
  sum-most (x ∷ l) (y ∷ l') i e h =
      let a : y ≤ x + one (g i) = rw (add-zero i) at (h 0 (omega arith)) in
      let b : sum l' ≤ sum l + tests (suc i) (length l) = sum-most l l' (suc i) (omega arith) (λ z k. let s : i + suc z ≡ suc i + z = omega arith in rw s at (h (suc z) (omega arith))) in
      omega (arith, tests-suc i (length l))

  -- strictly, where the test holds at a place that did not rise
  sum_less : (l l' : List ℕ) (i : ℕ) → length l' ≡ length l → ((x : ℕ) → x < length l → get_or l' x 0 ≤ get_or l x 0 + one (g (i + x)))
      → (c : ℕ) → c < length l → g (i + c) ≡ true → get_or l' c 0 ≤ get_or l c 0 → suc (sum l') ≤ sum l + tests i (length l)
  sum_less [] l' i e h c k t q = absurd (not-suc-le-zero k)
  sum_less (x ∷ l) [] i e h c k t q = absurd (omega arith)
  sum_less (x ∷ l) (y ∷ l') i e h zero k t q =
      let f : g i ≡ true = rw (add-zero i) at t in
      let o : one (g i) ≡ 1 = ap one f in
      let b : sum l' ≤ sum l + tests (suc i) (length l) = sum-most l l' (suc i) (omega arith) (λ z k. let s : i + suc z ≡ suc i + z = omega arith in rw s at (h (suc z) (omega arith))) in
      omega (arith, tests-suc i (length l))
  sum_less (x ∷ l) (y ∷ l') i e h (suc c) k t q =
      let a : y ≤ x + one (g i) = rw (add-zero i) at (h 0 (omega arith)) in
      let s : i + suc c ≡ suc i + c = omega arith in
      let b : suc (sum l') ≤ sum l + tests (suc i) (length l) = sum_less l l' (suc i) (omega arith) (λ z k. let s : i + suc z ≡ suc i + z = omega arith in rw s at (h (suc z) (omega arith))) c (omega arith) (rw s at t) q in
      omega (arith, tests-suc i (length l))

-- of n servings in a row, each channel has one
distinct : (n x y : ℕ) → x < y → y < x + n → x % n ≢ y % n
distinct n x y h k e =
    elim (dec_le (y / n) (x / n)) [
      | yes l ↦ omega (arith, div-add-mod x n, div-add-mod y n, mul-le-mul_left n l)
      | no l ↦
          let m : suc (x / n) ≤ y / n = omega arith in
          omega (arith, div-add-mod x n, div-add-mod y n, mul-le-mul_left n m, mul-suc n (x / n))
    ]

its_serving : (n : ℕ) → 0 < n → (k c : ℕ) → c < n → (j : ℕ) × (j < n) × ((k + j) % n ≡ c)
its_serving n some k c h =
    elim (dec_le (k % n) c) [
      | yes l ↦
          let e : k + (c - k % n) ≡ n * (k / n) + c = omega (arith, div-add-mod k n) in
          (c - k % n, omega arith, rw e (mul-add-mod_self_left n (k / n) c ∙ mod-eq_of_lt h))
      | no l ↦
          let e : k + (c + n - k % n) ≡ n * suc (k / n) + c = omega (arith, div-add-mod k n, mul-suc n (k / n), mod-lt k {m = n} some) in
          (c + n - k % n, omega arith, rw e (mul-add-mod_self_left n (suc (k / n)) c ∙ mod-eq_of_lt h))
    ]

module _ (fin : ℕ → ℕ → Bool) (n A : ℕ) (some : 0 < n) (k : ℕ) where
  abbrev S : ℕ → Served
  S i = servings fin n A i

  -- c had its iteration among j servings from k on
  record Went (j c : ℕ) : Type 0 where
    pub serving : ℕ
    pub among : serving < j
    pub its : (k + serving) % n ≡ c
    pub unfinished : fin c (count_of (S k) c) ≡ false
    pub one_more : count_of (S (k + j)) c ≡ suc (count_of (S k) c)

  during : (j c : ℕ) → j ≤ n → (count_of (S (k + j)) c ≡ count_of (S k) c) ⊎ Went j c
  during zero c h = inl (ap (λ i. count_of (S i) c) (add-zero k))
  during (suc j) c h = go (during j c (omega arith)) (one-serving fin n A some (k + j) c)
    where
      next : S (k + suc j) ≡ S (suc (k + j))
      next = ap S (add-suc k j)

      go : (count_of (S (k + j)) c ≡ count_of (S k) c) ⊎ Went j c → (count_of (S (suc (k + j))) c ≡ count_of (S (k + j)) c) ⊎ CountRises fin ((k + j) % n) c (S (k + j)) (S (suc (k + j)))
          → (count_of (S (k + suc j)) c ≡ count_of (S k) c) ⊎ Went (suc j) c
      go (inl a) (inl b) = inl (ap (λ s. count_of s c) next ∙ b ∙ a)
      go (inl a) (inr M) =
          inr (record { serving = j; among = omega arith; its = sym M.its_serving; unfinished = ap (fin c) (sym a) ∙ M.unfinished; one_more = ap (λ s. count_of s c) next ∙ M.one_more ∙ ap suc a })
      go (inr W) (inl b) =
          inr (record { serving = W.serving; among = omega (arith, W.among); its = W.its; unfinished = W.unfinished; one_more = ap (λ s. count_of s c) next ∙ b ∙ W.one_more })
      go (inr W) (inr M) = absurd (distinct n (k + W.serving) (k + j) (omega (arith, W.among)) (omega arith) (W.its ∙ M.its_serving))

  abbrev open? : ℕ → Bool
  open? c = not (fin c (count_of (S k) c))

  rises : (j c : ℕ) → j ≤ n → count_of (S (k + j)) c ≤ count_of (S k) c + one (open? c)
  rises j c h =
      ⊎_elim (λ e. omega arith) (λ (W : Went j c).
      let o : one (open? c) ≡ 1 = ap (λ b. one (not b)) W.unfinished in
      omega (arith, W.one_more)) (during j c h)

  same_length : (j : ℕ) → length (S (k + j)).counts ≡ length (S k).counts
  same_length j = length-counts fin n A some (k + j) ∙ sym (length-counts fin n A some k)

  abbrev u : ℕ
  u = unfinished fin n (S k)

  all-tests : tests open? 0 (length (S k).counts) ≡ u
  unfolding tests
  all-tests = ap (tests open? 0) (length-counts fin n A some k)

  spent-most : (j : ℕ) → j ≤ n → sum (S (k + j)).counts ≤ sum (S k).counts + u
  spent-most j h =
      let m = sum-most open? (S k).counts (S (k + j)).counts 0 (same_length j) (λ x l. let z : 0 + x ≡ x = omega arith in rw z (rises j x h)) in
      omega (arith, all-tests)

  -- as long as an unfinished channel waits, less
  spent-less : (j c : ℕ) → j ≤ n → c < n → fin c (count_of (S k) c) ≡ false → count_of (S (k + j)) c ≡ count_of (S k) c → suc (sum (S (k + j)).counts) ≤ sum (S k).counts + u
  spent-less j c h l f e =
      let z : 0 + c ≡ c = omega arith in
      let m = sum_less open? (S k).counts (S (k + j)).counts 0 (same_length j) (λ x l. let z : 0 + x ≡ x = omega arith in rw z (rises j x h)) c (omega (arith, length-counts fin n A some k))
      (rw z (ap not f)) (omega arith) in
      omega (arith, all-tests)

  -- what is unfinished at the end finds nothing left, so an iteration that is made is made before
  before-end : (i c : ℕ) → c < n → fin c (count_of (S i) c) ≡ false → 0 < (S i).left → suc i ≤ n * A
  before-end i c h f left = elim (dec_le (n * A) i) [
    | yes l ↦
        let e : n * A + (i - n * A) ≡ i = omega arith in
        let u : fin c (count_of (S (n * A)) c) ≡ false = was_unfinished fin n A some (n * A) (i - n * A) c (ap (λ x. fin c (count_of (S x) c)) e ∙ f) in
        let z : (S i).left ≤ (S (n * A)).left = rw e at (left_falls fin n A some (n * A) (i - n * A)) in
        absurd (omega (arith, spent-left fin n A some c h u))
    | no l ↦ omega arith
  ]

  gets-next : (c : ℕ) → c < n → fin c (count_of (S k) c) ≡ false → u ≤ (S k).left → Next fin n A k c
  gets-next c h f enough =
      let t = its_serving n some k c h in
      let j : ℕ = t.0 in
      let same : count_of (S (k + j)) c ≡ count_of (S k) c =
      ⊎_elim (λ e. e) (λ (W : Went j c). absurd (distinct n (k + W.serving) (k + j) (omega (arith, W.among)) (omega (arith, t.1)) (W.its ∙ sym t.2))) (during j c (omega (arith, t.1))) in
      let left : 0 < (S (k + j)).left =
      omega (arith, spent-less j c (omega (arith, t.1)) h f same, sum_left fin n A some (k + j), sum_left fin n A some k) in
      let own = own_serving fin n A some (k + j) c t.2 (ap (fin c) same ∙ f) left in
      record {
        more = suc j;
        in_time = rw (add-suc k j) (before-end (k + j) c h (ap (fin c) same ∙ f) left);
        next = rw (add-suc k j) (own ∙ omega arith);
        within = omega (arith, spent-most (suc j) t.1, sum_left fin n A some (k + suc j), sum_left fin n A some k);
      }

-- for every way of being finished, number of channels and allowance
pub fair : (fin : ℕ → ℕ → Bool) (n A : ℕ) → Fair fin n A
fair fin zero A k c h f e = absurd (not-suc-le-zero h)
fair fin (suc n) A k c h f e = gets-next fin (suc n) A (omega arith) k c h f e
