-- The laws behind the tests of lent costs and records: a turn of each loop, and the tests in their order.
use mathlib.Core.Path.{◌≡◌, refl, sym, ap, ◌∙◌}
use mathlib.Core.Bool.{Bool, true, false, ◌||◌}
use mathlib.Core.Logic.{◌≢◌}
use mathlib.Core.List.{List}
use Prim.Native.Nat.{ℕ, zero, suc, ◌+◌, ◌-◌, ◌*◌, ◌≤◌, ◌<◌, min}
use native.Mathlib.Nat.{mul-le-mul}
use native.Mathlib.Numerals.{add-one}
use native.Mathlib.Omega.{arith}
use lib.Dec.{eqb, leb}
use lib.Pow.{pow_mono}
use lib.ListN.{length, drop, get_or, take, length-take}
use lib.Seq.{length-take-le, drop-drop}
use Rattle.std.specs.List.{list_all}
use Rattle.std.proofs.lemmas.List.{get_or-take}
use Rattle.frame.proofs.Frames.{all_members}
use borrow.Author.Tests.{ne_eqb}
use Rattle.trellis.specs.Lists.{all_to, part}
use Rattle.trellis.specs.Record.{group_length, record_length, record_tests, record_ok}
use Rattle.trellis.specs.Rules.{power_of, size_of, rule_for}
use Rattle.trellis.proofs.Rules.{most-few}
use Rattle.machine.specs.inner.Tables.{bytes_before}
use Rattle.machine.proofs.Lists.{all-not}
use Rattle.frame.specs.Answers.{low_cost, formed_at, records_in}

-- what stands behind a record's shifts has at most 229,369 bytes under any first byte
pub groups_small : (first : ℕ) → group_length (rule_for first) * (size_of first - 1) ≤ 229369
groups_small first =
    let k : group_length (rule_for first) ≤ 7 = omega (arith, most-few first) in
    let p : power_of first ≤ 15 = omega arith in
    let q : size_of first ≤ 32768 = pow_mono p in
    let n : size_of first - 1 ≤ 32767 = omega arith in
    mul-le-mul k n

-- the next record's place
pub place_more : (first : ℕ) (ds : List ℕ) (m at d groups : ℕ) → at ≡ bytes_before first ds m → d ≡ get_or ds m 0 → groups ≡ group_length (rule_for first) * (size_of first - 1) → at + (d + groups) ≡ bytes_before first ds (m + 1)
unfolding bytes_before
place_more first ds m at d groups e i j = rw (add-one m, e, i, j)

-- before the first
pub bytes_none : (first : ℕ) (ds : List ℕ) → bytes_before first ds 0 ≡ 0
unfolding bytes_before
bytes_none first ds = refl

-- the test of each of the first costs of a list
pub low_are : (c : List ℕ) (w : ℕ) → w ≤ length c → list_all (λ c. leb c 510) (take w c) ≡ all_to (low_cost c) w
low_are c w h =
    let l : length (take w c) ≡ w = length-take-le w c h in
    all_members (λ c. leb c 510) (low_cost c) (take w c) (λ i k. ap (λ c. leb c 510) (get_or-take w c i 0 (omega (arith, k, l)))) ∙ ap (all_to (low_cost c)) l

-- the first degrees, by themselves
bytes_taken : (first : ℕ) (ds : List ℕ) (w n : ℕ) → n ≤ w → bytes_before first (take w ds) n ≡ bytes_before first ds n
unfolding bytes_before
bytes_taken first ds w zero h = refl
bytes_taken first ds w (suc n) h = let e : get_or (take w ds) n 0 ≡ get_or ds n 0 = get_or-take w ds n 0 (omega arith) in rw (bytes_taken first ds w n (omega arith), e)

pub records_taken : (first : ℕ) (ds : List ℕ) (w t : ℕ) (s : List ℕ) → w ≤ length ds → records_in first (take w ds) (length (take w ds)) t s ≡ records_in first ds w t s
unfolding records_in
records_taken first ds w t s h = ap (λ b. eqb t 0 || b) (ap (all_to (formed_at first (take w ds) s)) (length-take-le w ds h) ∙ go w (omega arith))
  where
    go : (n : ℕ) → n ≤ w → all_to (formed_at first (take w ds) s) n ≡ all_to (formed_at first ds s) n
    go zero k = refl
    go (suc n) k =
        let e : get_or (take w ds) n 0 ≡ get_or ds n 0 = get_or-take w ds n 0 (omega arith) in
        rw (go n (omega arith), bytes_taken first ds w n (omega arith), e)

-- a turn of the loop over the checks: what is left of the store, of which check m's record is the front
pub rest_all : (first : ℕ) (ds s : List ℕ) → s ≡ drop (bytes_before first ds 0) s
unfolding bytes_before
rest_all first ds s = refl

module _ (first : ℕ) (ds s rest : List ℕ) (m d groups : ℕ) (b : rest ≡ drop (bytes_before first ds m) s) (i : d ≡ get_or ds m 0)
    (j : groups ≡ group_length (rule_for first) * (size_of first - 1)) where
  record-end : d + groups ≡ record_length (rule_for first) (get_or ds m 0)
  record-end = rw (j, i)

  pub rest_more : drop (d + groups) rest ≡ drop (bytes_before first ds (m + 1)) s
  rest_more = rw (b, ← place_more first ds m (bytes_before first ds m) d groups refl i j) (drop-drop (d + groups) (bytes_before first ds m) s)

  -- a record that the store does not hold whole has another length
  pub form_short : (count : ℕ) → m < count → length rest < d + groups → all_to (formed_at first ds s) count ≡ false
  unfolding record_ok record_tests
  form_short count h u =
      let z : length (part s (bytes_before first ds m) (record_length (rule_for first) (get_or ds m 0))) ≢ record_length (rule_for first) (get_or ds m 0) =
      λ e. let a : length (take (d + groups) rest) ≡ d + groups = rw (record-end, b) e in let c : length (take (d + groups) rest) ≡ min (d + groups) (length rest) = length-take _ _ in omega (arith, a, c, u) in
      all-not (formed_at first ds s) m count h (rw (ne_eqb _ _ z))

  module _ (r : Bool) (o : r ≡ record_ok (rule_for first) d (take (d + groups) rest)) where
    formed-is : r ≡ formed_at first ds s m
    formed-is = o ∙ rw (record-end, b, i)

    pub form_more : r ≡ true → all_to (formed_at first ds s) m ≡ true → all_to (formed_at first ds s) (m + 1) ≡ true
    form_more t k = rw (add-one m, k) (sym formed-is ∙ t)

    pub form_fails : r ≡ false → (count : ℕ) → m < count → all_to (formed_at first ds s) count ≡ false
    form_fails t count h = all-not (formed_at first ds s) m count h (sym formed-is ∙ t)
