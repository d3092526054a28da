-- The call: each channel's answer and what it finds in its parts of the buffers.
use mathlib.Core.Path.{◌≡◌, refl, sym, ap, ◌∙◌}
use mathlib.Core.Bool.{Bool, true, false, not, ◌||◌}
use mathlib.Core.Logic.{◌≢◌, ◌⊎◌, inl, inr, ⊎_elim}
use mathlib.Core.List.{List, [], map}
use Prim.Native.Nat.{ℕ, zero, suc, ◌*◌, ◌≤◌, ◌<◌}
use native.Mathlib.Omega.{arith}
use lib.Dec.{eqb}
use lib.ListN.{length, get_or, length-map}
use lib.Seq.{ext_get_or}
use borrow.Author.Tests.{eqb-true, eqb-false, ne_eqb, eq-eqb}
use Rattle.trellis.specs.Lists.{up_to, pick, all_to}
use Rattle.trellis.specs.Refusals.{Test, refused_by, fault_by}
use Rattle.trellis.specs.Reply.{Reply, refusal, found_in, not_found_in}
use Rattle.trellis.proofs.Lists.{of_up_to}
use Rattle.trellis.proofs.Places.{length-count, map_ext}
use Rattle.machine.specs.CodeLine.{Read, good, bad, parse, Code, size, zero_in, frame_fault}
use Rattle.machine.specs.Machine.{settled}
use Rattle.machine.proofs.Lists.{at_up_to, map-after}
use Rattle.machine.specs.inner.Accepted.{GoodCode}
use Rattle.trellis.proofs.Refusals.{Numbered, Passed}
use Rattle.machine.proofs.Lines.{parse-good}
use Rattle.machine.specs.inner.InRange.{Below}
use Rattle.machine.proofs.Ranges.{below-take, below-drop}
use Rattle.machine.specs.Decoding.{Buffers}
use Rattle.channels.specs.Serving.{count_of, sum}
use Rattle.channels.specs.Channels.{after, finished, spent_in, answer, received, frame_of, own_of, Results, refusing, counted, answers_of, results, count_tests, tests_for, under, channels}
use Rattle.channels.specs.Claims.{nothing, IsServed, answer_at, ChannelsWhole, ChannelsFoundFirst, ChannelsFair, ChannelsSum, ChannelsAlone, ChannelsRefused}
use Rattle.channels.specs.inner.Rounds.{RoomFor}
use Rattle.channels.proofs.Servings.{length-counts, sum_left, unfinished-before, spent-left}
use Rattle.channels.proofs.Fairness.{fair}
use Rattle.channels.proofs.Alone.{after_none, alone}
use Rattle.channels.proofs.Refused.{TableGives, told, count_numbered, count_passed, whole_numbered, whole_passed}
use Rattle.channels.proofs.Parts.{length_part, exact_room, own_exact, own_together, received_exact, received-refused}

-- none of the refusals of the whole call
pub record Open (n A : ℕ) (code fs : List ℕ) (b : Buffers) (C : Code) : Type 0 where
  pub some : 0 < n
  pub long : length fs ≡ n * (C.columns * size C)
  pub room : RoomFor C n b
  pub are : channels n A code fs b ≡ results C n A fs b

pub open_of : (n A : ℕ) (code fs : List ℕ) (b : Buffers) (C : Code) → IsServed n A code fs b C → Open n A code fs b C
unfolding channels
open_of n A code fs b C I =
    go (told (λ k. refusing k b) (under (good C) n A fs b) (count_tests n A) (count_numbered n A))
    (told (λ k. refusing k b) (results C n A fs b) (tests_for C n fs b) (whole_numbered C n fs b))
  where
    same : channels n A code fs b ≡ refused_by (count_tests n A) (λ k. refusing k b) (under (good C) n A fs b)
    same = rw I.line

    open_by : Passed (count_tests n A) → Passed (tests_for C n fs b) → channels n A code fs b ≡ results C n A fs b → Open n A code fs b C
    open_by P Q e = record { some = (count_passed n A P).0; long = (whole_passed C n fs b Q).0; room = (whole_passed C n fs b Q).1; are = e }

    number : (k : ℕ) → channels n A code fs b ≡ refusing k b → k ≡ 0
    number k e = ap (λ r. r.number) (sym e) ∙ I.served

    go : TableGives (λ k. refusing k b) (under (good C) n A fs b) (Passed (count_tests n A)) (fault_by (count_tests n A)) (refused_by (count_tests n A) (λ k. refusing k b) (under (good C) n A fs b))
        → TableGives (λ k. refusing k b) (results C n A fs b) (Passed (tests_for C n fs b)) (fault_by (tests_for C n fs b)) (under (good C) n A fs b) → Open n A code fs b C
    go (inr s) t = absurd (omega (arith, number _ (same ∙ s.1)))
    go (inl s) (inr t) = absurd (omega (arith, number _ (same ∙ s.2 ∙ t.1)))
    go (inl s) (inl t) = open_by s.0 t.0 (same ∙ s.2 ∙ t.2)

pub fault_13 : (C : Code) (f : List ℕ) → length f ≡ C.columns * size C → frame_fault C f ≢ 0 → frame_fault C f ≡ 13
unfolding frame_fault
fault_13 C f e n = go (all_to (zero_in (size C) f) C.columns) (rw k at n)
  where
    k : eqb (length f) (C.columns * size C) ≡ true
    k = eq-eqb (length f) (C.columns * size C) e

    go : (b : Bool) → ◌≢◌ {A = ℕ} (pick b 0 13) 0 → ◌≡◌ {A = ℕ} (pick (eqb (length f) (C.columns * size C)) (pick b 0 13) 12) 13
    go true n = absurd (n refl)
    go false n = rw k

-- what an answer says of its channel
pub answer_cases : (C : Code) (f : List ℕ) (j : ℕ) → length f ≡ C.columns * size C
    → ((frame_fault C f ≡ 0) × ((answer C f j).refused ≡ false) × ((answer C f j).value ≡ j) × ((answer C f j).number ≡ 20 → finished C f j ≡ false))
    ⊎ ((frame_fault C f ≢ 0) × (answer C f j ≡ refusal 13) × (finished C f j ≡ true))
unfolding answer finished
answer_cases C f j e = go (eqb (frame_fault C f) 0) refl (settled C (after C f j).costs) (eqb j C.limit)
  where
    go : (a : Bool) → eqb (frame_fault C f) 0 ≡ a → (b c : Bool)
        → ((frame_fault C f ≡ 0) × ((pick a (pick b (found_in j) (pick c (not_found_in j) (spent_in j))) (refusal (frame_fault C f))).refused ≡ false)
        × ((pick a (pick b (found_in j) (pick c (not_found_in j) (spent_in j))) (refusal (frame_fault C f))).value ≡ j)
        × ((pick a (pick b (found_in j) (pick c (not_found_in j) (spent_in j))) (refusal (frame_fault C f))).number ≡ 20 → (not a || (b || c)) ≡ false))
        ⊎ ((frame_fault C f ≢ 0) × (pick a (pick b (found_in j) (pick c (not_found_in j) (spent_in j))) (refusal (frame_fault C f)) ≡ refusal 13) × ((not a || (b || c)) ≡ true))
    go true h true c = inl (eqb-true _ _ h, refl, refl, λ z. absurd (omega arith))
    go true h false true = inl (eqb-true _ _ h, refl, refl, λ z. absurd (omega arith))
    go true h false false = inl (eqb-true _ _ h, refl, refl, λ z. refl)
    go false h b c = let n = eqb-false (frame_fault C f) 0 h in inr (n, ap refusal (fault_13 C f e n), refl)

as_map : (l : List ℕ) → map (λ c. get_or l c 0) (up_to (length l)) ≡ l
as_map l =
    ext_get_or 0 (map (λ c. get_or l c 0) (up_to (length l))) l (length-map (up_to (length l)) (λ c. get_or l c 0) ∙ length-count 0 (length l))
    (λ n h. at_up_to (λ c. get_or l c 0) (length l) n 0 (omega (arith, length-map (up_to (length l)) (λ c. get_or l c 0), length-count 0 (length l))))

-- the channels under a code, none of the refusals of the whole call applying
module _ (C : Code) (n A : ℕ) (fs : List ℕ) (some : 0 < n) (long : length fs ≡ n * (C.columns * size C)) where
  abbrev pub j : ℕ → ℕ
  j c = count_of (counted C n A fs) c

  pub long-frame : (c : ℕ) → c < n → length (frame_of C fs c) ≡ C.columns * size C
  long-frame c h = length_part fs n (C.columns * size C) c (omega arith) h

  pub before : (c i : ℕ) → i < j c → finished C (frame_of C fs c) i ≡ false
  unfolding counted
  before c i h = unfinished-before (λ c. finished C (frame_of C fs c)) n A some (n * A) c i h

  -- a refused channel is finished from the start
  refused_none : (f : List ℕ) (k : ℕ) → ((i : ℕ) → i < k → finished C f i ≡ false) → frame_fault C f ≢ 0 → 0 ≡ k
  unfolding finished
  refused_none f zero g x = refl
  refused_none f (suc k) g x =
      let e : (not (eqb (frame_fault C f) 0) || (settled C (after C f 0).costs || eqb 0 C.limit)) ≡ true = rw (ne_eqb (frame_fault C f) 0 x) refl in
      let d = g 0 (omega arith) in
      let z : ◌≡◌ {A = ℕ} 0 1 = cc in absurd (omega arith)

  -- an answer's iterations are the channel's
  pub value-at : (c : ℕ) → c < n → (answer C (frame_of C fs c) (j c)).value ≡ j c
  value-at c h =
      ⊎_elim (λ x. x.2) (λ x. rw x.1 (refused_none (frame_of C fs c) (j c) (before c) x.0)) (answer_cases C (frame_of C fs c) (j c) (long-frame c h))

  pub sum-answers : sum (map (λ a. a.value) (answers_of C n A fs)) ≡ sum (counted C n A fs).counts
  unfolding counted
  sum-answers =
      ap sum
      (map-after (λ (a : Reply). a.value) (λ c. answer C (frame_of C fs c) (j c)) (up_to n)
      ∙ map_ext (λ c i. value-at c (of_up_to i))
      ∙ ap (λ k. map j (up_to k)) (sym (length-counts (λ c. finished C (frame_of C fs c)) n A some (n * A)))
      ∙ as_map (counted C n A fs).counts)

module _ (n A : ℕ) (code fs : List ℕ) (b : Buffers) (C : Code) (I : IsServed n A code fs b C) where
  O : Open n A code fs b C
  O = open_of n A code fs b C I

  G : GoodCode C
  G = parse-good code C I.line

  abbrev i : ℕ → ℕ
  i c = count_of (counted C n A fs) c

  frame-long : (c : ℕ) → c < n → length (frame_of C fs c) ≡ C.columns * size C
  frame-long = long-frame C n A fs O.some O.long

  unfinished : (c k : ℕ) → k < i c → finished C (frame_of C fs c) k ≡ false
  unfinished = before C n A fs O.some O.long

  value_is : (c : ℕ) → c < n → (answer C (frame_of C fs c) (i c)).value ≡ i c
  value_is = value-at C n A fs O.some O.long

  byte-frame : (c : ℕ) → Below 255 (frame_of C fs c)
  byte-frame c = below-take 255 (C.columns * size C) _ (below-drop 255 (c * (C.columns * size C)) fs I.bytes)

  answer_at_lem : (c : ℕ) → c < n → answer_at (channels n A code fs b) c ≡ answer C (frame_of C fs c) (i c)
  unfolding results
  answer_at_lem c h = rw O.are (at_up_to (λ c. answer C (frame_of C fs c) (i c)) n c nothing h)

  buffers-at : (c : ℕ) → c < n → own_of C (channels n A code fs b).buffers c ≡ received C (frame_of C fs c) (i c) (own_of C b c)
  unfolding results
  buffers-at c h =
      rw O.are
      (own_together C n (λ c. received C (frame_of C fs c) (i c) (own_of C b c)) b (λ m k. received_exact C G (frame_of C fs m) (byte-frame m) (i m) (own_of C b m) (own_exact C n b O.room m k)) c h)

  spent_is : (channels n A code fs b).spent ≡ sum (counted C n A fs).counts
  unfolding results
  spent_is = rw O.are (sum-answers C n A fs O.some O.long)

  spent-low : (channels n A code fs b).spent ≤ A
  unfolding counted
  spent-low = omega (arith, spent_is, sum_left (λ c. finished C (frame_of C fs c)) n A O.some (n * A))

  spent_all : (c : ℕ) → c < n → finished C (frame_of C fs c) (i c) ≡ false → (channels n A code fs b).spent ≡ A
  unfolding counted
  spent_all c h u = omega (arith, spent_is, sum_left (λ c. finished C (frame_of C fs c)) n A O.some (n * A), spent-left (λ c. finished C (frame_of C fs c)) n A O.some c h u)

  spent-answers : (channels n A code fs b).spent ≡ sum (map (λ a. a.value) (channels n A code fs b).answers)
  unfolding results
  spent-answers = rw O.are

pub channels_alone : ChannelsAlone
unfolding answer
channels_alone n A code fs b C I c h r =
    ⊎_elim (λ x.
    let k = value_is n A code fs b C I c h in
    rw (answer_at_lem n A code fs b C I c h, k, buffers-at n A code fs b C I c h)
    (alone code (frame_of C fs c) C _ (own_of C b c) I.line x.0 (exact_room C (own_of C b c) (own_exact C n b (O n A code fs b C I).room c h)) (unfinished n A code fs b C I c)))
    (λ x.
    let e : true ≡ false = ap (λ (a : Reply). a.refused) (sym x.1) ∙ ap (λ (a : Reply). a.refused) (sym (answer_at_lem n A code fs b C I c h)) ∙ r in
    let z : ◌≡◌ {A = ℕ} 0 1 = cc in absurd (omega arith))
    (answer_cases C (frame_of C fs c) (count_of (counted C n A fs) c) (frame-long n A code fs b C I c h))

pub channels-refused : ChannelsRefused
channels-refused n A code fs b C I c h r =
    ⊎_elim (λ x.
    let e : false ≡ true = sym x.1 ∙ ap (λ (a : Reply). a.refused) (sym (answer_at_lem n A code fs b C I c h)) ∙ r in
    let z : ◌≡◌ {A = ℕ} 0 1 = cc in absurd (omega arith))
    (λ x. (answer_at_lem n A code fs b C I c h ∙ x.1, buffers-at n A code fs b C I c h ∙ untouched (frame_of C fs c) (count_of (counted C n A fs) c) (own_of C b c) x.0))
    (answer_cases C (frame_of C fs c) (count_of (counted C n A fs) c) (frame-long n A code fs b C I c h))
  where
    untouched : (f : List ℕ) (j : ℕ) (own : Buffers) → frame_fault C f ≢ 0 → received C f j own ≡ own
    untouched f j own x = received-refused C f j own x

pub channels-sum : ChannelsSum
channels-sum n A code fs b C I = (
  spent-answers n A code fs b C I,
  spent-low n A code fs b C I,
  λ c h e.
      ⊎_elim (λ x. spent_all n A code fs b C I c h (x.3 (ap (λ (a : Reply). a.number) (sym (answer_at_lem n A code fs b C I c h)) ∙ e)))
      (λ x. let z : 13 ≡ 20 = ap (λ (a : Reply). a.number) (sym x.1) ∙ ap (λ (a : Reply). a.number) (sym (answer_at_lem n A code fs b C I c h)) ∙ e in absurd (omega arith))
      (answer_cases C (frame_of C fs c) (count_of (counted C n A fs) c) (frame-long n A code fs b C I c h)),
)

pub channels_found_first : ChannelsFoundFirst
unfolding answer finished
channels_found_first n A code fs b C I c h e s =
    let k : count_of (counted C n A fs) c ≡ 0 = none (count_of (counted C n A fs) c) (unfinished n A code fs b C I c) in
    answer_at_lem n A code fs b C I c h ∙ rw (k, e, after_none C (frame_of C fs c), s) refl
  where
    none : (j : ℕ) → ((i : ℕ) → i < j → finished C (frame_of C fs c) i ≡ false) → j ≡ 0
    none zero g = refl
    none (suc j) g =
        let t : finished C (frame_of C fs c) 0 ≡ true = rw (e, after_none C (frame_of C fs c), s) refl in
        let z : ◌≡◌ {A = ℕ} 0 1 = let d = g 0 (omega arith) in cc in absurd (omega arith)

pub channels_fair : ChannelsFair
channels_fair n A code fs b C I = fair (λ c. finished C (frame_of C fs c)) n A

abbrev Unchanged : Buffers → Results → Type 0
Unchanged b r = (r.spent ≡ 0) × (r.answers ≡ []) × (r.buffers ≡ b)

pub channels_whole : ChannelsWhole
unfolding channels results
channels_whole n A code fs b h = by (count_tests n A) (count_numbered n A) (under (parse code) n A fs b) (whole (parse code)) h
  where
    -- a table refuses without a change, or hands on
    by : (l : List Test) → Numbered l → (x : Results) → (x.number ≢ 0 → Unchanged b x) → (refused_by l (λ k. refusing k b) x).number ≢ 0
        → Unchanged b (refused_by l (λ k. refusing k b) x)
    by l N x g = go (refused_by l (λ k. refusing k b) x) (told (λ k. refusing k b) x l N)
      where
        go : (r : Results) → TableGives (λ k. refusing k b) x (Passed l) (fault_by l) r → r.number ≢ 0 → Unchanged b r
        go r (inl t) h = rw t.2 (g (λ e. h (ap (λ (r : Results). r.number) t.2 ∙ e)))
        go r (inr t) h = rw t.1 (refl, refl, refl)

    whole : (r : Read Code) → (under r n A fs b).number ≢ 0 → Unchanged b (under r n A fs b)
    whole (bad k) h = (refl, refl, refl)
    whole (good C) h = by (tests_for C n fs b) (whole_numbered C n fs b) (results C n A fs b) (λ i. absurd (i refl)) h
