-- The rounds of the code end with what the call gives.
use mathlib.Core.Path.{◌≡◌, refl, sym, ap, ap₂, ◌∙◌}
use mathlib.Core.Bool.{Bool, true, false, not, ◌||◌, true≢false}
use mathlib.Core.Logic.{◌≢◌}
use mathlib.Core.List.{List, [], ◌∷◌, map, ◌++◌}
use Prim.Native.Nat.{ℕ, zero, suc, ◌*◌, ◌≤◌, ◌<◌}
use native.Mathlib.Nat.{not-suc-le-zero, suc-mul}
use native.Mathlib.Decide.{ℕ_discrete, dec_lt}
use native.Mathlib.Omega.{arith}
use lib.Dec.{eqb}
use lib.ListN.{length, get_or, take, drop, replicate, length-map, length-replicate, get_or-replicate, take-append-drop}
use lib.Seq.{length-take-le, get_or-take, ext_get_or}
use borrow.Author.Tests.{eq-eqb, ne_eqb}
use Rattle.trellis.specs.Lists.{up_to, pick}
use Rattle.trellis.specs.Reply.{Reply, found_in, not_found_in}
use Rattle.trellis.proofs.Lists.{of_up_to}
use Rattle.trellis.proofs.Places.{length-count, map_ext}
use Rattle.machine.specs.CodeLine.{Code, size, frame_fault}
use Rattle.machine.specs.Machine.{settled}
use Rattle.machine.specs.Decoding.{Buffers}
use Rattle.machine.specs.Moments.{Stage, Moment, moment}
use Rattle.machine.proofs.Lists.{at_up_to, map-after}
use Rattle.machine.specs.inner.Accepted.{GoodCode}
use Rattle.machine.specs.inner.InRange.{Below}
use Rattle.machine.proofs.Ranges.{below-take, below-drop}
use Rattle.channels.specs.Serving.{count_of, serve, sum}
use Rattle.channels.specs.Channels.{after, finished, spent_in, answer, received, frame_of, own_of, counted, results}
use Rattle.channels.specs.inner.Rounds.{status_of, Standing, standing, status_at, count_at, loaded_to, rounds_at, Rooms, Asked, reply_by, Ends}
use Rattle.channels.proofs.Servings.{length-counts, sum_left}
use Rattle.channels.proofs.Rounds.{unserved}
use Rattle.channels.proofs.Parts.{length_part, Exact, exact_room, own_exact, received_exact, received-refused}
use Rattle.channels.proofs.Call.{fault_13, value-at, sum-answers}
use Rattle.channels.proofs.Patches.{all_parts}
use Rattle.channels.proofs.Bridge.{ran, ran_at, ran_buffers, ran_ended, ran_status, ran_refused}
use Rattle.channels.proofs.Stands.{Runs, ServedStands, serve-stands}
use Rattle.channels.proofs.Loads.{Loaded, loaded}

-- a status is 20 only while running
twenty_of : (s : Stage) → s.number ≢ 20 → eqb (status_of s) 20 ≡ eqb s.state 1
unfolding status_of
twenty_of s n = go (eqb s.state 1) (eqb s.state 2) (eqb s.state 3)
  where
    go : (a b c : Bool) → eqb (pick a 20 (pick b 0 (pick c 1 s.number))) 20 ≡ a
    go true b c = refl
    go false true c = refl
    go false false true = refl
    go false false false = ne_eqb s.number 20 n

refused-number : (C : Code) (f : List ℕ) (j : ℕ) → frame_fault C f ≢ 0 → status_of (record { state = 4; number = frame_fault C f }) ≡ (answer C f j).number
unfolding answer status_of
refused-number C f j e = rw (ne_eqb (frame_fault C f) 0 e) refl

-- an answer by its status and iterations
answer-by : (C : Code) (f : List ℕ) (j : ℕ) → length f ≡ C.columns * size C → answer C f j ≡ reply_by (answer C f j).number (answer C f j).value
unfolding answer
answer-by C f j e = elim (ℕ_discrete (frame_fault C f) 0) [
  | yes h ↦ rw (h) (go (settled C (after C f j).costs) (eqb j C.limit))
  | no h ↦ rw (ne_eqb (frame_fault C f) 0 h, fault_13 C f e h) refl
]
  where
    go : (a b : Bool) → pick a (found_in j) (pick b (not_found_in j) (spent_in j)) ≡ reply_by (pick a (found_in j) (pick b (not_found_in j) (spent_in j))).number (pick a (found_in j) (pick b (not_found_in j) (spent_in j))).value
    go true b = refl
    go false true = refl
    go false false = refl

-- a list by its first n elements and what follows them
by_front : (l l₀ : List ℕ) (n : ℕ) (g : ℕ → ℕ) → n ≤ length l → ((c : ℕ) → c < n → get_or l c 0 ≡ g c) → drop n l ≡ drop n l₀ → l ≡ map g (up_to n) ++ drop n l₀
by_front l l₀ n g h e r = sym (take-append-drop n l) ∙ ap₂ (λ x y. x ++ y) front r
  where
    long : length (map g (up_to n)) ≡ n
    long = length-map (up_to n) g ∙ length-count 0 n

    front : take n l ≡ map g (up_to n)
    front =
        ext_get_or 0 (take n l) (map g (up_to n)) (length-take-le n l h ∙ sym long) (λ c i.
        let k : c < n = omega (arith, length-take-le n l h) in
        get_or-take n l c 0 k ∙ e c k ∙ sym (at_up_to g n c 0 k))

-- a sum of numbers that are at most m
sum_low : (l : List ℕ) (m : ℕ) → ((c : ℕ) → c < length l → get_or l c 0 ≤ m) → sum l ≤ length l * m
sum_low [] m h = omega arith
sum_low (x ∷ l) m h = omega (arith, h 0 (omega arith), sum_low l m (λ c i. h (suc c) (omega arith)), suc-mul (length l) m)

module _ (C : Code) (n A : ℕ) (fs : List ℕ) (b : Buffers) (K : Asked C n fs b) (s₀ t₀ : List ℕ) (for_status : n ≤ length s₀) (for_counts : n ≤ length t₀)
    (none : (c : ℕ) → c < n → get_or t₀ c 0 ≡ 0) where
  abbrev f : ℕ → List ℕ
  f c = frame_of C fs c

  abbrev own : ℕ → Buffers
  own c = own_of C b c

  abbrev fin : ℕ → ℕ → Bool
  fin c j = finished C (f c) j

  abbrev rn : ℕ → ℕ → Moment
  rn c j = ran C (f c) (own c) j

  abbrev l₀ : Standing
  l₀ = standing s₀ t₀ A b

  G : GoodCode C
  G = K.good

  byte-frame : (c : ℕ) → Below 255 (f c)
  byte-frame c = below-take 255 (C.columns * size C) _ (below-drop 255 (c * (C.columns * size C)) fs K.bytes)

  long-frame : (c : ℕ) → c < n → length (f c) ≡ C.columns * size C
  long-frame c h = length_part fs n (C.columns * size C) c (omega (arith, K.long)) h

  E : (c : ℕ) → c < n → Exact C (own c)
  E c h = own_exact C n b K.room c h

  at-refused : (c j : ℕ) → frame_fault C (f c) ≢ 0 → fin c j ≡ true
  unfolding finished
  at-refused c j x = rw (ne_eqb (frame_fault C (f c)) 0 x) refl

  at-limit : (c : ℕ) → fin c C.limit ≡ true
  unfolding finished
  at-limit c = rw (eq-eqb C.limit C.limit refl) (go (not (eqb (frame_fault C (f c)) 0)) (settled C (after C (f c) C.limit).costs))
    where
      go : (a b : Bool) → (a || (b || true)) ≡ true
      go true b = refl
      go false true = refl
      go false false = refl

  -- a refused channel is only met at 0
  only_none : (c j : ℕ) → frame_fault C (f c) ≢ 0 → ((i : ℕ) → i < j → fin c i ≡ false) → j ≡ 0
  only_none c zero x u = refl
  only_none c (suc j) x u = absurd (true≢false (sym (at-refused c 0 x) ∙ u 0 (omega arith)))

  ran-none : (c j : ℕ) → frame_fault C (f c) ≢ 0 → j ≡ 0 → rn c j ≡ moment 4 (frame_fault C (f c)) 0 (own c)
  ran-none c j x e = rw e (ran_refused C (f c) (own c) x)

  runs : Runs C n fin rn l₀
  unfolding ran
  runs =
      record {
        next = λ c j h. refl;
        ends = λ c j h u. elim (ℕ_discrete (frame_fault C (f c)) 0) [
          | yes e ↦ ran_ended C G (f c) (own c) e (exact_room C (own c) (E c h)) (byte-frame c) j u
          | no e ↦ at-refused c j e ∙ sym (ap (λ (m : Moment). not (eqb m.stage.state 1)) (ran-none c j e (only_none c j e u)))
        ];
        twenty = λ c j h u. elim (ℕ_discrete (frame_fault C (f c)) 0) [
          | yes e ↦ twenty_of (rn c j).stage (λ k.
              absurd (not-twenty 0 (sym (ap (λ (m : Moment). m.stage.number) (ran_at C G (f c) (own c) e (exact_room C (own c) (E c h)) (byte-frame c) j)) ∙ k) (omega arith)))
          | no e ↦ twenty_of (rn c j).stage (λ k.
              absurd (not-twenty 13 (sym (fault_13 C (f c) (long-frame c h) e) ∙ sym (ap (λ (m : Moment). m.stage.number) (ran-none c j e (only_none c j e u))) ∙ k) (omega arith)))
        ];
        exact = λ c j h u. elim (ℕ_discrete (frame_fault C (f c)) 0) [
          | yes e ↦ rw (ran_buffers C G (f c) (own c) e (exact_room C (own c) (E c h)) (byte-frame c) j) (received_exact C G (f c) (byte-frame c) j (own c) (E c h))
          | no e ↦ rw (ran-none c j e (only_none c j e u)) (E c h)
        ];
      }
    where
      not-twenty : (x : ℕ) → x ≡ 20 → x ≤ 13 → ⊥
      not-twenty x e h = omega arith

  rooms : Rooms C n l₀
  rooms = record { for_status = for_status; for_counts = for_counts; room = K.room }

  L : Loaded C fs n l₀ rooms K.long n (loaded_to C fs n l₀)
  L = loaded C fs n l₀ rooms K.long

  -- after the loads the code stands where the service begins
  begins : ServedStands C n fin rn l₀ (unserved fin n A) (loaded_to C fs n l₀)
  unfolding ran
  begins =
      record {
        until = λ c h i k. absurd (not-suc-le-zero (rw (zeros c h) at k));
        counts = λ c h. ap (λ t. get_or t c 0) L.counts ∙ none c h ∙ sym (zeros c h);
        left = L.left;
        status = λ c h. rw (zeros c h) (L.status c h);
        parts = λ c h. rw (zeros c h) (L.parts c h);
        long = length-replicate n 0;
        rooms = L.rooms;
        untouched = L.untouched;
      }
    where
      zeros : (c : ℕ) → c < n → count_of (unserved fin n A) c ≡ 0
      zeros c h = get_or-replicate n c 0 0 h

  abbrev end : Standing
  end = rounds_at C n A (loaded_to C fs n l₀)

  S : ServedStands C n fin rn l₀ (serve fin n A) end
  S = serve-stands C n fin rn l₀ runs A (loaded_to C fs n l₀) begins

  abbrev j : ℕ → ℕ
  j c = count_of (serve fin n A) c

  -- at the end each status and count is the channel's answer, and its parts hold what it receives
  pub status_is : (c : ℕ) → c < n → status_at end c ≡ (answer C (f c) (j c)).number
  status_is c h =
      S.status c h
      ∙ elim (ℕ_discrete (frame_fault C (f c)) 0) [
        | yes e ↦ ran_status C G (f c) (own c) e (exact_room C (own c) (E c h)) (byte-frame c) (j c) (S.until c h)
        | no e ↦ ap (λ (m : Moment). status_of m.stage) (ran-none c (j c) e (only_none c (j c) e (S.until c h))) ∙ refused-number C (f c) (j c) e
      ]

  pub parts_are : (c : ℕ) → c < n → own_of C end.buffers c ≡ received C (f c) (j c) (own c)
  parts_are c h =
      S.parts c h
      ∙ elim (ℕ_discrete (frame_fault C (f c)) 0) [
        | yes e ↦ ran_buffers C G (f c) (own c) e (exact_room C (own c) (E c h)) (byte-frame c) (j c)
        | no e ↦ ap (λ (m : Moment). m.buffers) (ran-none c (j c) e (only_none c (j c) e (S.until c h))) ∙ sym (received-refused C (f c) (j c) (own c) e)
      ]

  pub counts_are : (c : ℕ) → c < n → count_at end c ≡ (answer C (f c) (j c)).value
  unfolding counted
  counts_are c h = S.counts c h ∙ sym (value-at C n A fs K.count_low K.long c h)

  answers-are : (results C n A fs b).answers ≡ map (λ c. answer C (f c) (j c)) (up_to n)
  unfolding results counted
  answers-are = refl

  spent-sum : (results C n A fs b).spent ≡ sum (serve fin n A).counts
  unfolding results counted
  spent-sum = sum-answers C n A fs K.count_low K.long

  few : (c : ℕ) → c < n → j c ≤ C.limit
  few c h = elim (dec_lt C.limit (j c)) [
    | yes k ↦ absurd (true≢false (sym (at-limit c) ∙ S.until c h C.limit k))
    | no k ↦ omega arith
  ]

  pub service_ends : Ends C n A fs b l₀ end
  unfolding results counted
  service_ends =
      record {
        spent = omega (arith, spent-sum, sum_left fin n A K.count_low (n * A), S.left);
        spent-most = omega (
          arith,
          sum_left fin n A K.count_low (n * A),
          S.left,
          most,
        );
        answers = answers-are ∙ map_ext (λ c i.
            let h : c < n = of_up_to i in
            answer-by C (f c) (j c) (long-frame c h) ∙ ap₂ reply_by (sym (status_is c h)) (sym (counts_are c h)));
        status =
            by_front end.status s₀ n (λ c. (answer C (f c) (j c)).number) S.rooms.for_status status_is S.untouched.status
            ∙ ap (λ l. l ++ drop n s₀) (sym (ap (map (λ (a : Reply). a.number)) answers-are ∙ map-after (λ (a : Reply). a.number) (λ c. answer C (f c) (j c)) (up_to n)));
        counts =
            by_front end.counts t₀ n (λ c. (answer C (f c) (j c)).value) S.rooms.for_counts counts_are S.untouched.counts
            ∙ ap (λ l. l ++ drop n t₀) (sym (ap (map (λ (a : Reply). a.value)) answers-are ∙ map-after (λ (a : Reply). a.value) (λ c. answer C (f c) (j c)) (up_to n)));
        buffers =
            all_parts C n b end.buffers (λ c. received C (f c) (j c) (own c)) S.untouched.buffers parts_are;
      }
    where
      most : sum (serve fin n A).counts ≤ n * C.limit
      most =
          let e : length (serve fin n A).counts ≡ n = length-counts fin n A K.count_low (n * A) in
          rw e at (sum_low (serve fin n A).counts C.limit (λ c i. few c (omega arith)))

-- with lists of eight zeros
pub eight-end : (C : Code) (n A : ℕ) (fs : List ℕ) (b : Buffers) → Asked C n fs b
    → Ends C n A fs b (standing (replicate 8 0) (replicate 8 0) A b) (rounds_at C n A (loaded_to C fs n (standing (replicate 8 0) (replicate 8 0) A b)))
eight-end C n A fs b K =
    service_ends C n A fs b K (replicate 8 0) (replicate 8 0) K.count-high K.count-high (λ c h. get_or-replicate 8 c 0 0 (omega (arith, K.count-high)))
