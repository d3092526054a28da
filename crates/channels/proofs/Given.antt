-- From the tests of the whole call and from where the channels stand at the end to the struct that it answers by.
use mathlib.Core.Path.{◌≡◌, refl, sym, ap, subst, ◌∙◌}
use mathlib.Core.List.{List, map, ◌++◌}
use Prim.Native.Nat.{ℕ, zero, suc, ◌-◌, ◌*◌, ◌≤◌, ◌<◌}
use native.Mathlib.Nat.{mul-le-mul, not-suc-le-zero, le_of_suc-le-suc}
use native.Mathlib.Omega.{arith}
use borrow.Author.Tests.{ne_eqb, le-ltb}
use lib.ListN.{length, get_or, drop, replicate, length-map, get_or-replicate}
use Rattle.trellis.specs.Lists.{up_to}
use Rattle.trellis.specs.Refusals.{fault_by}
use Rattle.trellis.specs.Reply.{Reply}
use Rattle.trellis.proofs.Places.{length-count}
use Rattle.machine.specs.CodeLine.{good, Code, size, numbers_of, parse}
use Rattle.machine.specs.Decoding.{Buffers, lending}
use Rattle.trellis.proofs.Refusals.{Passed}
use Rattle.machine.proofs.Rooms.{used_high}
use Rattle.std.specs.Prelude.{Result, Err}
use Rattle.refusal.specs.Numbers.{number_of}
use Rattle.refusal.specs.declared.Refusal.{Refusal}
use Rattle.codeline.specs.declared.answers.Numbers.{Numbers}
use Rattle.codeline.specs.declared.code.Code.{Code as LentCode}
use Rattle.codeline.specs.Codes.{lent_code}
use Rattle.codeline.specs.Answers.{header_numbers}
use Rattle.codeline.proofs.Answered.{header_refused}
use Rattle.channels.specs.declared.layout.Layout.{Layout}
use Rattle.channels.specs.Channels.{Results, results, refusing, count_tests, tests_for, under, channels}
use Rattle.channels.specs.inner.Rounds.{Standing, standing, RoomFor, Asked, Ends, reply_by, status_at, count_at}
use Rattle.channels.specs.Answers.{Gives}
use Rattle.channels.specs.inner.Served.{served_by, GivesBy}
use Rattle.channels.specs.inner.Layouts.{code_for, count_fault, fault_for, LoadsRoom, run_at, ServiceRoom}
use Rattle.trellis.proofs.Refusals.{refused-by, passed_by, none_applies}
use Rattle.channels.proofs.Refused.{count_numbered, count_passed, whole_numbered, whole_passed}
use Rattle.channels.proofs.Ends.{eight-end}
use Rattle.channels.proofs.Serves.{serves_loaded}

-- what is left of eight zeros
drop-zeros : (m n : ℕ) → n ≤ m → drop n (replicate {A = ℕ} m 0) ≡ replicate (m - n) 0
drop-zeros m zero h = let e : m ≡ m - 0 = omega arith in ap (λ k. replicate k 0) e
drop-zeros zero (suc n) h = absurd (not-suc-le-zero h)
drop-zeros (suc m) (suc n) h = let e : m - n ≡ suc m - suc n = omega arith in drop-zeros m n (le_of_suc-le-suc h) ∙ ap (λ k. replicate k 0) e

-- 21 and 22
module _ (n A k : ℕ) (e : k ≡ count_fault n A) where
  pub count_refused : (k ≡ 0 → ⊥) → (code fs : List ℕ) (b : Buffers) → channels n A code fs b ≡ refusing k b
  unfolding channels count_fault
  count_refused h code fs b =
      refused-by (count_tests n A) (count_numbered n A) k e h (λ k. refusing k b) (under (parse code) n A fs b)

  pub count_passes : k ≡ 0 → (1 ≤ n) × (n ≤ 8) × (0 < A)
  unfolding count_fault
  count_passes h = count_passed n A (none_applies (count_tests n A) (count_numbered n A) (sym e ∙ h))

-- with these passed, the code decides
pub passed_under : (n A : ℕ) (code fs : List ℕ) (b : Buffers) → 1 ≤ n → n ≤ 8 → 0 < A → channels n A code fs b ≡ under (parse code) n A fs b
unfolding channels
passed_under n A code fs b i j k = rw (le-ltb n 1 i, le-ltb 8 n j, ne_eqb A 0 (λ e. omega arith))

-- a channel's records, so that eight times their length fits
pub store_low : (z : Layout) → z.store ≤ 65535
store_low z = omega (arith, z.store_is, used_high (code_for z) z.code.coded.good)

module _ (z : Layout) (n A : ℕ) (low : 1 ≤ n) (high : n ≤ 8)
    (fs y p s v : List ℕ) (k : ℕ) (e : k ≡ fault_for n z (length fs) (length y) (length p) (length s) (length v)) where
  abbrev C : Code
  C = code_for z

  abbrev b : Buffers
  b = lending y p s v

  fault_is : k ≡ fault_by (tests_for C n fs b)
  unfolding fault_for
  fault_is = e ∙ rw (z.columns_is, z.costs_is, z.store_is)

  -- 12, 2, 3, 4, 19
  pub whole_refused : (k ≡ 0 → ⊥) → under (good C) n A fs b ≡ refusing k b
  whole_refused h =
      refused-by (tests_for C n fs b) (whole_numbered C n fs b) k fault_is h (λ k. refusing k b) (results C n A fs b)

  module _ (h : k ≡ 0) (bytes : (i : ℕ) → get_or fs i 0 ≤ 255) where
    passes : Passed (tests_for C n fs b) × (under (good C) n A fs b ≡ results C n A fs b)
    passes =
        (none_applies (tests_for C n fs b) (whole_numbered C n fs b) (sym fault_is ∙ h), passed_by (tests_for C n fs b) (whole_numbered C n fs b) k fault_is h (λ k. refusing k b) (results C n A fs b))

    long : length fs ≡ n * (C.columns * size C)
    long = (whole_passed C n fs b passes.0).0

    room : RoomFor C n b
    room = (whole_passed C n fs b passes.0).1

    asked : Asked C n fs b
    asked = record { good = z.code.coded.good; count_low = low; count-high = high; long = long; room = room; bytes = bytes }

    abbrev l₀ : Standing
    l₀ = standing (replicate 8 0) (replicate 8 0) A b

    loads_room : LoadsRoom n z fs l₀
    loads_room = record { frames = long; rooms = record { for_status = high; for_counts = high; room = room } }

    -- and what the service gives at its end
    module _ (l : Standing) (o : l ≡ run_at C fs n l₀) where
      E : Ends C n A fs b l₀ l
      E = rw o (eight-end C n A fs b asked)

      count-answers : length (results C n A fs b).answers ≡ n
      count-answers = ap length E.answers ∙ length-map (up_to n) (λ c. reply_by (status_at l c) (count_at l c)) ∙ length-count 0 n

      zeros-left : drop n (replicate {A = ℕ} 8 0) ≡ replicate (8 - length (results C n A fs b).answers) 0
      zeros-left = drop-zeros 8 n high ∙ ap (λ k. replicate (8 - k) 0) (sym count-answers)

      results-number : (results C n A fs b).number ≡ 0
      unfolding results
      results-number = refl

      pub gives : (x y : ℕ) (p q : List ℕ) (b' : Buffers) → x ≡ 0 → y ≡ A - l.left → p ≡ l.status → q ≡ l.counts → b' ≡ l.buffers
          → Gives (under (good C) n A fs b) x y p q b'
      gives x y p q b' i j u v w =
          let r : b' ≡ (results C n A fs b).buffers = w ∙ E.buffers in
          rw passes.1
          record {
            number_is = i ∙ sym results-number;
            spent_is = j ∙ sym E.spent;
            status_is = u ∙ E.status ∙ ap (λ r. map (λ (a : Reply). a.number) (results C n A fs b).answers ++ r) zeros-left;
            iterations_is = v ∙ E.counts ∙ ap (λ r. map (λ (a : Reply). a.value) (results C n A fs b).answers ++ r) zeros-left;
            symbols-then = ap (λ (w : Buffers). w.symbols) r;
            costs-then = ap (λ (w : Buffers). w.costs) r;
            store_then = ap (λ (w : Buffers). w.store) r;
            margins-then = ap (λ (w : Buffers). w.margins) r;
          }

    -- the service may run
    pub runs : ServiceRoom n z fs l₀
    runs =
        let m : n * C.limit ≤ 8 * 255 = mul-le-mul high z.limit_is_byte in
        record {
          loads = loads_room;
          serves = serves_loaded C z.code.coded.good n fs l₀ loads_room.rooms long bytes (λ c i. get_or-replicate 8 c 0 0 (omega arith));
          spent = omega (arith, (E (run_at C fs n l₀) refl).spent-most);
        }

-- a call that is refused
pub refusal_gives : (r : Refusal) (R : Results) (b : Buffers) → R ≡ refusing (number_of r) b → GivesBy R (served_by (Err r)) b
refusal_gives r R b e =
    rw e
    record {
      number_is = refl;
      spent_is = refl;
      status_is = refl;
      iterations_is = refl;
      symbols-then = refl;
      costs-then = refl;
      store_then = refl;
      margins-then = refl;
    }

-- a line that is refused
pub line_refused : (s₀ : List ℕ) (h : Result Numbers Refusal) → header_numbers h ≡ numbers_of (parse s₀) → (n A : ℕ) → 1 ≤ n → n ≤ 8 → 0 < A → (r : Refusal) → h ≡ Err r
    → (fs : List ℕ) (b : Buffers) → channels n A s₀ fs b ≡ refusing (number_of r) b
line_refused s₀ h e n A i j l r o fs b = passed_under n A s₀ fs b i j l ∙ ap (λ r. under r n A fs b) (header_refused s₀ h e r o)

-- and one that says a code
pub line_gives : (c : LentCode) (s₀ : List ℕ) → parse s₀ ≡ good (lent_code c) → (n A : ℕ) → 1 ≤ n → n ≤ 8 → 0 < A → (m : ℕ) → m ≡ n → (fs : List ℕ) (b : Buffers)
    → (x y : ℕ) (p q : List ℕ) (b' : Buffers) → Gives (under (good (lent_code c)) m A fs b) x y p q b' → Gives (channels n A s₀ fs b) x y p q b'
line_gives c s₀ e n A i j l m o fs b x y p q b' W =
    subst (λ (r : Results). Gives r x y p q b') (ap (λ m. under (good (lent_code c)) m A fs b) o ∙ sym (passed_under n A s₀ fs b i j l ∙ ap (λ r. under r n A fs b) e)) W
