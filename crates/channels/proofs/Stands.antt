-- The rounds of the code follow the order of service: a serving of one is a serving of the other.
use mathlib.Core.Path.{◌≡◌, refl, sym, ap, ap₂, ◌∙◌}
use mathlib.Core.Bool.{Bool, true, false, not, ◌||◌}
use mathlib.Core.Logic.{◌≢◌}
use Prim.Native.Nat.{ℕ, zero, suc, ◌+◌, ◌-◌, ◌≤◌, ◌<◌}
use native.Mathlib.Numerals.{add-one}
use native.Mathlib.Decide.{ℕ_discrete}
use native.Mathlib.Omega.{arith}
use lib.Dec.{eqb}
use lib.ListN.{length, set, drop, length-set}
use lib.Seq.{get_or-set_same, get_or-set_other, drop-set-lt}
use Rattle.trellis.specs.Lists.{pick, upto}
use Rattle.machine.specs.CodeLine.{Code}
use Rattle.machine.specs.Moments.{Moment}
use Rattle.channels.specs.Serving.{Served, count_of, serving, serve}
use Rattle.channels.specs.Channels.{own_of}
use Rattle.channels.specs.inner.Rounds.{next_iteration, step_at, patch_at, status_of, Standing, standing, status_at, count_at, idle_at, moved_at, serving_at, round_at, rounds_at, Rooms}
use Rattle.channels.proofs.Rounds.{round, rounds, unserved, serve_rounds}
use Rattle.channels.proofs.Parts.{Exact}
use Rattle.channels.proofs.Patches.{Beyond, patch-room, patch_own, patch-other, patch_beyond}

-- what follows the first n channels is as it was
pub record Untouched (C : Code) (n : ℕ) (l₀ l : Standing) : Type 0 where
  pub status : drop n l.status ≡ drop n l₀.status
  pub counts : drop n l.counts ≡ drop n l₀.counts
  pub buffers : Beyond C n l₀.buffers l.buffers

-- fin: a channel is finished after j iterations; rn: its moment then; l₀: where the channels stood before
module _ (C : Code) (n : ℕ) (fin : ℕ → ℕ → Bool) (rn : ℕ → ℕ → Moment) (l₀ : Standing) where
  -- channel c is unfinished before its iteration j
  abbrev pub Until : ℕ → ℕ → Type 0
  Until c j = (i : ℕ) → i < j → fin c i ≡ false

  -- what Bridge gives of each channel
  pub record Runs : Type 0 where
    pub next : (c j : ℕ) → c < n → rn c (suc j) ≡ next_iteration C j (rn c j).buffers
    pub ends : (c j : ℕ) → c < n → Until c j → fin c j ≡ not (eqb (rn c j).stage.state 1)
    pub twenty : (c j : ℕ) → c < n → Until c j → eqb (status_of (rn c j).stage) 20 ≡ eqb (rn c j).stage.state 1
    pub exact : (c j : ℕ) → c < n → Until c j → Exact C (rn c j).buffers

  -- the code stands where the service stands
  pub record ServedStands (s : Served) (l : Standing) : Type 0 where
    pub until : (c : ℕ) → c < n → Until c (count_of s c)
    pub counts : (c : ℕ) → c < n → count_at l c ≡ count_of s c
    pub left : l.left ≡ s.left
    pub status : (c : ℕ) → c < n → status_at l c ≡ status_of (rn c (count_of s c)).stage
    pub parts : (c : ℕ) → c < n → own_of C l.buffers c ≡ (rn c (count_of s c)).buffers
    pub long : length s.counts ≡ n
    pub rooms : Rooms C n l
    pub untouched : Untouched C n l₀ l

  module _ (H : Runs) (s : Served) (l : Standing) (S : ServedStands s l) (c : ℕ) (h : c < n) where
    abbrev j : ℕ
    j = count_of s c

    U : Until c j
    U = S.until c h

    -- both skip, or both move
    same_test : idle_at c l ≡ (fin c j || eqb s.left 0)
    same_test =
        ap₂ (λ a b. not (eqb a 20) || eqb b 0) (S.status c h) S.left
        ∙ ap (λ a. not a || eqb s.left 0) (H.twenty c j h U)
        ∙ ap (λ a. a || eqb s.left 0) (sym (H.ends c j h U))

    moment_is : step_at C c (count_at l c) l.buffers ≡ rn c (suc j)
    unfolding step_at
    moment_is = ap₂ (next_iteration C) (S.counts c h) (S.parts c h) ∙ sym (H.next c j h)

    module _ (going : fin c j ≡ false) where
      s' : Served
      s' = record { counts = set s.counts c (count_of s c + 1); left = s.left - 1 }

      l' : Standing
      l' = standing (set l.status c (status_of (rn c (suc j)).stage)) (set l.counts c (count_at l c + 1)) (l.left - 1) (patch_at C c l.buffers (rn c (suc j)).buffers)

      own_count : count_of s' c ≡ suc j
      unfolding s'
      own_count = get_or-set_same s.counts c (count_of s c + 1) 0 (omega (arith, S.long)) ∙ omega arith

      other-count : (d : ℕ) → d ≢ c → count_of s' d ≡ count_of s d
      unfolding s'
      other-count d k = get_or-set_other s.counts c d (count_of s c + 1) 0 k

      until_more : Until c (suc j)
      until_more i k = elim (ℕ_discrete i j) [ yes e ↦ rw e going | no e ↦ U i (omega arith) ]

      E : Exact C (rn c (suc j)).buffers
      E = H.exact c (suc j) h until_more

      moved_stands : ServedStands s' l'
      unfolding s' l'
      moved_stands =
          record {
            until = λ d i. elim (ℕ_discrete d c) [ yes e ↦ rw (e, own_count) until_more | no e ↦ rw (other-count d e) (S.until d i) ];
            counts = λ d i. elim (ℕ_discrete d c) [
              | yes e ↦ rw (e, own_count) (get_or-set_same l.counts c (count_at l c + 1) 0 (omega (arith, S.rooms.for_counts)) ∙ ap (λ x. x + 1) (S.counts c h) ∙ add-one j)
              | no e ↦ rw (other-count d e) (get_or-set_other l.counts c d (count_at l c + 1) 0 e ∙ S.counts d i)
            ];
            left = ap (λ x. x - 1) S.left;
            status = λ d i. elim (ℕ_discrete d c) [
              | yes e ↦ rw (e, own_count) (get_or-set_same l.status c (status_of (rn c (suc j)).stage) 0 (omega (arith, S.rooms.for_status)))
              | no e ↦ rw (other-count d e) (get_or-set_other l.status c d (status_of (rn c (suc j)).stage) 0 e ∙ S.status d i)
            ];
            parts = λ d i. elim (ℕ_discrete d c) [
              | yes e ↦ rw (e, own_count) (patch_own C n l.buffers (rn c (suc j)).buffers S.rooms.room E c h)
              | no e ↦ rw (other-count d e) (patch-other C n l.buffers (rn c (suc j)).buffers S.rooms.room E c h d i e ∙ S.parts d i)
            ];
            long = length-set s.counts c (count_of s c + 1) ∙ S.long;
            rooms = record {
              for_status = rw (length-set l.status c (status_of (rn c (suc j)).stage)) S.rooms.for_status;
              for_counts = rw (length-set l.counts c (count_at l c + 1)) S.rooms.for_counts;
              room = patch-room C n l.buffers (rn c (suc j)).buffers S.rooms.room E c h;
            };
            untouched = record {
              status = drop-set-lt n l.status c (status_of (rn c (suc j)).stage) h ∙ S.untouched.status;
              counts = drop-set-lt n l.counts c (count_at l c + 1) h ∙ S.untouched.counts;
              buffers = patch_beyond C n l.buffers (rn c (suc j)).buffers S.rooms.room E c h l₀.buffers S.untouched.buffers;
            };
          }

    -- a serving
    pub serving-stands : ServedStands (serving fin c s) (serving_at C c l)
    unfolding serving serving_at moved_at s' l'
    serving-stands = rw same_test (go (fin c j) refl (eqb s.left 0))
      where
        go : (a : Bool) → fin c j ≡ a → (b : Bool)
            → ServedStands (pick (a || b) s (record { counts = set s.counts c (count_of s c + 1); left = s.left - 1 }))
            (pick (a || b) l (standing (set l.status c (status_of (step_at C c (count_at l c) l.buffers).stage)) (set l.counts c (count_at l c + 1)) (l.left - 1)
            (patch_at C c l.buffers (step_at C c (count_at l c) l.buffers).buffers)))
        go true e b = S
        go false e true = S
        go false e false = rw moment_is (moved_stands e)

  -- the servings of a round, and of some rounds
  pub round_stands : Runs → (s : Served) (l : Standing) → ServedStands s l → (k : ℕ) → k ≤ n → ServedStands (upto (serving fin) k s) (upto (serving_at C) k l)
  round_stands H s l S zero h = S
  round_stands H s l S (suc k) h = serving-stands H (upto (serving fin) k s) (upto (serving_at C) k l) (round_stands H s l S k (omega arith)) k h

  pub rounds_stand : Runs → (A : ℕ) (s : Served) (l : Standing) → ServedStands s l → (k : ℕ) → ServedStands (rounds fin n A k s) (rounds_at C n k l)
  unfolding round round_at
  rounds_stand H A s l S zero = S
  rounds_stand H A s l S (suc k) = round_stands H (rounds fin n A k s) (rounds_at C n k l) (rounds_stand H A s l S k) n (omega arith)

  -- A rounds of the code are the service
  pub serve-stands : Runs → (A : ℕ) (l : Standing) → ServedStands (unserved fin n A) l → ServedStands (serve fin n A) (rounds_at C n A l)
  serve-stands H A l S = rw (serve_rounds fin n A) (rounds_stand H A (unserved fin n A) l S A)
