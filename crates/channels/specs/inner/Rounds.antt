-- The channels as the code serves them: the code line is read once, a channel is loaded and iterated in its own parts of the buffers, and
-- since nobody else writes there an iteration tests no refusals. proofs/Ends.antt shows that this is the call of Channels.antt.
use Rattle.std.specs.Prelude.{◌≡◌, Bool, not, ◌||◌, List, map, ◌++◌, ℕ, ◌+◌, ◌-◌, ◌*◌, ◌≤◌, ◌<◌, eqb, length, get_or, set, drop}
use Rattle.trellis.specs.Lists.{up_to, pick, upto, patch}
use Rattle.trellis.specs.Reply.{Reply}
use Rattle.trellis.specs.Sizes.{most_channels}
use Rattle.machine.specs.CodeLine.{Code, size, frame_fault}
use Rattle.machine.specs.Machine.{settled, used}
use Rattle.machine.specs.Lent.{Lent}
use Rattle.machine.specs.Decoding.{Buffers, holding}
use Rattle.machine.specs.Moments.{Stage, Moment, moment, further, gone}
use Rattle.machine.specs.inner.Accepted.{GoodCode}
use Rattle.machine.specs.inner.InRange.{Passable}
use Rattle.channels.specs.Channels.{frame_of, own_of, results}

-- a load of one channel in its own parts; the lengths are the call's, so that 13 alone can refuse it
abbrev pub opened : Code → List ℕ → Buffers → Moment
opened C f own =
    pick (eqb (frame_fault C f) 0)
    (moment (pick (settled C f) 2 1) 0 0 (holding C f own.store own))
    (moment 4 (frame_fault C f) 0 own)

-- its next iteration, after t
abbrev pub next_iteration : Code → ℕ → Buffers → Moment
next_iteration C t own = gone C (t + 1) (further C t own) own

unfoldable pub load_at : Code → List ℕ → ℕ → Buffers → Moment
load_at C fs c b = opened C (frame_of C fs c) (own_of C b c)

unfoldable pub step_at : Code → ℕ → ℕ → Buffers → Moment
step_at C c t b = next_iteration C t (own_of C b c)

-- the buffers with channel c's parts replaced
abbrev pub patch_at : Code → ℕ → Buffers → Buffers → Buffers
patch_at C c b o =
    record {
      symbols = patch b.symbols (c * C.columns) C.columns o.symbols;
      costs = patch b.costs (c * (C.columns * size C)) (C.columns * size C) o.costs;
      store = patch b.store (c * used C) (used C) o.store;
      margins = patch b.margins (c * C.columns) C.columns o.margins;
    }

-- 20 while running, 0 found, 1 not found, else the refusal's number: at the end it is the channel's status
unfoldable pub status_of : Stage → ℕ
status_of s = pick (eqb s.state 1) 20 (pick (eqb s.state 2) 0 (pick (eqb s.state 3) 1 s.number))

-- where the channels stand: their statuses and iterations, what is left of the allowance, and the buffers
pub record Standing : Type 0 where
  pub status : List ℕ
  pub counts : List ℕ
  pub left : ℕ
  pub buffers : Buffers

abbrev pub standing : List ℕ → List ℕ → ℕ → Buffers → Standing
standing s t a b = record { status = s; counts = t; left = a; buffers = b }

abbrev pub status_at : Standing → ℕ → ℕ
status_at l c = get_or l.status c 0

abbrev pub count_at : Standing → ℕ → ℕ
count_at l c = get_or l.counts c 0

-- channel c is loaded, and the first n of them
unfoldable pub loaded_at : Code → List ℕ → ℕ → Standing → Standing
loaded_at C fs c l =
    let m : Moment = load_at C fs c l.buffers in
    standing (set l.status c (status_of m.stage)) l.counts l.left (patch_at C c l.buffers m.buffers)

unfoldable pub loaded_to : Code → List ℕ → ℕ → Standing → Standing
loaded_to C fs n l = upto (loaded_at C fs) n l

-- channel c is served: skipped, or moved by one iteration
abbrev pub idle_at : ℕ → Standing → Bool
idle_at c l = not (eqb (status_at l c) 20) || eqb l.left 0

unfoldable pub moved_at : Code → ℕ → Standing → Standing
moved_at C c l =
    let m : Moment = step_at C c (count_at l c) l.buffers in
    standing (set l.status c (status_of m.stage)) (set l.counts c (count_at l c + 1)) (l.left - 1)
    (patch_at C c l.buffers m.buffers)

unfoldable pub serving_at : Code → ℕ → Standing → Standing
serving_at C c l = pick (idle_at c l) l (moved_at C c l)

-- a round of n channels, and k rounds
unfoldable pub round_at : Code → ℕ → Standing → Standing
round_at C n l = upto (serving_at C) n l

abbrev pub rounds_at : Code → ℕ → ℕ → Standing → Standing
rounds_at C n k l = upto (λ i. round_at C n) k l

-- room for n channels in each buffer
pub record RoomFor (C : Code) (n : ℕ) (b : Buffers) : Type 0 where
  pub for_symbols : n * C.columns ≤ length b.symbols
  pub for_costs : n * (C.columns * size C) ≤ length b.costs
  pub for_store : n * used C ≤ length b.store
  pub for_margins : n * C.columns ≤ length b.margins

-- room in the lists and the buffers
pub record Rooms (C : Code) (n : ℕ) (l : Standing) : Type 0 where
  pub for_status : n ≤ length l.status
  pub for_counts : n ≤ length l.counts
  pub room : RoomFor C n l.buffers

-- a channel's costs and store, of its own parts
abbrev pub lent_in : Buffers → Lent
lent_in own = record { costs = own.costs; store = own.store }

-- what the loops ask: a channel that is running may go on, and has an iteration left
pub record Serves (C : Code) (G : GoodCode C) (n : ℕ) (l : Standing) : Type 0 where
  pub rooms : Rooms C n l
  pub passable : (c : ℕ) → c < n → status_at l c ≡ 20 → Passable C G (eqb (count_at l c) 0) (lent_in (own_of C l.buffers c))
  pub below : (c : ℕ) → c < n → status_at l c ≡ 20 → count_at l c < C.limit

-- what the code knows when no refusal of the whole call applies; the frames are bytes
pub record Asked (C : Code) (n : ℕ) (fs : List ℕ) (b : Buffers) : Type 0 where
  pub good : GoodCode C
  pub count_low : 1 ≤ n
  pub count-high : n ≤ most_channels
  pub long : length fs ≡ n * (C.columns * size C)
  pub room : RoomFor C n b
  pub bytes : (i : ℕ) → get_or fs i 0 ≤ 255

-- a result by its status and iterations: 0, 1 and 20 are no refusals
abbrev pub reply_by : ℕ → ℕ → Reply
reply_by s t = record { refused = not (eqb s 0 || (eqb s 1 || eqb s 20)); number = s; value = t }

-- where the channels stand at the end, l, is what the call gives, l₀ having been the start
pub record Ends (C : Code) (n A : ℕ) (fs : List ℕ) (b : Buffers) (l₀ l : Standing) : Type 0 where
  pub spent : (results C n A fs b).spent ≡ A - l.left
  pub spent-most : A - l.left ≤ n * C.limit
  pub answers : (results C n A fs b).answers ≡ map (λ c. reply_by (status_at l c) (count_at l c)) (up_to n)
  pub status : l.status ≡ map (λ a. a.number) (results C n A fs b).answers ++ drop n l₀.status
  pub counts : l.counts ≡ map (λ a. a.value) (results C n A fs b).answers ++ drop n l₀.counts
  pub buffers : l.buffers ≡ (results C n A fs b).buffers
