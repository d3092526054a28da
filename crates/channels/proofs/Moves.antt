-- One serving as the code makes it, and room for the next.
use mathlib.Core.Path.{◌≡◌, ap, ◌∙◌}
use mathlib.Core.List.{List}
use Prim.Native.Nat.{ℕ, ◌+◌, ◌-◌, ◌*◌, ◌≤◌, ◌<◌}
use native.Mathlib.Numerals.{add-one}
use native.Mathlib.Omega.{arith}
use borrow.Author.Tests.{eq-eqb, ne_eqb}
use lib.ListN.{length, set}
use Rattle.trellis.specs.Lists.{upto}
use Rattle.machine.specs.CodeLine.{Code, size}
use Rattle.machine.specs.Machine.{used}
use Rattle.machine.specs.Decoding.{Buffers}
use Rattle.machine.proofs.Ranges.{column-room}
use Rattle.channels.specs.declared.layout.Layout.{Layout}
use Rattle.channels.specs.inner.Rounds.{Standing, standing, status_at, count_at, step_at, load_at, loaded_at, loaded_to, moved_at, serving_at, round_at, RoomFor}
use Rattle.channels.specs.inner.Layouts.{code_for, Puts, LoadsRoom, LoadRoom, PartRoom, NextRoom, RoundRoom}
use Rattle.channels.proofs.Serves.{serving-serves, round_serves}
use Rattle.channels.proofs.Quiet.{less_law}

-- room for n channels is room for each of them
pub one_room : (z : Layout) → (n : ℕ) (b : Buffers) → RoomFor (code_for z) n b → (c : ℕ) → c < n → PartRoom z c b
one_room z n b W c h =
    let C : Code = code_for z in
    record {
      for_symbols = rw z.columns_is (omega (arith, W.for_symbols, column-room c n C.columns h));
      for_costs = rw z.costs_is (omega (arith, W.for_costs, column-room c n (C.columns * size C) h));
      for_store = rw z.store_is (omega (arith, W.for_store, column-room c n (used C) h));
      for_margins = rw z.columns_is (omega (arith, W.for_margins, column-room c n C.columns h));
    }

module _ (C : Code) (c : ℕ) (l : Standing) where
  -- skipped
  pub serve_skips : (status_at l c ≡ 20 → ⊥) → l ≡ serving_at C c l
  unfolding serving_at
  serve_skips h = rw (ne_eqb (status_at l c) 20 h)

  pub serve_spent : status_at l c ≡ 20 → l.left ≡ 0 → l ≡ serving_at C c l
  unfolding serving_at
  serve_spent h e = rw (eq-eqb (status_at l c) 20 h, eq-eqb l.left 0 e)

  -- or moved
  pub serve_moves : status_at l c ≡ 20 → (l.left ≡ 0 → ⊥) → (r : ℕ) (b' : Buffers) → Puts C c l.buffers (step_at C c (count_at l c) l.buffers) r b'
      → standing (set l.status c r) (set l.counts c (count_at l c + 1)) (l.left - 1) b' ≡ serving_at C c l
  unfolding serving_at moved_at
  serve_moves h e r b' P = rw (eq-eqb (status_at l c) 20 h, ne_eqb l.left 0 e, P.status_is, P.buffers_are)

  -- loaded
  pub load_moves : (fs : List ℕ) (r : ℕ) (b' : Buffers) → Puts C c l.buffers (load_at C fs c l.buffers) r b'
      → standing (set l.status c r) l.counts l.left b' ≡ loaded_at C fs c l
  unfolding loaded_at
  load_moves fs r b' P = rw (P.status_is, P.buffers_are)

-- a load is lent its part of each buffer
pub load_room : (n : ℕ) (z : Layout) (fs : List ℕ) (l : Standing) → LoadsRoom n z fs l → (c : ℕ) → c < n
    → LoadRoom c z fs l.buffers.symbols l.buffers.costs l.buffers.margins
load_room n z fs l R c h =
    let P : PartRoom z c l.buffers = one_room z n l.buffers R.rooms.room c h in
    record {
      frames = rw z.costs_is (omega (arith, R.frames, column-room c n ((code_for z).columns * size (code_for z)) h));
      symbols = P.for_symbols;
      costs = P.for_costs;
      margins = P.for_margins;
    }

-- what an iteration of a running channel asks
module _ (n : ℕ) (z : Layout) (l : Standing) (A S : List ℕ) (R : RoundRoom n z l A S) (c : ℕ) (h : c < n) (e : status_at l c ≡ 20) where
  pub step_room : NextRoom c (count_at l c) z l.buffers A S
  step_room =
      record {
        room = one_room z n l.buffers R.serves.rooms.room c h;
        passable = R.serves.passable c h e;
        arrived = R.arrived;
        sent = R.sent;
      }

  -- its count has room for one more
  pub count_low : count_at l c + 1 ≤ z.code.numbers.limit
  count_low = omega (arith, R.serves.below c h e)

-- after a serving there is room for the next one
pub serve_next : (n : ℕ) (z : Layout) (l : Standing) (A S : List ℕ) → RoundRoom n z l A S → (c : ℕ) → c < n
    → (l' : Standing) (A' S' : List ℕ) → l' ≡ serving_at (code_for z) c l → length A' ≡ length A → length S' ≡ length S
    → RoundRoom n z l' A' S'
serve_next n z l A S R c h l' A' S' e i j =
    record {
      serves = rw e (serving-serves (code_for z) z.code.coded.good n l R.serves c h);
      arrived = omega (arith, R.arrived);
      sent = omega (arith, R.sent);
    }

-- and after a round
pub round_next : (n : ℕ) (z : Layout) (l : Standing) (A S : List ℕ) → RoundRoom n z l A S
    → (l' : Standing) (A' S' : List ℕ) → l' ≡ round_at (code_for z) n l → length A' ≡ length A → length S' ≡ length S
    → RoundRoom n z l' A' S'
round_next n z l A S R l' A' S' e i j =
    record {
      serves = rw e (round_serves (code_for z) z.code.coded.good n l R.serves);
      arrived = omega (arith, R.arrived);
      sent = omega (arith, R.sent);
    }

-- servings one after the other
pub round_more : (C : Code) (c : ℕ) (l₀ l l' : Standing) → l' ≡ serving_at C c l → l ≡ upto (serving_at C) c l₀ → l' ≡ upto (serving_at C) (c + 1) l₀
round_more C c l₀ l l' e i = e ∙ rw (add-one c) (ap (serving_at C c) i)

pub round_done : (C : Code) (n c : ℕ) (l₀ l : Standing) → c ≡ n → l ≡ upto (serving_at C) c l₀ → l ≡ round_at C n l₀
unfolding round_at
round_done C n c l₀ l e i = i ∙ ap (λ k. upto (serving_at C) k l₀) e

-- loads one after the other
pub loads_more : (C : Code) (fs : List ℕ) (c : ℕ) (l₀ l l' : Standing) → l' ≡ loaded_at C fs c l → l ≡ upto (loaded_at C fs) c l₀ → l' ≡ upto (loaded_at C fs) (c + 1) l₀
loads_more C fs c l₀ l l' e i = e ∙ rw (add-one c) (ap (loaded_at C fs c) i)

pub loads_done : (C : Code) (fs : List ℕ) (n c : ℕ) (l₀ l : Standing) → c ≡ n → l ≡ upto (loaded_at C fs) c l₀ → l ≡ loaded_to C fs n l₀
unfolding loaded_to
loads_done C fs n c l₀ l e i = i ∙ ap (λ k. upto (loaded_at C fs) k l₀) e

-- a round that spends something leaves less
pub round_less : (C : Code) (n : ℕ) (l l' : Standing) → l' ≡ round_at C n l → (l'.left ≡ l.left → ⊥) → l'.left < l.left
round_less C n l l' e h = less_law C n l l' l e h
