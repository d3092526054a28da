-- A session: calls of feed, one after the other, each on the state and the buffers that the one before left, and then close.
use Rattle.std.specs.Prelude.{◌≡◌, false, List, [], ◌∷◌, ◌++◌, ℕ, length, take}
use Rattle.machine.specs.inner.Blocks.{fed_out, close_out}
use Rattle.text.specs.declared.state.State.{State}
use Rattle.text.specs.inner.Held.{Held, held_in, kept_of, put_at, fed_held, close_held}

-- one call of feed: the bytes of its block, the output buffer before it, and the state and the buffers after it
pub record Call : Type 0 where
  pub block : List ℕ
  pub before : List ℕ
  pub state : State
  pub line : List ℕ
  pub code : List ℕ
  pub out : List ℕ

-- feed's promise, on what was held
pub record Feeds (h : Held) (c : Call) : Type 0 where
  pub keeps : held_in c.state c.line c.code ≡ fed_held h c.block
  pub count : c.state.full ≡ length (fed_out (kept_of h) c.block)
  pub prints : c.out ≡ put_at c.before 0 (fed_out (kept_of h) c.block)

-- close's promise
pub record Closes (h : Held) (before : List ℕ) (n : ℕ) (code out : List ℕ) : Type 0 where
  pub count : n ≡ length (close_out (kept_of h))
  pub leaves : code ≡ (close_held h).bytes
  pub prints : out ≡ put_at before 0 (close_out (kept_of h))

unfoldable pub Calls : Held → List Call → Type 0
Calls h [] = Unit {0}
Calls h (c ∷ cs) = Feeds h c × Calls (held_in c.state c.line c.code) cs

-- what is held after the last call, what was fed, and what was printed
unfoldable pub held_after : Held → List Call → Held
held_after h [] = h
held_after h (c ∷ cs) = held_after (held_in c.state c.line c.code) cs

unfoldable pub blocks_of : List Call → List (List ℕ)
blocks_of [] = []
blocks_of (c ∷ cs) = c.block ∷ blocks_of cs

unfoldable pub printed_by : List Call → List ℕ
printed_by [] = []
printed_by (c ∷ cs) = take c.state.full c.out ++ printed_by cs

-- the first state: no byte of a line, no code line, not ended
abbrev pub begin : List ℕ → List ℕ → Held
begin line code = record { len = 0; code = 0; over = false; line = line; bytes = code }
