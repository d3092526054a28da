-- The two views of a record, as claims about calls: display, and the bench reader, which is expand.
use Rattle.std.specs.Prelude.{◌≡◌, ◌↔◌, List, ℕ, ◌*◌, ◌≤◌, ◌<◌, length, get_or, take, drop}
use Rattle.trellis.specs.Check.{shift, sent}
use Rattle.trellis.specs.Field.{product}
use Rattle.trellis.specs.Rules.{power_of, size_of, rule_for, columns_of}
use Rattle.trellis.specs.Reply.{Reply, accepted}
use Rattle.expansion.specs.Answers.{expand_reply}
use Rattle.display.specs.Demand.{Checks, Expands, Sends}
use Rattle.display.specs.Answers.{display_reply, display_leaves}

-- what a call of display promises: its reply, and the buffer afterwards
pub record Displays (f : ℕ) (weights bytes out : List ℕ) (reply : Reply) (out' : List ℕ) : Type 0 where
  pub replies : reply ≡ display_reply f weights bytes out
  pub out-then : out' ≡ display_leaves f weights bytes out

-- two displays that are not refused: each writes d bytes, and these are equal exactly when the shifts are
pub record SameShown (d n n' : ℕ) (r r' o o' : List ℕ) : Type 0 where
  pub bytes : n ≡ d
  pub bytes' : n' ≡ d
  pub equal : (take d o ≡ take d o') ↔ (take d r ≡ take d r')

-- "For two accepted records of one field, weights and degree": any two calls with first bytes of the same p and the same weights
abbrev pub DisplaysEqual : Type 0
DisplaysEqual =
    (f f' : ℕ) (weights r r' out out' : List ℕ) (n n' : ℕ) (o o' : List ℕ) → power_of f ≡ power_of f'
    → Displays f weights r out (accepted n) o → Displays f' weights r' out' (accepted n') o' → SameShown (length weights) n n' r r' o o'

-- "Both refuse as expansion does": where both buffers are long enough, by the same number
abbrev pub DisplayRefusesAlike : Type 0
DisplayRefusesAlike =
    (f : ℕ) (weights bytes out buffer : List ℕ) → length weights ≤ length out → length weights * size_of f ≤ length buffer
    → (display_reply f weights bytes out).number ≡ (expand_reply f weights bytes buffer).number

-- what the display shows of a record that a check wrote: for column j the symbol that times its weight is the sum of the other columns'
-- weighted decisions; the cost sent there is 0
pub record Shows (f : ℕ) (weights costs : List ℕ) (o : List ℕ) (j : ℕ) : Type 0 where
  pub element : get_or o j 0 < size_of f
  pub urged : product (power_of f) (get_or weights j 0) (get_or o j 0) ≡ shift (rule_for f) (columns_of (size_of f) weights costs) j
  pub free : sent (rule_for f) (columns_of (size_of f) weights costs) j (get_or o j 0) ≡ 0

-- both views of it: "the bench reader, which is expansion, still recovers every sent cost of a record that a check wrote" (Sends); the
-- display shows d symbols
pub record BothViews
    (f : ℕ) (weights costs : List ℕ) (n : ℕ) (out out' : List ℕ) (r : Reply) (b b' : List ℕ) (s : Reply) (o o' : List ℕ) : Type 0 where
  pub bench : Sends f weights costs n out out' r b b'
  pub displays : s ≡ accepted (length weights)
  pub shows : (j : ℕ) → j < length weights → Shows f weights costs o' j
  pub rest : drop (length weights) o' ≡ drop (length weights) o

-- any check that is accepted, with n bytes written, any expansion and any display of these n bytes in buffers long enough
abbrev pub TwoViews : Type 0
TwoViews =
    (f : ℕ) (weights costs : List ℕ) (n : ℕ) (out out' : List ℕ) → Checks f weights costs out (accepted n) out'
    → (b : List ℕ) → length weights * size_of f ≤ length b → (r : Reply) (b' : List ℕ) → Expands f weights (take n out') b r b'
    → (o : List ℕ) → length weights ≤ length o → (s : Reply) (o' : List ℕ) → Displays f weights (take n out') o s o'
    → BothViews f weights costs n out out' r b b' s o o'
