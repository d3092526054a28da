-- SPEC 10.2 for the messages, as a claim about two calls: a check that is accepted, and an expansion of the record that it wrote.
use Rattle.std.specs.Prelude.{◌≡◌, List, ℕ, ◌+◌, ◌*◌, ◌≤◌, ◌<◌, length, get_or, take, drop}
use Rattle.trellis.specs.Lists.{others}
use Rattle.trellis.specs.Field.{product}
use Rattle.trellis.specs.Check.{IsLeast, all_sent}
use Rattle.trellis.specs.Record.{record_of, record_length}
use Rattle.trellis.specs.Rules.{power_of, size_of, rule_for, columns_of}
use Rattle.trellis.specs.Ready.{Ready}
use Rattle.trellis.specs.Reply.{Reply, accepted}
use Rattle.checknode.specs.Answers.{check_reply, check_leaves}
use Rattle.expansion.specs.Answers.{expand_reply, expand_leaves}

-- what a call of check promises: its reply, and the record buffer afterwards
pub record Checks (f : ℕ) (weights costs out : List ℕ) (reply : Reply) (out' : List ℕ) : Type 0 where
  pub replies : reply ≡ check_reply f weights costs out
  pub out-then : out' ≡ check_leaves f weights costs out

-- what a call of expand promises
pub record Expands (f : ℕ) (weights bytes out : List ℕ) (reply : Reply) (out' : List ℕ) : Type 0 where
  pub replies : reply ≡ expand_reply f weights bytes out
  pub out-then : out' ≡ expand_leaves f weights bytes out

-- What the two leave. The first n bytes of the check's buffer are its record; the expansion of these is not refused and writes d times q
-- bytes, all the sent costs; and the byte of column j at symbol x is the least cost over choices for the other columns that have at most k
-- deviations and whose weighted sum is h_j times x. Past what is written each buffer keeps its content
pub record Sends (f : ℕ) (weights costs : List ℕ) (n : ℕ) (out out' : List ℕ) (reply : Reply) (buffer buffer' : List ℕ) : Type 0 where
  pub ready : Ready f weights costs
  pub bytes : n ≡ record_length (rule_for f) (length weights)
  pub packed : take n out' ≡ record_of (rule_for f) (columns_of (size_of f) weights costs)
  pub expands : reply ≡ accepted (length weights * size_of f)
  pub sents : take (length weights * size_of f) buffer' ≡ all_sent (rule_for f) (columns_of (size_of f) weights costs)
  pub least : (j x : ℕ) → j < length weights → x < size_of f
      → IsLeast (rule_for f) (others j (columns_of (size_of f) weights costs)) (product (power_of f) (get_or weights j 0) x)
      (get_or buffer' (j * size_of f + x) 0)
  pub out-rest : drop n out' ≡ drop n out
  pub buffer_rest : drop (length weights * size_of f) buffer' ≡ drop (length weights * size_of f) buffer

-- SPEC 10.2 for the messages: any check that is accepted, with n bytes written, and any expansion of these n bytes under the same first
-- byte and weights, in a buffer long enough, whatever this held before (SPEC 10.2)
abbrev pub Demand2Messages : Type 0
Demand2Messages =
    (f : ℕ) (weights costs : List ℕ) (n : ℕ) (out out' : List ℕ) → Checks f weights costs out (accepted n) out'
    → (buffer : List ℕ) → length weights * size_of f ≤ length buffer
    → (r : Reply) (buffer' : List ℕ) → Expands f weights (take n out') buffer r buffer'
    → Sends f weights costs n out out' r buffer buffer'
