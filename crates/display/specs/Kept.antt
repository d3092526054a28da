-- In the calls' own words: each byte of the sent costs that the calls leave is worked out from the k + 1 cheapest
-- entries of each row, with the shift that stands in the record. SPEC 10.18.
use Rattle.std.specs.Prelude.{◌≡◌, List, ℕ, suc, ◌+◌, ◌*◌, ◌≤◌, ◌<◌, length, get_or, take}
use Rattle.trellis.specs.Field.{xor, product}
use Rattle.trellis.specs.Rules.{power_of, size_of, most_of, rule_for, columns_of}
use Rattle.trellis.specs.Rows.{Entry, kept, sent_from}
use Rattle.trellis.specs.Reply.{Reply, accepted}
use Rattle.checknode.specs.Answers.{messages_reply, messages_leaves, messages_sent}
use Rattle.display.specs.Demand.{Checks, Expands}

-- what the board stores of a check: the k + 1 cheapest entries of each row
abbrev pub stored_of : ℕ → List ℕ → List ℕ → List Entry
stored_of f weights costs = kept (rule_for f) (suc (most_of f)) (columns_of (size_of f) weights costs)

-- the byte of column j at symbol x is the sent cost from these entries at a = h_j times x + s_j, where s_j is byte j of the record
abbrev pub FromStored : ℕ → List ℕ → List ℕ → List ℕ → List ℕ → Type 0
FromStored f weights costs bytes sents =
    (j x : ℕ) → j < length weights → x < size_of f
    → get_or sents (j * size_of f + x) 0
    ≡ sent_from (rule_for f) (stored_of f weights costs) j (xor (product (power_of f) (get_or weights j 0) x) (get_or bytes j 0))

-- "on each accepted check, for both editions": any check that is accepted, with n bytes written, and any expansion of these n bytes
abbrev pub KeptEntriesExpand : Type 0
KeptEntriesExpand =
    (f : ℕ) (weights costs : List ℕ) (n : ℕ) (out out' : List ℕ) → Checks f weights costs out (accepted n) out'
    → (buffer : List ℕ) → length weights * size_of f ≤ length buffer
    → (r : Reply) (buffer' : List ℕ) → Expands f weights (take n out') buffer r buffer'
    → FromStored f weights costs (take n out') buffer'

-- what a call of messages promises: its reply, the record buffer and the buffer of the sent costs afterwards
pub record SendsMessages (f : ℕ) (weights costs out sent : List ℕ) (reply : Reply) (out' sent' : List ℕ) : Type 0 where
  pub replies : reply ≡ messages_reply f weights costs out sent
  pub out-then : out' ≡ messages_leaves f weights costs out sent
  pub sent-then : sent' ≡ messages_sent f weights costs out sent

-- the same of the call that writes record and sent costs at once
abbrev pub KeptEntriesMessages : Type 0
KeptEntriesMessages =
    (f : ℕ) (weights costs : List ℕ) (n : ℕ) (out sent out' sent' : List ℕ) → SendsMessages f weights costs out sent (accepted n) out' sent'
    → FromStored f weights costs (take n out') sent'
