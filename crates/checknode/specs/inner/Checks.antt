-- What is written of the check that a struct holds.
use Rattle.std.specs.Prelude.{List, ℕ}
use Rattle.trellis.specs.Check.{all_sent}
use Rattle.trellis.specs.Record.{record_of}
use Rattle.trellis.specs.Rules.{size_of, rule_for, columns_of}
use Rattle.checknode.specs.declared.accepted.Check.{Check}

-- its record
abbrev pub record_for : Check → List ℕ
record_for c = record_of (rule_for c.first) (columns_of (size_of c.first) c.weights.now c.costs.now)

-- its sent costs
abbrev pub all_sent_in : Check → List ℕ
all_sent_in c = all_sent (rule_for c.first) (columns_of (size_of c.first) c.weights.now c.costs.now)
