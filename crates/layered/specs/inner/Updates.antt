-- What the functions of one update ask of a check's columns and weights, its record and the costs. proofs/Updates.antt shows that
-- together they are costs_lent and record_lent of the machine.
use Rattle.std.specs.Prelude.{◌≡◌, Bool, false, true, ◌≢◌, List, ℕ, ◌+◌, ◌*◌, ◌≤◌, ◌<◌, length, get_or}
use Rattle.trellis.specs.Lists.{pick, tab}
use Rattle.trellis.specs.Record.{record_length, record_ok, expansion}
use Rattle.trellis.specs.Rules.{first_ok, size_of, rule_for}
use Rattle.trellis.specs.Ready.{Ready}
use Rattle.trellis.specs.Sizes.{most_degree}
use Rattle.machine.specs.inner.InRange.{Below}

-- what the old record sent, before scaling: its expansion; 0 in the first iteration
unfoldable pub old_costs : ℕ → Bool → List ℕ → List ℕ → List ℕ
old_costs first start ws r = pick start (tab (λ x. 0) (length ws * size_of first)) (expansion (rule_for first) ws r)

-- the weights of an accepted check
pub record Weighed (first : ℕ) (ws : List ℕ) : Type 0 where
  pub accepted : first_ok first ≡ true
  pub two : 2 ≤ length ws
  pub few : length ws ≤ most_degree
  pub some : (n : ℕ) → n < length ws → get_or ws n 0 ≢ 0
  pub small : (n : ℕ) → n < length ws → get_or ws n 0 < size_of first

-- room for what the old record sent; a record is there after the first iteration
pub record RecallRoom (first : ℕ) (start : Bool) (ws r out : List ℕ) : Type 0 where
  pub weighed : Weighed first ws
  pub form : start ≡ false → record_ok (rule_for first) (length ws) r ≡ true
  pub full : length out ≡ length ws * size_of first

-- a check that is accepted, room for its record and for its sent costs
pub record SendRoom (first : ℕ) (ws Q r out : List ℕ) : Type 0 where
  pub ready : Ready first ws Q
  pub for_record : length r ≡ record_length (rule_for first) (length ws)
  pub full : length out ≡ length ws * size_of first

-- room for an update: the lent costs and record, and two lists to work in
pub record UpdateRoom (first g : ℕ) (start : Bool) (cs ws P r Q S : List ℕ) : Type 0 where
  pub recall : RecallRoom first start ws r S
  pub same : length cs ≡ length ws
  pub columns : (k : ℕ) → k < length cs → get_or cs k 0 * size_of first + size_of first ≤ length P
  pub small : Below 510 P
  pub scale : g ≤ 16
  pub for_record : length r ≡ record_length (rule_for first) (length ws)
  pub for_costs : length Q ≡ length ws * size_of first
