-- What the display shows of a record, and what is claimed of it.
use Rattle.std.specs.Prelude.{◌≡◌, true, ◌≢◌, ◌↔◌, List, map, ℕ, ◌<◌, length, get_or, take}
use Rattle.trellis.specs.Lists.{up_to}
use Rattle.trellis.specs.Field.{product, quotient}
use Rattle.trellis.specs.Record.{record_ok, expand_at}
use Rattle.trellis.specs.Rules.{power_of, size_of, first_ok, rule_for}

-- "the shifts alone, divided by the weights": a byte for each column
unfoldable pub displayed : ℕ → List ℕ → List ℕ → List ℕ
displayed p ws r = map (λ n. quotient p (get_or ws n 0) (get_or r n 0)) (up_to (length ws))

abbrev pub shown_at : ℕ → List ℕ → List ℕ → ℕ → ℕ
shown_at f ws r n = get_or (displayed (power_of f) ws r) n 0

-- an accepted record: its first byte, its weights and its form
pub record Stored (f : ℕ) (ws r : List ℕ) : Type 0 where
  pub first : first_ok f ≡ true
  pub weight-some : (n : ℕ) → n < length ws → get_or ws n 0 ≢ 0
  pub weight-small : (n : ℕ) → n < length ws → get_or ws n 0 < size_of f
  pub form : record_ok (rule_for f) (length ws) r ≡ true

-- "For two accepted records of one field, weights and degree, the display bytes are equal exactly when the shifts are, however their costs
-- and pairs differ": the two first bytes need only have the same p, so the records may be of both editions and both values of k
abbrev pub DisplayEqual : Type 0
DisplayEqual =
    (f f' : ℕ) (ws r r' : List ℕ) → power_of f ≡ power_of f' → Stored f ws r → Stored f' ws r'
    → (displayed (power_of f) ws r ≡ displayed (power_of f') ws r') ↔ (take (length ws) r ≡ take (length ws) r')

-- "may only show": the display depends on the weights and the shifts, and on nothing else of the bytes
abbrev pub ShiftsAlone : Type 0
ShiftsAlone = (p : ℕ) (ws r r' : List ℕ) → take (length ws) r ≡ take (length ws) r' → displayed p ws r ≡ displayed p ws r'

-- "which symbol each column was urged towards": the one element that times the weight is the shift; the record's expansion gives it cost 0
pub record Urged (f : ℕ) (ws r : List ℕ) (n : ℕ) : Type 0 where
  pub element : shown_at f ws r n < size_of f
  pub times : product (power_of f) (get_or ws n 0) (shown_at f ws r n) ≡ get_or r n 0
  pub only : (x : ℕ) → x < size_of f → product (power_of f) (get_or ws n 0) x ≡ get_or r n 0 → x ≡ shown_at f ws r n
  pub free : expand_at (rule_for f) ws r n (shown_at f ws r n) ≡ 0

abbrev pub UrgedTowards : Type 0
UrgedTowards = (f : ℕ) (ws r : List ℕ) → Stored f ws r → (n : ℕ) → n < length ws → Urged f ws r n
