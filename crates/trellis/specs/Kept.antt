-- As claims: the k + 1 cheapest entries of each row give the sent costs of every accepted check, and k entries do not.
use Rattle.std.specs.Prelude.{◌≡◌, List, [], ◌∷◌, ℕ, suc, ◌*◌, ◌-◌, ◌<◌, min, length, get_or}
use Rattle.trellis.specs.Field.{xor}
use Rattle.trellis.specs.Check.{Rule, Column, sent, shift}
use Rattle.trellis.specs.Rules.{rule_for, size_of, most_of, columns_of}
use Rattle.trellis.specs.Rows.{kept, cheapest, sent_from}
use Rattle.trellis.specs.Ready.{Ready}

-- the cost sent to column n at symbol x, worked out from the s cheapest entries of each row: S_n(a) with a = h_n times x + s_n
unfoldable pub kept_sent : ℕ → ℕ → List ℕ → List ℕ → ℕ → ℕ → ℕ
kept_sent f s ws cs n x =
    sent_from (rule_for f) (kept (rule_for f) s (columns_of (size_of f) ws cs)) n
    (xor ((rule_for f).times (get_or ws n 0) x) (shift (rule_for f) (columns_of (size_of f) ws cs) n))

-- "sent costs worked out from these entries equal the full rule on each accepted check, for both editions", and for both k: f is the first
-- code byte
abbrev pub KeptEntriesSuffice : Type 0
KeptEntriesSuffice =
    (f : ℕ) (ws cs : List ℕ) → Ready f ws cs → (n x : ℕ) → n < length ws → x < size_of f
    → kept_sent f (suc (most_of f)) ws cs n x ≡ sent (rule_for f) (columns_of (size_of f) ws cs) n x

-- "the cheapest k + 1 entries of each row .., all of them if the degree is smaller": how many are stored, for any s
abbrev pub KeptCount : Type 0
KeptCount =
    (R : Rule) (s : ℕ) (cs : List Column)
    → ((a : ℕ) → length (cheapest R s cs a) ≡ min s (length cs)) × (length (kept R s cs) ≡ min s (length cs) * (R.size - 1))

-- a check under first byte f sends column 0 the cost c at symbol x, and s kept entries of each row give g
pub record FallsShort (f s : ℕ) (ws cs : List ℕ) (x c g : ℕ) : Type 0 where
  pub full : sent (rule_for f) (columns_of (size_of f) ws cs) 0 x ≡ c
  pub fewer : kept_sent f s ws cs 0 x ≡ g

-- "columns 0 1 1 100 / 0 2 2 100 / 0 9 5 100 with p = 2 and weights 1"
abbrev pub three_weights : List ℕ
three_weights = 1 ∷ 1 ∷ 1 ∷ []

abbrev pub three_columns : List ℕ
three_columns = 0 ∷ 1 ∷ 1 ∷ 100 ∷ 0 ∷ 2 ∷ 2 ∷ 100 ∷ 0 ∷ 9 ∷ 5 ∷ 100 ∷ []

-- the like with four columns and p = 3, where 1 + 2 + 4 is 7
abbrev pub four_weights : List ℕ
four_weights = 1 ∷ 1 ∷ 1 ∷ 1 ∷ []

abbrev pub four_columns : List ℕ
four_columns =
    0 ∷ 1 ∷ 1 ∷ 100 ∷ 1 ∷ 100 ∷ 100 ∷ 100 ∷
    0 ∷ 2 ∷ 2 ∷ 100 ∷ 2 ∷ 100 ∷ 100 ∷ 100 ∷
    0 ∷ 3 ∷ 3 ∷ 100 ∷ 3 ∷ 100 ∷ 100 ∷ 100 ∷
    0 ∷ 9 ∷ 9 ∷ 100 ∷ 5 ∷ 100 ∷ 100 ∷ 100 ∷ []

-- "two entries do not suffice for k = 2 with sums": these columns "send column 0 the cost 7 at symbol 3, and two kept entries give 100"
abbrev pub TwoEntriesFallShort : Type 0
TwoEntriesFallShort = FallsShort 0x02 2 three_weights three_columns 3 7 100

-- nor k entries in any other edition: two with the greatest, three for k = 3 with sums and with the greatest
abbrev pub KEntriesFallShort : Type 0
KEntriesFallShort =
    FallsShort 0x12 2 three_weights three_columns 3 5 100
    × (FallsShort 0x23 3 four_weights four_columns 7 10 100 × FallsShort 0x33 3 four_weights four_columns 7 5 100)

-- four columns whose row 1 costs 5 5 4 5
abbrev pub tied_columns : List ℕ
tied_columns =
    0 ∷ 5 ∷ 9 ∷ 9 ∷
    0 ∷ 5 ∷ 9 ∷ 9 ∷
    0 ∷ 4 ∷ 9 ∷ 9 ∷
    0 ∷ 5 ∷ 9 ∷ 9 ∷ []

-- "lower column first in a tie": of row 1 columns 2, 0 and 1 are kept, in this order. The sent costs need no order in a tie, so that this
-- says what the sentence fixes
abbrev pub LowerColumnFirst : Type 0
LowerColumnFirst = cheapest (rule_for 0x02) 3 (columns_of 4 four_weights tied_columns) 1 ≡ 2 ∷ 0 ∷ 1 ∷ []
