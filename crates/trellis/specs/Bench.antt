-- The specification's bench table, the cases marked #, two checks of degree 2, and checks of the later editions: what is asked and what is
-- expected.
use Rattle.std.specs.Prelude.{List, [], ◌∷◌, map, ◌++◌, ℕ, replicate}
use Rattle.trellis.specs.Lists.{each, count_from, up_to}
use Rattle.trellis.specs.Field.{product}
use Rattle.trellis.specs.Check.{Column, extra, extra_of_all}
use Rattle.trellis.specs.Record.{shifts, group, record_of}
use Rattle.trellis.specs.Rules.{rule_for}

-- a product, a check's record, its shifts, its E for each a from 1 on, the least cost over choices for all columns; a record, and the
-- bytes of one a, under a first code byte
pub data Case : Type 0 where
  product_of : (p a b : ℕ) → Case
  record_at : List Column → Case
  shifts_at : List Column → Case
  extras_at : List Column → Case
  of_all_at : List Column → Case
  record_under : ℕ → List Column → Case
  group_under : ℕ → List Column → ℕ → Case

-- what a case means, as a list of numbers. "p = 2, weights 1, unless said."
abbrev pub meaning : Case → List ℕ
meaning (product_of p a b) = product p a b ∷ []
meaning (record_at cs) = record_of (rule_for 2) cs
meaning (shifts_at cs) = shifts (rule_for 2) cs
meaning (extras_at cs) = map (extra (rule_for 2) cs) (count_from 1 3)
meaning (of_all_at cs) = map (extra_of_all (rule_for 2) cs) (count_from 1 3)
meaning (record_under f cs) = record_of (rule_for f) cs
meaning (group_under f cs a) = group (rule_for f) cs a

pub record Line : Type 0 where
  pub case : Case
  pub expected : List ℕ

abbrev gives : Case → List ℕ → Line
gives c l = record { case = c; expected = l }

abbrev columns : List (List ℕ) → List Column
columns = map (λ l. record { weight = 1; costs = l })

abbrev weighted : ℕ → List ℕ → Column
weighted h l = record { weight = h; costs = l }

-- d shifts of 0 and, for each a, E = 0 with two unused pairs
abbrev nothing_above : List ℕ
nothing_above = replicate 3 0 ++ each (λ a. 0 ∷ 0xFF ∷ 0 ∷ 0xFF ∷ 0 ∷ []) (up_to 3)

-- p = 3: 7 is 1 + 2 + 4, and columns 1, 2, 3 are cheap at these
abbrev three_cheap : List Column
three_cheap =
    columns
    ((0 ∷ 9 ∷ 9 ∷ 9 ∷ 9 ∷ 9 ∷ 9 ∷ 9 ∷ []) ∷ (0 ∷ 1 ∷ 100 ∷ 100 ∷ 100 ∷ 100 ∷ 100 ∷ 100 ∷ [])
    ∷ (0 ∷ 100 ∷ 1 ∷ 100 ∷ 100 ∷ 100 ∷ 100 ∷ 100 ∷ []) ∷ (0 ∷ 100 ∷ 100 ∷ 100 ∷ 1 ∷ 100 ∷ 100 ∷ 100 ∷ []) ∷ [])

unfoldable pub table : List Line
table =
    -- p = 3: 3 times 3 = 5; 4 times 4 = 6. p = 4: 2 times 9 = 1. p = 6: 2 times 32 = 3
    gives (product_of 3 3 3) (5 ∷ []) ∷
    gives (product_of 3 4 4) (6 ∷ []) ∷
    gives (product_of 4 2 9) (1 ∷ []) ∷
    gives (product_of 6 2 32) (3 ∷ []) ∷
    -- Columns 0 5 7 9 / 0 4 8 3 / 0 6 2 10: record 000000 040105FF00 020207FF00 030107FF00
    gives (record_at (columns ((0 ∷ 5 ∷ 7 ∷ 9 ∷ []) ∷ (0 ∷ 4 ∷ 8 ∷ 3 ∷ []) ∷ (0 ∷ 6 ∷ 2 ∷ 10 ∷ []) ∷ [])))
    (0x00 ∷ 0x00 ∷ 0x00 ∷ 0x04 ∷ 0x01 ∷ 0x05 ∷ 0xFF ∷ 0x00 ∷ 0x02 ∷ 0x02 ∷ 0x07 ∷ 0xFF ∷ 0x00 ∷ 0x03 ∷ 0x01 ∷ 0x07 ∷ 0xFF ∷ 0x00 ∷ []) ∷
    -- Column 0 as 5 0 9 7 instead: shifts 000101, the rest equal
    gives (record_at (columns ((5 ∷ 0 ∷ 9 ∷ 7 ∷ []) ∷ (0 ∷ 4 ∷ 8 ∷ 3 ∷ []) ∷ (0 ∷ 6 ∷ 2 ∷ 10 ∷ []) ∷ [])))
    (0x00 ∷ 0x01 ∷ 0x01 ∷ 0x04 ∷ 0x01 ∷ 0x05 ∷ 0xFF ∷ 0x00 ∷ 0x02 ∷ 0x02 ∷ 0x07 ∷ 0xFF ∷ 0x00 ∷ 0x03 ∷ 0x01 ∷ 0x07 ∷ 0xFF ∷ 0x00 ∷ []) ∷
    -- Columns 0 1 9 9 / 0 9 1 9 / 0 9 9 9: 000000 010009FF00 010109FF00 0200090109
    gives (record_at (columns ((0 ∷ 1 ∷ 9 ∷ 9 ∷ []) ∷ (0 ∷ 9 ∷ 1 ∷ 9 ∷ []) ∷ (0 ∷ 9 ∷ 9 ∷ 9 ∷ []) ∷ [])))
    (0x00 ∷ 0x00 ∷ 0x00 ∷ 0x01 ∷ 0x00 ∷ 0x09 ∷ 0xFF ∷ 0x00 ∷ 0x01 ∷ 0x01 ∷ 0x09 ∷ 0xFF ∷ 0x00 ∷ 0x02 ∷ 0x00 ∷ 0x09 ∷ 0x01 ∷ 0x09 ∷ []) ∷
    -- All costs 0: shifts and E all 0, no pairs used
    gives (record_at (columns (replicate 3 (0 ∷ 0 ∷ 0 ∷ 0 ∷ [])))) nothing_above ∷
    -- Three columns 0 255 255 255: each E is 255
    gives (extras_at (columns (replicate 3 (0 ∷ 255 ∷ 255 ∷ 255 ∷ [])))) (255 ∷ 255 ∷ 255 ∷ []) ∷
    -- Weights 1, 2, 3, decisions all 1: shifts 010203
    gives (shifts_at (weighted 1 (9 ∷ 0 ∷ 9 ∷ 9 ∷ []) ∷ weighted 2 (9 ∷ 0 ∷ 9 ∷ 9 ∷ []) ∷ weighted 3 (9 ∷ 0 ∷ 9 ∷ 9 ∷ []) ∷ []))
    (0x01 ∷ 0x02 ∷ 0x03 ∷ []) ∷
    -- Degree 2: "a cheapest choice may deviate in both columns, so E would be a cost nobody was sent". At a = 1 the symbols
    -- 2 and 3 cost 1 + 1, but either column is sent the other's 9
    gives (record_at (columns ((0 ∷ 9 ∷ 1 ∷ 9 ∷ []) ∷ (0 ∷ 9 ∷ 9 ∷ 1 ∷ []) ∷ [])))
    (0x00 ∷ 0x00 ∷ 0x09 ∷ 0xFF ∷ 0x00 ∷ 0xFF ∷ 0x00 ∷ 0x01 ∷ 0x00 ∷ 0x09 ∷ 0xFF ∷ 0x00 ∷ 0x01 ∷ 0x01 ∷ 0x09 ∷ 0xFF ∷ 0x00 ∷ []) ∷
    gives (of_all_at (columns ((0 ∷ 9 ∷ 1 ∷ 9 ∷ []) ∷ (0 ∷ 9 ∷ 9 ∷ 1 ∷ []) ∷ []))) (2 ∷ 1 ∷ 1 ∷ []) ∷
    -- Three deviations, first byte 22: the record above, with a pair more for each a
    gives (record_under 0x22 (columns ((0 ∷ 5 ∷ 7 ∷ 9 ∷ []) ∷ (0 ∷ 4 ∷ 8 ∷ 3 ∷ []) ∷ (0 ∷ 6 ∷ 2 ∷ 10 ∷ []) ∷ [])))
    (0x00 ∷ 0x00 ∷ 0x00 ∷ 0x04 ∷ 0x01 ∷ 0x05 ∷ 0xFF ∷ 0x00 ∷ 0xFF ∷ 0x00 ∷ 0x02 ∷ 0x02 ∷ 0x07 ∷ 0xFF ∷ 0x00 ∷ 0xFF ∷ 0x00 ∷ 0x03 ∷ 0x01
    ∷ 0x07 ∷ 0xFF ∷ 0x00 ∷ 0xFF ∷ 0x00 ∷ []) ∷
    -- at a = 7 column 0 is sent 1 + 1 + 1, and each other column the 9 of column 0
    gives (group_under 0x23 three_cheap 7) (0x03 ∷ 0x01 ∷ 0x09 ∷ 0x02 ∷ 0x09 ∷ 0x03 ∷ 0x09 ∷ []) ∷
    -- with two deviations column 0 is sent 100
    gives (group_under 0x03 three_cheap 7) (0x09 ∷ 0x00 ∷ 0x64 ∷ 0xFF ∷ 0x00 ∷ []) ∷
    -- the greatest, first byte 12: 3 by the symbols 3 and 2 of columns 1 and 2 at a = 1, and 5 by 1 and 2 of columns 0 and 2 at a = 3
    gives (record_under 0x12 (columns ((0 ∷ 5 ∷ 7 ∷ 9 ∷ []) ∷ (0 ∷ 4 ∷ 8 ∷ 3 ∷ []) ∷ (0 ∷ 6 ∷ 2 ∷ 10 ∷ []) ∷ [])))
    (0x00 ∷ 0x00 ∷ 0x00 ∷ 0x03 ∷ 0x01 ∷ 0x05 ∷ 0x02 ∷ 0x04 ∷ 0x02 ∷ 0x02 ∷ 0x05 ∷ 0xFF ∷ 0x00 ∷ 0x03 ∷ 0x01 ∷ 0x05 ∷ 0xFF ∷ 0x00 ∷ []) ∷
    -- with first byte 33 column 0 is sent the greatest of 1, 1 and 1
    gives (group_under 0x33 three_cheap 7) (0x01 ∷ 0x01 ∷ 0x09 ∷ 0x02 ∷ 0x09 ∷ 0x03 ∷ 0x09 ∷ []) ∷
    []
