-- The check of docs/SWEEP.md: columns 0 1 9 9 / 0 9 1 9 / 0 9 9 9 of the specification's bench table, with p = 2, weights 1, first byte 02. What
-- both sweeps keep, for counts 0, 1, 2 and partial sums 0 to 3, and S.
use Rattle.std.specs.Prelude.{List, [], ◌∷◌, map, ℕ, suc, take, drop}
use Rattle.trellis.specs.Lists.{up_to}
use Rattle.trellis.specs.Check.{Column}
use Rattle.trellis.specs.Rules.{rule_for}
use Rattle.trellis.specs.Sweep.{mark, swept, swept_sent}

abbrev pub worked : List Column
worked = map (λ l. record { weight = 1; costs = l }) ((0 ∷ 1 ∷ 9 ∷ 9 ∷ []) ∷ (0 ∷ 9 ∷ 1 ∷ 9 ∷ []) ∷ (0 ∷ 9 ∷ 9 ∷ 9 ∷ []) ∷ [])

-- the cells over some columns: a row for each count, a place for each sum
abbrev pub cells_over : List Column → List (List ℕ)
cells_over cs = map (λ j. map (swept (rule_for 2) cs j) (up_to 4)) (up_to 3)

-- before and after columns 0, 1, 2
abbrev pub worked_before : List (List (List ℕ))
worked_before = map (λ n. cells_over (take n worked)) (up_to 3)

abbrev pub worked_after : List (List (List ℕ))
worked_after = map (λ n. cells_over (drop (suc n) worked)) (up_to 3)

-- both joined: S for a from 0 to 3
abbrev pub worked_sent : List (List ℕ)
worked_sent = map (λ n. map (swept_sent (rule_for 2) worked n) (up_to 4)) (up_to 3)

-- the same as docs/SWEEP.md prints them; "-" there is the mark
abbrev none : List ℕ
none = mark ∷ mark ∷ mark ∷ mark ∷ []

abbrev start : List ℕ
start = 0 ∷ mark ∷ mark ∷ mark ∷ []

abbrev pub printed_before : List (List (List ℕ))
printed_before =
    (start ∷ none ∷ none ∷ []) ∷
    (start ∷ (mark ∷ 1 ∷ 9 ∷ 9 ∷ []) ∷ none ∷ []) ∷
    (start ∷ (mark ∷ 1 ∷ 1 ∷ 9 ∷ []) ∷ (10 ∷ 10 ∷ 10 ∷ 2 ∷ []) ∷ []) ∷
    []

abbrev pub printed_after : List (List (List ℕ))
printed_after =
    (start ∷ (mark ∷ 9 ∷ 1 ∷ 9 ∷ []) ∷ (10 ∷ 10 ∷ 18 ∷ 10 ∷ []) ∷ []) ∷
    (start ∷ (mark ∷ 9 ∷ 9 ∷ 9 ∷ []) ∷ none ∷ []) ∷
    (start ∷ none ∷ none ∷ []) ∷
    []

abbrev pub printed_sent : List (List ℕ)
printed_sent = (0 ∷ 9 ∷ 1 ∷ 9 ∷ []) ∷ (0 ∷ 1 ∷ 9 ∷ 9 ∷ []) ∷ (0 ∷ 1 ∷ 1 ∷ 2 ∷ []) ∷ []
