-- The # cases of the specification's bench table, by evaluation of the definitions: one theorem about all their meanings.
use mathlib.Core.Path.{◌≡◌, refl}
use mathlib.Core.List.{[], ◌∷◌, map}
use Rattle.trellis.specs.Field.{xor}
use Rattle.trellis.specs.Check.{decision, least_cost, sent_at, extra, extra_of_all, choices, shift, decided}
use Rattle.trellis.specs.Record.{record_of, shifts, group, above}
use Rattle.trellis.specs.Bench.{Line, meaning, table}

pub bench : map (λ (l : Line). meaning l.case) table ≡ map (λ (l : Line). l.expected) table
unfolding table record_of shifts group above extra extra_of_all sent_at least_cost choices shift decided xor
bench = refl

-- of tied symbols the smallest is the decision
pub ties : (decision (record { weight = 1; costs = 9 ∷ 0 ∷ 0 ∷ 5 ∷ [] })).symbol ≡ 1
ties = refl
