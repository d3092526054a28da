-- The record with E over the choices for all columns, in whose place the least of the sent costs stands. "Records of degree 3 and up keep their bytes."
-- (proofs/Before.antt, records-keep). SPEC 3.3.
use Rattle.std.specs.Prelude.{List, [], ◌∷◌, ◌++◌, ℕ, ◌-◌, ltb, length}
use Rattle.trellis.specs.Lists.{count_from, up_to, keep, each}
use Rattle.trellis.specs.Check.{Rule, Column, sent_at, extra_of_all}
use Rattle.trellis.specs.Record.{shifts}

unfoldable pub above_of_all : Rule → List Column → ℕ → List ℕ
above_of_all R cs a = keep (λ n. ltb (extra_of_all R cs a) (sent_at R cs n a)) (up_to (length cs))

unfoldable pub group_of_all : Rule → List Column → ℕ → List ℕ
group_of_all R cs a =
    extra_of_all R cs a ∷ (each (λ n. n ∷ sent_at R cs n a ∷ []) (above_of_all R cs a)
    ++ each (λ i. 0xFF ∷ 0x00 ∷ []) (up_to (R.most - length (above_of_all R cs a))))

unfoldable pub record_of_all : Rule → List Column → List ℕ
record_of_all R cs = shifts R cs ++ each (group_of_all R cs) (count_from 1 (R.size - 1))
