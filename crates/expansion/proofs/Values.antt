-- What an accepted expansion writes is short: the degree is at most 32 and q at most 64.
use mathlib.Core.List.{List, [], ◌∷◌, ◌++◌}
use Prim.Native.Nat.{ℕ, ◌*◌, ◌≤◌}
use native.Mathlib.Nat.{mul-le-mul}
use lib.Dec.{ltb}
use lib.ListN.{length}
use Rattle.trellis.specs.Record.{record_tests}
use Rattle.trellis.specs.Rules.{rule_for, power_of, size_of}
use Rattle.trellis.specs.Refusals.{when}
use Rattle.trellis.specs.Reply.{accepted}
use Rattle.trellis.proofs.Recurrence.{size_64}
use Rattle.field.proofs.Values.{Short, short-under, short-by}
use Rattle.expansion.specs.Answers.{expand_reply}

pub expand_short : (first : ℕ) (ws r out : List ℕ) → (expand_reply first ws r out).value ≤ 2048
unfolding expand_reply
expand_short first ws r out =
    (short-under first ws _ (λ W.
    let l : Short (accepted (length ws * size_of first)) = record { small = mul-le-mul W.few (size_64 (power_of first) W.high) } in
    short-by (record_tests (rule_for first) (length ws) r ++ (when (ltb (length out) (length ws * size_of first)) 2 ∷ [])) l)).small
