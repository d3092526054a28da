-- Laws of the numbers.
use Rattle.std.proofs.Common.{rules, ◌≢◌}
use Rattle.refusal.specs.declared.Refusal.{Refusal}
use Rattle.refusal.specs.Numbers.{number_of}

-- no refusal has the number 0, which says that there is none
pub some_number : (r : Refusal) → number_of r ≢ 0
some_number r = search rules
