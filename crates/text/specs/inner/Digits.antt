-- What the readers of a line of text answer.
use Rattle.std.specs.Prelude.{Bool, List, ℕ, Result, Ok, Err, get_or}
use Rattle.trellis.specs.Lists.{pick, all_to}
use Rattle.machine.specs.Line.{is_digit, digit}
use Rattle.refusal.specs.declared.Refusal.{Refusal}
use Rattle.refusal.specs.declared.Refusal.TheVariants.{Digit}

-- a digit's value; "14, .. another byte"
abbrev pub digit_answer : ℕ → Result ℕ Refusal
digit_answer b = pick (is_digit b) (Ok (digit b)) (Err Digit)

-- each of the first n bytes is a digit
abbrev pub all_digits : List ℕ → ℕ → Bool
all_digits t n = all_to (λ i. is_digit (get_or t i 0)) n

-- 14 where one is not; 0 for none
abbrev pub digits_fault : List ℕ → ℕ → ℕ
digits_fault t n = pick (all_digits t n) 0 14
