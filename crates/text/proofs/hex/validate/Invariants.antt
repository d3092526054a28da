-- Every byte passed is a digit.
use mathlib.Core.Path.{◌≡◌}
use mathlib.Core.Bool.{true}
use Rattle.text.specs.inner.Digits.{all_digits}
use Rattle.text.proofs.hex.validate.Given as goal

abbrev pub invariant-loop-b : goal.invariant-loop-b
invariant-loop-b l = all_digits l.text l.b-index ≡ true
