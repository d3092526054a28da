use native.Mathlib.Omega.{arith}
use mathlib.Core.Path.{◌≡◌}
use borrow.Author.Rules.{rules}
use lib.ListN.{length}
use Rattle.refusal.specs.Numbers.{number_of}
use Rattle.text.specs.inner.Digits.{digits_fault}
use Rattle.text.proofs.Digits.{told_fault}
use Rattle.text.proofs.hex.validate.Goals as goal

pub returns-in_err-value : goal.returns-in_err-value
returns-in_err-value c =
    let e : number_of c.in_err-value.field-0.0 ≡ digits_fault c.args.text.now (length c.args.text.now) = told_fault c.args.text.now c.loop-b.b-index _ (omega arith) c.in_err-value.ensures in
    search rules
