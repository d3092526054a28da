-- No check that is not satisfied, of all.
use mathlib.Core.Path.{refl, ◌∙◌, sym}
use native.Mathlib.Omega.{arith}
use Rattle.codeline.specs.Codes.{lent_code}
use Rattle.layered.proofs.Satisfied.{first-not-all}
use Rattle.layered.proofs.Runs.{checks-count}
use Rattle.layered.proofs.parity.holds.Goals as goal

pub unsatisfied-requires : goal.unsatisfied-requires
unsatisfied-requires c =
    (c.requires, record { edge_is = refl; ordered = omega arith; inside = omega (arith, c.from-count.ensures) })

pub returns : goal.returns
returns c =
    first-not-all (lent_code c.args.code.now) c.args.symbols.now c.args.code.now.degrees.now c.unsatisfied.result c.is_none.result c.is_none.ensures c.from-count.result (c.from-count.ensures ∙ sym (checks-count c.args.code.now)) c.unsatisfied.ensures
