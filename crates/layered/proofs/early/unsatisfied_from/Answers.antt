-- From the check on to the last, then the ones before it.
use mathlib.Core.Path.{◌∙◌, sym}
use native.Mathlib.Omega.{arith}
use Rattle.codeline.specs.Codes.{lent_code}
use Rattle.layered.proofs.Runs.{checks-count}
use Rattle.layered.proofs.Retests.{behind_it, before_it}
use Rattle.layered.proofs.early.unsatisfied_from.Goals as goal

pub returns-in-None : goal.returns-in-None
returns-in-None c =
    before_it (lent_code c.args.code.now) c.args.code.now.degrees.now c.args.symbols.now c.from-count.result (c.from-count.ensures ∙ sym (checks-count c.args.code.now)) c.args.from (omega (arith, c.requires.1.ordered, c.from-count.ensures)) (rw c.in-None.is at c.unsatisfied.ensures) c.unsatisfied-in-None.result c.unsatisfied-in-None.ensures

pub returns-in_default : goal.returns-in_default
returns-in_default c =
    behind_it (lent_code c.args.code.now) c.args.code.now.degrees.now c.args.symbols.now c.from-count.result (c.from-count.ensures ∙ sym (checks-count c.args.code.now)) c.args.from c.unsatisfied.result c.in_default.not-None c.unsatisfied.ensures
