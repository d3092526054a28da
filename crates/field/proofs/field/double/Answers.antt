-- Bit p of the shifted factor decides between the two cases of the definition; where it is not set the check finds it.
use Rattle.trellis.proofs.Recurrence.{doubled-small}
use Rattle.field.proofs.Arithmetic.{doubled-set}
use Rattle.field.proofs.field.double.Goals as goal

pub returns-then-s-p-eq1 : goal.returns-then-s-p-eq1
returns-then-s-p-eq1 c =
    let e = doubled-set c.args.p c.args.a c.requires.1.0 c.requires.1.1 c.if-s-p-eq1.true c.reducer-r.ensures in
    (e, rw e (doubled-small c.args.p c.args.a c.requires.0 c.requires.1.0 c.requires.1.1))
