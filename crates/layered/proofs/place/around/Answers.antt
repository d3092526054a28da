-- By cases on the last check.
use borrow.Author.Tests.{eq-eqb, ne_eqb}
use Rattle.layered.proofs.place.around.Goals as goal

pub returns-then-here-count : goal.returns-then-here-count
returns-then-here-count c = let e = eq-eqb _ _ c.if-here-count.true in record { check_is = rw e; edge_is = rw e; byte_is = rw e }

pub returns : goal.returns
returns c = let e = ne_eqb _ _ c.if-here-count.false in record { check_is = rw e; edge_is = rw e; byte_is = rw e }
