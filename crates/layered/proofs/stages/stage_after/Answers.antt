-- The three stages in the sentence's order.
use mathlib.Core.Bool.{true, false}
use borrow.Author.Tests.{le-leb, lt-leb}
use native.Mathlib.Omega.{arith}
use Rattle.layered.proofs.Steps.{stage_found, stage-by}
use Rattle.layered.proofs.stages.stage_after.Goals as goal

pub returns-then-found : goal.returns-then-found
returns-then-found c =
    let a = c.args in
    stage_found a.t a.limit a.found c.if-found.true

pub returns-then-from-t : goal.returns-then-from-t
returns-then-from-t c =
    let a = c.args in
    stage-by a.t a.limit a.found c.if-found.false true (le-leb a.limit a.t (rw c.from.ensures at c.if-from-t.true))

pub returns : goal.returns
returns c =
    let a = c.args in
    stage-by a.t a.limit a.found c.if-found.false false (lt-leb a.limit a.t (omega (arith, c.if-from-t.false, c.from.ensures)))
