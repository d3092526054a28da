use native.Mathlib.Omega.{arith}
use Rattle.channels.specs.inner.Layouts.{code_for}
use Rattle.channels.specs.inner.Standing.{standing_of}
use Rattle.channels.proofs.Moves.{serve_next, round_more, round_done}
use Rattle.channels.proofs.Each.{same_loans}
use Rattle.channels.proofs.standing.Channels.round.Goals as goal

pub loop-c-preserved : goal.loop-c-preserved
loop-c-preserved c =
    let a = c.args in
    let C = code_for a.layout.now in (
      same_loans a.self.now c.loop-c.self c.serve_at.new.self c.loop-c.invariant.0 c.serve_at.ensures.loans,
      serve_next a.count a.layout.now (standing_of c.loop-c.self) _ _ c.loop-c.invariant.1 c.loop-c.c (omega (arith, c.loop-c-test, c.loop-c.auto)) _ _ _ c.serve_at.ensures.then (omega (arith, c.serve_at.auto)) (omega (arith, c.serve_at.auto)),
      round_more C c.loop-c.c _ _ _ c.serve_at.ensures.then c.loop-c.invariant.2,
      (omega (arith, c.serve_at.auto, c.loop-c.invariant.3), omega (arith, c.serve_at.auto, c.loop-c.invariant.3)),
    )

pub returns-clause-then : goal.returns-clause-then
returns-clause-then c = round_done (code_for c.args.layout.now) c.args.count c.loop-c.c _ _ (omega (arith, c.loop-c-test, c.loop-c.auto)) c.loop-c.invariant.2
