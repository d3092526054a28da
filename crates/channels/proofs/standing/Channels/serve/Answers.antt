use native.Mathlib.Omega.{arith}
use Rattle.channels.specs.inner.Layouts.{code_for}
use Rattle.channels.specs.inner.Standing.{standing_of}
use Rattle.channels.proofs.Quiet.{end_law, more_law}
use Rattle.channels.proofs.Moves.{round_next, round_less}
use Rattle.channels.proofs.Each.{same_loans}
use Rattle.channels.proofs.standing.Channels.serve.Goals as goal

pub returns-then-self-before-clause-then : goal.returns-then-self-before-clause-then
returns-then-self-before-clause-then c =
    end_law (code_for c.args.layout.now) c.args.count (standing_of c.loop-self.self) (standing_of c.round.new.self) _ c.round.ensures.then c.if-self-before.true c.loop-self.invariant.2

pub loop-self-smaller : goal.loop-self-smaller
loop-self-smaller c =
    round_less (code_for c.args.layout.now) c.args.count (standing_of c.loop-self.self) (standing_of c.round.new.self) c.round.ensures.then c.if-self-before.false

pub loop-self-preserved : goal.loop-self-preserved
loop-self-preserved c =
    let a = c.args in (
      same_loans a.self.now c.loop-self.self c.round.new.self c.loop-self.invariant.0 c.round.ensures.loans,
      round_next a.count a.layout.now (standing_of c.loop-self.self) _ _ c.loop-self.invariant.1 _ _ _ c.round.ensures.then (omega (arith, c.round.auto)) (omega (arith, c.round.auto)),
      more_law (code_for a.layout.now) a.count (standing_of c.loop-self.self) (standing_of c.round.new.self) _ c.round.ensures.then c.if-self-before.false c.loop-self.invariant.2,
      (omega (arith, c.round.auto, c.loop-self.invariant.3), omega (arith, c.round.auto, c.loop-self.invariant.3)),
    )
