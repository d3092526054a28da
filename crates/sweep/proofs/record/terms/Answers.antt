use native.Mathlib.Omega.{arith}
use borrow.Author.Rules.{rules}
use Rattle.trellis.specs.Rules.{power_of}
use Rattle.engine.specs.inner.Terms.{term_of}
use Rattle.trellis.proofs.Loops.{fill_next}
use Rattle.checknode.proofs.Turns.{sum_turn}
use Rattle.sweep.proofs.record.terms.Goals as goal

pub loop-n-preserved : goal.loop-n-preserved
loop-n-preserved c =
    let k = c.args.check.now in
    let n = c.loop-n.n in
    (search rules, (fill_next (term_of (power_of k.first) k.weights.now k.costs.now) c.loop-n.out n _ (omega arith) c.loop-n.invariant.1.0 c.term-s.ensures, sum_turn k.first k.weights.now k.costs.now k.ready n (omega (arith, c.requires.out_len)) c.loop-n.invariant.1.1 c.term-s.ensures))
