use native.Mathlib.Omega.{arith}
use borrow.Author.Rules.{rules}
use Rattle.trellis.proofs.Loops.{fill_next}
use Rattle.expansion.specs.inner.Transposed.{every_at}
use Rattle.expansion.proofs.Transposing.{every_start, every-next}
use Rattle.expansion.proofs.expansion.every.Goals as goal

pub loop-a-init : goal.loop-a-init
loop-a-init c =
    let a = c.args in (omega arith, (search rules, every_start a.r.now a.at a.g a.first a.out.now c.requires.in_bounds))

pub loop-a-preserved : goal.loop-a-preserved
loop-a-preserved c =
    let a = c.args in
    let i = c.loop-a.invariant in
    (omega arith, (search rules, fill_next (every_at a.r.now a.at a.g a.first) c.loop-a.out c.loop-a.a _ (omega (arith, i.1.0)) i.1.1 (every-next a.r.now a.at a.g a.first c.loop-a.a i.0)))
