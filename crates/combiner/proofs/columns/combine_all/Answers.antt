use native.Mathlib.Omega.{arith}
use borrow.Author.Rules.{rules}
use Rattle.machine.specs.Combining.{combined_to}
use Rattle.machine.proofs.Ranges.{column-room}
use Rattle.combiner.proofs.Combined.{column_next}
use Rattle.combiner.proofs.columns.combine_all.Goals as goal

pub loop-c-init : goal.loop-c-init
unfolding combined_to
loop-c-init c = (search rules, search rules)

pub loop-c-preserved : goal.loop-c-preserved
loop-c-preserved c =
    let a = c.args in
    let r = column-room c.loop-c.c a.n a.q (omega arith) in
    (search rules, column_next a.first.now a.second.now c.loop-c.out c.combine_column.new.out a.q c.loop-c.c _ c.requires.1.1.1 (omega (arith, r)) (omega (arith, r)) c.combine_column.ensures c.loop-c.invariant.1)
