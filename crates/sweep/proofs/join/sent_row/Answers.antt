use borrow.Author.Rules.{rules}
use Rattle.trellis.proofs.Loops.{fill_next}
use native.Mathlib.Omega.{arith}
use Rattle.trellis.specs.Field.{xor}
use Rattle.sweep.specs.inner.Joins.{join_at}
use Rattle.sweep.proofs.join.sent_row.Goals as goal

pub join_at-requires : goal.join_at-requires
unfolding xor
join_at-requires c =
    c.args.sides.now.sums.sum c.loop-a.a c.args.s (omega (arith, c.requires.s_lt_q.1, c.loop-a-test.true, c.loop-a.invariant.0)) c.requires.s_lt_q.0

pub loop-a-preserved : goal.loop-a-preserved
unfolding xor
loop-a-preserved c =
    let before = c.args.sides.now.before.now in
    let after = c.args.sides.now.after.now in
    let greatest = c.args.sides.now.greatest in
    let k = c.args.sides.now.k in
    let q = c.args.sides.now.q in
    let h = c.requires.byte_costs_room.small c.loop-a.a (omega (arith, c.requires.s_lt_q.1, c.loop-a-test.true, c.loop-a.invariant.0)) in
    (search rules, fill_next (λ a. join_at greatest q k before after (xor a c.args.s)) c.loop-a.out c.loop-a.a _ (omega arith) c.loop-a.invariant.1 c.join_at.ensures.0)

pub overflow_cast-cost : goal.overflow_cast-cost
unfolding xor
overflow_cast-cost c =
    omega (arith, c.join_at.ensures.0, c.requires.byte_costs_room.small c.loop-a.a (omega (arith, c.requires.s_lt_q.1)))
