use mathlib.Core.Path.{refl, ap₂}
use native.Mathlib.Omega.{arith}
use lib.Dec.{ltb}
use Rattle.machine.specs.Lent.{lent}
use Rattle.layered.proofs.Loans.{own-loans, own-scratch, same-scratch}
use Rattle.layered.proofs.Advances.{going_start, going_end, going_updatable, going_retest, going_found, going_next}
use Rattle.layered.proofs.early.go_on.Goals as goal

pub loop-u-init : goal.loop-u-init
loop-u-init c =
    (going_start c.args.code.now c.args.most (lent c.args.b.now.costs.now c.args.b.now.store.now) c.args.b.now.costs.now c.args.b.now.store.now c.args.b.now.symbols.now c.requires.unsettled refl, (own-loans, own-scratch))

pub returns-then-u-most : goal.returns-then-u-most
returns-then-u-most c =
    record {
      ends = going_end c.args.code.now c.args.most (lent c.args.b.now.costs.now c.args.b.now.store.now) c.loop-u.u c.loop-u.here c.loop-u.from c.loop-u.b.costs.now c.loop-u.b.store.now c.loop-u.b.symbols.now c.loop-u.invariant.0 c.if-u-most.true;
      symbols_then = c.loop-u.invariant.0.unsettled.decided;
      loans = c.loop-u.invariant.1.0;
      scratch = c.loop-u.invariant.1.1;
    }

pub update_at-next-requires : goal.update_at-next-requires
update_at-next-requires c =
    record { updatable = going_updatable c.args.code.now c.args.most (lent c.args.b.now.costs.now c.args.b.now.store.now) c.loop-u.u c.loop-u.here c.loop-u.from c.loop-u.b.costs.now c.loop-u.b.store.now c.loop-u.b.symbols.now c.loop-u.invariant.0 _ (ap₂ ltb c.from.ensures c.from-count.ensures); stands = c.loop-u.invariant.0.stands; arrived = omega (arith, c.requires.arrived, c.loop-u.invariant.1.1.arrived_length); sent = omega (arith, c.requires.sent, c.loop-u.invariant.1.1.sent_length) }

pub overflow_add-u : goal.overflow_add-u
overflow_add-u c =
    omega (arith, c.loop-u.invariant.0.at_most, c.if-u-most.false, c.ranges.most)

pub tested_again-requires : goal.tested_again-requires
tested_again-requires c =
    going_retest c.args.code.now c.args.most (lent c.args.b.now.costs.now c.args.b.now.store.now) c.loop-u.u c.loop-u.here c.loop-u.from c.loop-u.b.costs.now c.loop-u.b.store.now c.loop-u.b.symbols.now c.loop-u.invariant.0 _ (ap₂ ltb c.from.ensures c.from-count.ensures) _ _ c.update_at-next.ensures.buffers

pub returns-in-None-clause-ends : goal.returns-in-None-clause-ends
returns-in-None-clause-ends c =
    going_found c.args.code.now c.args.most (lent c.args.b.now.costs.now c.args.b.now.store.now) c.loop-u.u c.loop-u.here c.loop-u.from c.loop-u.b.costs.now c.loop-u.b.store.now c.loop-u.b.symbols.now c.loop-u.invariant.0 _ (ap₂ ltb c.from.ensures c.from-count.ensures) _ _ c.update_at-next.ensures.buffers (omega (arith, c.loop-u.invariant.0.at_most, c.if-u-most.false)) (rw c.in-None.is at c.tested_again.ensures.test)

pub returns-in-None-clause-loans : goal.returns-in-None-clause-loans
returns-in-None-clause-loans c =
    record { symbols = c.loop-u.invariant.1.0.symbols; costs = c.loop-u.invariant.1.0.costs; store = c.loop-u.invariant.1.0.store; margins = c.loop-u.invariant.1.0.margins; symbols_length = omega (arith, c.tested_again.auto, c.loop-u.invariant.1.0.symbols_length); costs_length = omega (arith, c.update_at-next.auto, c.loop-u.invariant.1.0.costs_length); store_length = omega (arith, c.update_at-next.auto, c.loop-u.invariant.1.0.store_length); margins_length = c.loop-u.invariant.1.0.margins_length }

pub returns-in-None-clause-scratch : goal.returns-in-None-clause-scratch
returns-in-None-clause-scratch c =
    same-scratch c.loop-u.invariant.1.1 c.update_at-next.ensures.scratch

pub loop-u-smaller : goal.loop-u-smaller
loop-u-smaller c =
    omega (arith, c.loop-u.invariant.0.at_most, c.if-u-most.false)

pub loop-u-preserved : goal.loop-u-preserved
loop-u-preserved c =
    (going_next c.args.code.now c.args.most (lent c.args.b.now.costs.now c.args.b.now.store.now) c.loop-u.u c.loop-u.here c.loop-u.from c.loop-u.b.costs.now c.loop-u.b.store.now c.loop-u.b.symbols.now c.loop-u.invariant.0 _ (ap₂ ltb c.from.ensures c.from-count.ensures) _ _ c.update_at-next.ensures.buffers (omega (arith, c.loop-u.invariant.0.at_most, c.if-u-most.false)) c.in-Some.check (rw c.in-Some.is at c.tested_again.ensures.test) c.from-count.result c.from-count.ensures c.update_at-next.result _ c.update_at-next.ensures.next c.around-here.ensures _ c.tested_again.ensures.symbols_then, (record { symbols = c.loop-u.invariant.1.0.symbols; costs = c.loop-u.invariant.1.0.costs; store = c.loop-u.invariant.1.0.store; margins = c.loop-u.invariant.1.0.margins; symbols_length = omega (arith, c.tested_again.auto, c.loop-u.invariant.1.0.symbols_length); costs_length = omega (arith, c.update_at-next.auto, c.loop-u.invariant.1.0.costs_length); store_length = omega (arith, c.update_at-next.auto, c.loop-u.invariant.1.0.store_length); margins_length = c.loop-u.invariant.1.0.margins_length }, same-scratch c.loop-u.invariant.1.1 c.update_at-next.ensures.scratch))
