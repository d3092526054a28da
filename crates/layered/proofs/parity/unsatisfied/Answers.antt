use mathlib.Core.Path.{refl}
use Prim.Native.Nat.{◌<◌}
use native.Mathlib.Omega.{arith}
use Rattle.codeline.specs.Codes.{lent_code}
use Rattle.machine.proofs.Places.{before_more}
use Rattle.layered.proofs.Satisfied.{degree, edge-room, edges-end, sum_more, sum-holds, sum-not, between_more}
use Rattle.layered.proofs.parity.unsatisfied.Goals as goal

pub checks-init : goal.checks-init
checks-init c =
    (omega arith, (c.requires.1.ordered, (c.requires.1.edge_is, λ j h i. absurd (omega arith))))

pub bounds-code-m : goal.bounds-code-m
bounds-code-m c =
    omega (arith, c.requires.1.inside, c.checks.invariant, c.args.code.now.coded.for_degrees)

pub loop-n-init : goal.loop-n-init
loop-n-init c = (omega arith, refl)

pub overflow_add-at : goal.overflow_add-at
overflow_add-at c =
    let h = (let h : c.checks.m < c.args.code.now.numbers.checks = omega (arith, c.requires.1.inside, c.checks.invariant) in h) in omega (arith, edges-end c.args.code.now c.args.symbols.now c.requires.0 c.checks.m c.loop-n.n c.checks.at c.from-d.result h c.checks.invariant.1.1.0 c.from-d.ensures)

pub term_at-sum-requires : goal.term_at-sum-requires
term_at-sum-requires c =
    let h = (let h : c.checks.m < c.args.code.now.numbers.checks = omega (arith, c.requires.1.inside, c.checks.invariant) in h) in edge-room c.args.code.now c.args.symbols.now c.requires.0 c.checks.m c.loop-n.n c.checks.at c.from-d.result h c.checks.invariant.1.1.0 c.from-d.ensures (omega arith)

pub overflow_add-n : goal.overflow_add-n
overflow_add-n c = omega arith

pub loop-n-smaller : goal.loop-n-smaller
loop-n-smaller c = omega arith

pub loop-n-preserved : goal.loop-n-preserved
loop-n-preserved c =
    let h = (let h : c.checks.m < c.args.code.now.numbers.checks = omega (arith, c.requires.1.inside, c.checks.invariant) in h) in (omega arith, sum_more c.args.code.now c.args.symbols.now c.requires.0 c.checks.m c.loop-n.n c.checks.at c.from-d.result h c.checks.invariant.1.1.0 c.from-d.ensures (omega arith) c.loop-n.sum c.term_at-sum.result c.loop-n.invariant.1 c.term_at-sum.ensures)

pub overflow_add-at-in-checks : goal.overflow_add-at-in-checks
overflow_add-at-in-checks c =
    let h = (let h : c.checks.m < c.args.code.now.numbers.checks = omega (arith, c.requires.1.inside, c.checks.invariant) in h) in omega (arith, edges-end c.args.code.now c.args.symbols.now c.requires.0 c.checks.m 0 c.checks.at c.from-d.result h c.checks.invariant.1.1.0 c.from-d.ensures)

pub overflow_add-m : goal.overflow_add-m
overflow_add-m c =
    let h = (let h : c.checks.m < c.args.code.now.numbers.checks = omega (arith, c.requires.1.inside, c.checks.invariant) in h) in omega (arith, h)

pub checks-smaller : goal.checks-smaller
checks-smaller c =
    omega (arith, c.checks.invariant)

pub checks-preserved : goal.checks-preserved
checks-preserved c =
    let h = (let h : c.checks.m < c.args.code.now.numbers.checks = omega (arith, c.requires.1.inside, c.checks.invariant) in h) in (omega (arith, c.checks.invariant), (omega (arith, c.checks.invariant), (before_more c.args.code.now.degrees.now c.checks.m c.checks.at c.from-d.result c.checks.invariant.1.1.0 c.from-d.ensures, between_more (lent_code c.args.code.now) c.args.symbols.now c.args.from.check c.checks.m c.checks.invariant.1.1.1 (sum-holds (lent_code c.args.code.now) c.args.symbols.now c.checks.m c.from-d.result c.loop-n.n c.loop-n.sum (degree c.args.code.now c.args.symbols.now c.requires.0 c.checks.m c.loop-n.n c.checks.at c.from-d.result h c.checks.invariant.1.1.0 c.from-d.ensures) c.if-n-d.true c.loop-n.invariant.1 c.if-sum-ne0.false))))

pub returns-then-m-to : goal.returns-then-m-to
returns-then-m-to c =
    λ j h i. c.checks.invariant.1.1.1 j h (omega (arith, i, c.if-m-to.true))

pub returns-then-sum-ne0 : goal.returns-then-sum-ne0
returns-then-sum-ne0 c =
    let h : c.checks.m < c.args.code.now.numbers.checks = omega (arith, c.requires.1.inside, c.checks.invariant) in
    record {
      edge_is = c.checks.invariant.1.1.0;
      low = c.checks.invariant.0;
      high = omega (arith, c.checks.invariant);
      before_it = c.checks.invariant.1.1.1;
      not_it = sum-not (lent_code c.args.code.now) c.args.symbols.now c.checks.m c.from-d.result c.loop-n.n c.loop-n.sum (degree c.args.code.now c.args.symbols.now c.requires.0 c.checks.m c.loop-n.n c.checks.at c.from-d.result h c.checks.invariant.1.1.0 c.from-d.ensures) c.if-n-d.true c.loop-n.invariant.1 c.if-sum-ne0.true;
    }
